-- What marking a level asks stands in the tables, and a level's marks with those below it are sound for every word. Assumes nothing.
use mathlib.Core.Path.{◌≡◌}
use mathlib.Core.Bool.{true, false}
use mathlib.Core.List.{List}
use Prim.Native.Nat.{ℕ, suc, ◌+◌, ◌*◌, ◌<◌, ◌≤◌}
use native.Mathlib.Omega.{arith}
use lib.IntN.{ℤ}
use lib.ListN.{get_or, replicate, length-replicate, get_or-replicate}
use Rattle.automata.specs.Tree.{Automaton}
use Rattle.lookup.specs.Alts.{table_automaton}
use Rattle.meeting.specs.declared.Level.{Level}
use Rattle.hinting.specs.Hint.{Ground, Hinted}
use Rattle.matching.specs.Levels.{IsLevel, NextFits}
use Rattle.matching.specs.Seeking.{Seeking}
use Rattle.matching.proofs.Turns.{next_fits, long-level, leaf-stage, levels-few, stage}
use Rattle.matching.proofs.Sounding.{ground_last, ground_inner, sound_last, sound_more}
use Rattle.matching.proofs.Roots.{root_level, root_level_lem}
use Rattle.foreseeing.specs.Foresee.{Both, Foreseeing, IsWord, Foreseen}

-- a word of zeros
zeros : (n : ℕ) → IsWord (replicate (n + 1) 0) n
zeros n = record {
  letters = omega (arith, length-replicate {A = ℕ} (n + 1) 0);
  small = λ i le. let lt : i < n + 1 = omega arith in omega (arith, get_or-replicate {A = ℕ} (n + 1) i 0 0 lt);
}

module _ {rows masks : List ℕ} {coefs : List ℤ} {counts first end_rows end_masks : List ℕ} {end_coefs : List ℤ} {end_counts end_first : List ℕ} {wide : ℕ} where
  -- the search's ground, by any word
  seeking : {size at m : ℕ} {l : Level} {word : List ℕ} → Foreseeing rows masks coefs counts first end_rows end_masks end_coefs end_counts end_first wide size at m l → IsWord word (at + m)
      → Seeking rows masks coefs counts first end_rows end_masks end_coefs end_counts end_first word wide size at m l
  seeking t w = record {
    lent = record { image = t.both.image; ends = t.both.ends; letters = w.letters; small = w.small; long = t.both.long; narrow = t.both.narrow };
    here = t.here;
  }

  -- the same in a row of marks as long, and of as many levels
  pub foresee-again : {size size' at m m' : ℕ} {l : Level} → size' ≡ size → m' ≡ m → Foreseeing rows masks coefs counts first end_rows end_masks end_coefs end_counts end_first wide size at m l
      → Foreseeing rows masks coefs counts first end_rows end_masks end_coefs end_counts end_first wide size' at m' l
  foresee-again e f t = rw (e, f) t

  module _ {size at : ℕ} {l : Level} where
    pub level-long : (m : ℕ) → Foreseeing rows masks coefs counts first end_rows end_masks end_coefs end_counts end_first wide size at m l → l.to * wide ≤ size
    level-long m t = long-level m (seeking t (zeros (at + m)))

    pub levels-small : (m : ℕ) → Foreseeing rows masks coefs counts first end_rows end_masks end_coefs end_counts end_first wide size at m l → at + m ≤ 20
    levels-small m t = levels-few m (seeking t (zeros (at + m)))

    pub next-there : (m : ℕ) → Foreseeing rows masks coefs counts first end_rows end_masks end_coefs end_counts end_first wide size at (suc m) l → NextFits counts end_counts at
    next-there m t = next_fits m (seeking t (zeros (at + suc m)))

    pub last_ground : Foreseeing rows masks coefs counts first end_rows end_masks end_coefs end_counts end_first wide size at 0 l → Ground true rows masks coefs first end_rows end_masks end_coefs end_first wide size l
    last_ground t = ground_last (leaf-stage (seeking t (zeros (at + 0))))

    module _ {next : Level} (m : ℕ) (t : Foreseeing rows masks coefs counts first end_rows end_masks end_coefs end_counts end_first wide size at (suc m) l) (is : IsLevel counts end_counts (at + 1) next) where
      pub inner_ground : Ground false rows masks coefs first end_rows end_masks end_coefs end_first wide size l
      inner_ground = ground_inner coefs end_coefs (stage m (seeking t (zeros (at + suc m))) is)

      pub foresee_next : Foreseeing rows masks coefs counts first end_rows end_masks end_coefs end_counts end_first wide size (at + 1) m next
      foresee_next = let e : at + 1 + m ≡ at + suc m = omega arith in record { both = rw e t.both; here = is }

    -- ---- what is marked
    pub foreseen_last : {may may' : List ℕ} (m : ℕ) → m ≡ 0 → Foreseeing rows masks coefs counts first end_rows end_masks end_coefs end_counts end_first wide size at m l
        → ((c : ℕ) → Hinted true rows masks coefs first end_rows end_masks end_coefs end_first c wide may l may')
        → Foreseen (table_automaton rows masks coefs first) (table_automaton end_rows end_masks end_coefs end_first) counts end_counts wide may' at (at + m)
    foreseen_last m z t w = record { each = λ word k. sound_last m z (seeking t k) (w (get_or word at 0)) }

    pub foreseen_more : {mid may' : List ℕ} (m k : ℕ) → k ≡ suc m → Foreseeing rows masks coefs counts first end_rows end_masks end_coefs end_counts end_first wide size at k l
        → Foreseen (table_automaton rows masks coefs first) (table_automaton end_rows end_masks end_coefs end_first) counts end_counts wide mid (at + 1) (at + 1 + m)
        → ((c : ℕ) → Hinted false rows masks coefs first end_rows end_masks end_coefs end_first c wide mid l may')
        → Foreseen (table_automaton rows masks coefs first) (table_automaton end_rows end_masks end_coefs end_first) counts end_counts wide may' at (at + k)
    foreseen_more m k z t below w = record {
      each = λ word i.
          let e : at + 1 + m ≡ at + k = omega arith in
          sound_more m k z (seeking t i) (below.each word (rw e i)) (w (get_or word at 0));
    }

  -- ---- the first level
  pub first-level : {size n : ℕ} → Both rows masks coefs counts first end_rows end_masks end_coefs end_counts end_first wide size n
      → Foreseeing rows masks coefs counts first end_rows end_masks end_coefs end_counts end_first wide size 0 n (root_level counts end_counts)
  first-level {size} {n} t = let z : 0 + n ≡ n = omega arith in record { both = rw z t; here = root_level_lem counts end_counts }

pub all-levels : {S E : Automaton ℕ} {counts end_counts : List ℕ} {wide n : ℕ} {may : List ℕ} → Foreseen S E counts end_counts wide may 0 (0 + n) → Foreseen S E counts end_counts wide may 0 n
all-levels {n = n} t = let z : 0 + n ≡ n = omega arith in rw z at t
