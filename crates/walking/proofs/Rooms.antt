-- What a walk asks of the tables and buffers stays asked from level to level. Assumes nothing.
use mathlib.Core.Path.{◌≡◌, refl, sym, ap, subst}
use mathlib.Core.Bool.{Bool, true, false}
use mathlib.Core.List.{List}
use Prim.Native.Nat.{ℕ, zero, suc, ◌+◌, ◌-◌, ◌*◌, ◌<◌, ◌≤◌}
use native.Mathlib.Decide.{dec_lt}
use native.Mathlib.Omega.{arith}
use lib.Dec.{eqb}
use lib.IntN.{ℤ}
use lib.ListN.{length, get_or, set, replicate}
use lib.Seq.{get_or-set_same, get_or-set_other}
use borrow.Author.Tests.{eqb-true, eqb-false}
use Rattle.automata.specs.Choice.{choices_most}
use Rattle.jobs.specs.Reply.{word_places}
use Rattle.matching.specs.Levels.{start_of, Among}
use Rattle.matching.specs.Seeking.{Lent}
use Rattle.matching.proofs.LevelLaws.{start-zero, start-next}
use Rattle.matching.proofs.Grounds.{starts-small, inner, leafy}
use Rattle.reaching.specs.Reached.{Stage, Ended}
use Rattle.walking.specs.Walk.{Both, Visiting}

start-rises : (cs : List ℕ) (a k : ℕ) → start_of cs a ≤ start_of cs (a + k)
start-rises cs a zero = let e : a ≡ a + 0 = omega arith in omega (arith, ap (start_of cs) e)
start-rises cs a (suc k) = let e : a + suc k ≡ suc (a + k) = omega arith in omega (arith, start-rises cs a k, start-next cs (a + k), ap (start_of cs) e)

pub start_up : (cs : List ℕ) (a b : ℕ) → a ≤ b → start_of cs a ≤ start_of cs b
start_up cs a b h = let e : a + (b - a) ≡ b = omega arith in omega (arith, start-rises cs a (b - a), ap (start_of cs) e)

pub small-set : (word : List ℕ) (at c : ℕ) → ((i : ℕ) → get_or word i 0 < choices_most) → c < choices_most → at < length word → (i : ℕ) → get_or (set word at c) i 0 < choices_most
small-set word at c h k there i = go (eqb i at) refl
  where
    go : (b : Bool) → eqb i at ≡ b → get_or (set word at c) i 0 < choices_most
    go true e = omega (arith, ap (λ (j : ℕ). get_or (set word at c) j 0) (eqb-true i at e), get_or-set_same word at c 0 there)
    go false e = omega (arith, get_or-set_other word at i c 0 (eqb-false i at e), h i)

pub zeros_small : (k i : ℕ) → get_or {A = ℕ} (replicate k 0) i 0 < choices_most
zeros_small zero i = omega arith
zeros_small (suc k) zero = omega arith
zeros_small (suc k) (suc i) = zeros_small k i

module _ {rows masks : List ℕ} {coefs : List ℤ} {counts first end_rows end_masks : List ℕ} {end_coefs : List ℤ} {end_counts end_first : List ℕ} {wide hints cells n : ℕ} where
  -- ---- both tables
  module _ (g : Both rows masks coefs counts first end_rows end_masks end_coefs end_counts end_first wide hints cells n) where
    pub both-again : {hints' cells' : ℕ} → hints' ≡ hints → cells' ≡ cells → Both rows masks coefs counts first end_rows end_masks end_coefs end_counts end_first wide hints' cells' n
    both-again d e = rw (d, e) g

    pub few-levels : n ≤ 20
    few-levels = omega (arith, g.image.formed.n_few, g.image.qubits)

    pub roots_few : get_or counts 0 0 < 65536
    roots_few = omega (arith, start-zero counts, start-next counts 0, starts-small g.image 1 (omega arith))

    pub roots-celled : get_or counts 0 0 ≤ cells
    roots-celled = omega (arith, start-zero counts, start-next counts 0, start_up counts 1 (suc n) (omega arith), g.celled)

    -- for the search: the tables, the word, and a row of marks of any length that is enough
    abbrev pub lent : (word : List ℕ) → length word ≡ word_places → ((i : ℕ) → get_or word i 0 < choices_most) → {row : ℕ} → start_of counts (suc n) * wide ≤ row
        → Lent rows masks coefs counts first end_rows end_masks end_coefs end_counts end_first word wide row n
    lent word long small enough = record {
      image = g.image;
      ends = g.ends;
      letters = omega (arith, few-levels);
      small = λ i le. small i;
      long = enough;
      narrow = g.narrow;
    }

    pub visit_begins : (root : ℕ) → root < get_or counts 0 0 → Visiting rows masks coefs counts first end_rows end_masks end_coefs end_counts end_first wide hints cells n 0 n 0 (get_or counts 0 0) root (replicate word_places 0)
    visit_begins root lt = record {
      both = g;
      levels = omega arith;
      begins = sym (start-zero counts);
      stops = omega (arith, start-zero counts, start-next counts 0);
      rooted = lt;
      small = zeros_small word_places;
    }

  -- ---- one level
  module _ {at m from to root : ℕ} {word : List ℕ} (v : Visiting rows masks coefs counts first end_rows end_masks end_coefs end_counts end_first wide hints cells n at m from to root word) where
    pub visit-again : {hints' cells' : ℕ} → hints' ≡ hints → cells' ≡ cells → Visiting rows masks coefs counts first end_rows end_masks end_coefs end_counts end_first wide hints' cells' n at m from to root word
    visit-again d e = rw (d, e) v

    pub at-few : at + m ≤ 20
    at-few = omega (arith, v.levels, few-levels v.both)

    pub level-celled : to ≤ cells
    level-celled = omega (arith, v.stops, start_up counts (suc at) (suc n) (omega (arith, v.levels)), v.both.celled)

    pub leaves-there : m ≡ 0 → (s : ℕ) → from ≤ s → s < to → Ended masks first s
    leaves-there z s lo hi =
        let e : at ≡ n = omega (arith, v.levels) in
        let l = leafy v.both.image s (subst (λ (k : ℕ). Among counts k s) e (record { after = omega (arith, v.begins); before = omega (arith, v.stops) })) in
        record { begun = l.begun; long = l.long }

    module _ (some : m ≡ 0 → ⊥) where
      less : at < n
      less = omega (arith, v.levels, one-there m some)
        where
          one-there : (k : ℕ) → (k ≡ 0 → ⊥) → 0 < k
          one-there zero h = absurd (h refl)
          one-there (suc k) h = omega arith

      module _ {till : ℕ} (e : till ≡ start_of counts (suc (suc at))) where
        pub stage : Stage rows masks first cells from to till
        stage = record {
          inner = λ s lo hi. rw (v.stops, e) (inner v.both.image at s less (record { after = omega (arith, v.begins); before = omega (arith, v.stops) }));
          levels = omega (arith, v.stops, start-next counts (suc at));
          long = omega (arith, start_up counts (suc (suc at)) (suc n) (omega (arith, less)), v.both.celled);
        }

    -- the rows of each state of the level are there
    pub states-there : (s : ℕ) → from ≤ s → s < to → Ended masks first s
    states-there s lo hi = go (dec_lt 0 m)
      where
        go : Dec (0 < m) → Ended masks first s
        go (yes some) = let i = (stage (λ z. omega arith) refl).inner s lo hi in record { begun = i.begun; long = i.long }
        go (no none) = leaves-there (omega arith) s lo hi
