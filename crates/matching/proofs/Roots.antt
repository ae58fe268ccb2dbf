-- The search begins on level 1 with one pair: the image's root and a root of the end set. Assumes nothing.
use mathlib.Core.Path.{◌≡◌, refl, sym, ap, ◌∙◌}
use mathlib.Core.Bool.{Bool, true, false}
use mathlib.Core.List.{List, [], ◌∷◌}
use Prim.Native.Nat.{ℕ, suc, ◌+◌, ◌*◌, ◌<◌, ◌≤◌}
use native.Mathlib.Omega.{arith}
use native.Mathlib.Numerals.{add-one}
use lib.IntN.{ℤ}
use lib.ListN.{length, get_or, take}
use Rattle.automata.specs.Tree.{Automaton}
use Rattle.automata.proofs.Words.{Word}
use Rattle.verdict.specs.Search.{found}
use Rattle.verdict.proofs.Searching.{matches}
use Rattle.meeting.specs.declared.Level.{Level}
use Rattle.meeting.specs.Met.{is_met}
use Rattle.matching.specs.Levels.{start_of, IsLevel}
use Rattle.matching.specs.Seeking.{word_from, Sound, Hints, Lent, Seeking}
use Rattle.matching.proofs.LevelLaws.{start-zero, start-next}
use Rattle.matching.proofs.Words.{any_none, word_found, word_is, word_of}

-- level 1: all its states are roots
abbrev pub root_level : List ℕ → List ℕ → Level
root_level counts end_counts = record { from = 0; to = get_or counts 0 0; start = 0; stop = get_or end_counts 0 0 }

pub root_level_lem : (counts end_counts : List ℕ) → IsLevel counts end_counts 0 (root_level counts end_counts)
root_level_lem counts end_counts = record {
  from = sym (start-zero counts);
  to = omega (arith, start-zero counts, start-next counts 0);
  start = sym (start-zero end_counts);
  stop = omega (arith, start-zero end_counts, start-next end_counts 0);
}

module _ {rows masks : List ℕ} {coefs : List ℤ} {counts first end_rows end_masks : List ℕ} {end_coefs : List ℤ} {end_counts end_first word : List ℕ} {wide size n : ℕ}
    (t : Lent rows masks coefs counts first end_rows end_masks end_coefs end_counts end_first word wide size n) where
  pub lent_again : {size' : ℕ} → size' ≡ size → Lent rows masks coefs counts first end_rows end_masks end_coefs end_counts end_first word wide size' n
  lent_again e = rw e t

  pub root_seeking : Seeking rows masks coefs counts first end_rows end_masks end_coefs end_counts end_first word wide size 0 n (root_level counts end_counts)
  root_seeking = let z : 0 + n ≡ n = omega arith in record { lent = rw z t; here = root_level_lem counts end_counts }

  -- the word that the table's search reads
  pub word_taken : word_from word 0 n ≡ take (n + 1) word
  word_taken = word_is word n 0 (omega (arith, t.letters)) ∙ ap (λ (k : ℕ). take k word) (sym (add-one n))

  pub word_whole : Word n (word_from word 0 n)
  word_whole = word_of word n 0 (λ i le. t.small i (omega arith))

  module _ (r e : ℕ) (root : r < get_or counts 0 0) (end_root : e < get_or end_counts 0 0) where
    -- a pair that could not match
    pub root_cannot : (S E : Automaton ℕ) (may : List ℕ) → Hints S E word counts end_counts wide may n → is_met wide may r e ≡ false → false ≡ found S E 1 n (take (n + 1) word) ((r, e) ∷ [])
    root_cannot S E may h f =
        sym (sym (ap (λ (w : List ℕ). found S E 1 n w ((r, e) ∷ [])) word_taken)
        ∙ sym (word_found S E n (word_from word 0 n) (r, e) word_whole)
        ∙ any_none (suc n) (λ v. matches S E 1 n (word_from word 0 n) v (r, e)) (λ v. go v (matches S E 1 n (word_from word 0 n) v (r, e)) refl))
      where
        go : (v : List ℕ) (b : Bool) → matches S E 1 n (word_from word 0 n) v (r, e) ≡ b → b ≡ false
        go v false k = refl
        go v true k =
            sym (h.sound.each 0 n (omega arith) (omega arith) r e (record { after = omega (arith, start-zero counts); before = omega (arith, start-zero counts, start-next counts 0) })
            (record { after = omega (arith, start-zero end_counts); before = omega (arith, start-zero end_counts, start-next end_counts 0) }) v k)
            ∙ f

-- marks that were made from level 1 on
pub all_hints : {S E : Automaton ℕ} {word counts end_counts : List ℕ} {wide n : ℕ} {may : List ℕ} → Sound S E word counts end_counts wide may 0 (0 + n) → start_of counts (suc n) * wide ≤ length may
    → Hints S E word counts end_counts wide may n
all_hints {n = n} s h = let z : 0 + n ≡ n = omega arith in record { sound = record { each = λ a k le e. s.each a k le (e ∙ sym z) }; long = h }
