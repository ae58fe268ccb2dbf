-- Setting a bit of one word sets one mark, and a word of zeros has none: what stores to a row of words do to its marks. Assumes nothing.
use mathlib.Core.Path.{◌≡◌, refl, sym, ap, ◌∙◌}
use mathlib.Core.Bool.{Bool, true, false, ◌||◌}
use mathlib.Core.List.{List}
use Prim.Native.Nat.{ℕ, zero, suc, ◌+◌, ◌-◌, ◌*◌, ◌/◌, ◌%◌, ◌^◌, ◌<◌, ◌≤◌}
use native.Mathlib.Omega.{arith}
use lib.Dec.{eqb}
use lib.ListN.{length, get_or, set, replicate, take, drop, length-replicate, length-drop, get_or-replicate, get_or-append}
use Rattle.std.specs.Int.{bit_at}
use Rattle.std.proofs.lemmas.Nat.Bits.{bit_at_or, bit_at-lt, bit_at-pow_same, bit_at-pow_other}
use Rattle.std.proofs.lemmas.List.{get_or-append_right, places}
use borrow.Author.Rules.{rules}
use lib.Seq.{get_or-set_same, get_or-set_other, length-take-le}
use borrow.Author.Tests.{eqb-true, eqb-false}
use borrow.Rule.Slice.PartMut.{put_mid}
use Rattle.automata.specs.Choice.{has}
use Rattle.automata.proofs.Masks.{has_or, has-zero}
use Rattle.flags.specs.Flags.{flag_at, with_bit, Flagged, Cleared}

-- ---- one word
bit_here : (word b : ℕ) → has (with_bit word b) b ≡ true
bit_here word b =
    let e : bit_at (with_bit word b) b ≡ 1 = omega (arith, bit_at_or word (2 ^ b) b, bit_at-pow_same b, bit_at-lt word b) in
    ap (λ (x : ℕ). eqb x 1) e

bit_other : (word b c : ℕ) → (b ≡ c → ⊥) → has (with_bit word b) c ≡ has word c
bit_other word b c h =
    let e : bit_at (with_bit word b) c ≡ bit_at word c = omega (arith, bit_at_or word (2 ^ b) c, bit_at-pow_other b c (λ q. h (sym q))) in
    ap (λ (x : ℕ). eqb x 1) e

-- ---- one mark of a row
module _ (words : List ℕ) (i : ℕ) (there : i < length words * 32) where
  pub flagged : Flagged words i (set words (i / 32) (with_bit (get_or words (i / 32) 0) (i % 32)))
  unfolding flag_at
  flagged = record {
    here = ap (λ (x : ℕ). has x (i % 32)) (get_or-set_same words (i / 32) _ 0 (omega arith)) ∙ bit_here (get_or words (i / 32) 0) (i % 32);
    others = λ j h. other j h (eqb (j / 32) (i / 32)) refl;
  }
    where
      other : (j : ℕ) → (j ≡ i → ⊥) → (b : Bool) → eqb (j / 32) (i / 32) ≡ b
          → has (get_or (set words (i / 32) (with_bit (get_or words (i / 32) 0) (i % 32))) (j / 32) 0) (j % 32) ≡ has (get_or words (j / 32) 0) (j % 32)
      other j h true e =
          let same : j / 32 ≡ i / 32 = eqb-true (j / 32) (i / 32) e in
          let apart : i % 32 ≡ j % 32 → ⊥ = λ d. h (omega arith) in
          ap (λ (a : ℕ). has (get_or (set words (i / 32) (with_bit (get_or words (i / 32) 0) (i % 32))) a 0) (j % 32)) same
          ∙ ap (λ (x : ℕ). has x (j % 32)) (get_or-set_same words (i / 32) _ 0 (omega arith))
          ∙ bit_other (get_or words (i / 32) 0) (i % 32) (j % 32) apart
          ∙ ap (λ (a : ℕ). has (get_or words a 0) (j % 32)) (sym same)
      other j h false e = ap (λ (x : ℕ). has x (j % 32)) (get_or-set_other words (i / 32) (j / 32) _ 0 (eqb-false (j / 32) (i / 32) e))

-- ---- words filled with zeros
module _ (words part : List ℕ) (from to : ℕ) (lt : from < to) (fits : to ≤ length words) (e : part ≡ replicate (length (take (to - from) (drop from words))) 0) where
  long : length part ≡ to - from
  long = rw (e, length-replicate) (omega (arith, length-drop from words, length-take-le (to - from) (drop from words)))

  word-in : (j : ℕ) → from ≤ j → j < to → get_or (put_mid from (to - from) words part) j 0 ≡ 0
  word-in j h k =
      let l = long in
      let m : j - from < length (take (to - from) (drop from words)) = omega (arith, ap length e, length-replicate {A = ℕ} (length (take (to - from) (drop from words))) 0) in
      get_or-append_right (take from words) _ from j 0 (length-take-le from words (omega arith)) h
      ∙ get_or-append part _ 0 (j - from) (omega arith)
      ∙ rw e (get_or-replicate _ (j - from) 0 0 m)

  word-before : (j : ℕ) → j < from → get_or (put_mid from (to - from) words part) j 0 ≡ get_or words j 0
  word-before j h = search (rules, places)

  word-after : (j : ℕ) → to ≤ j → get_or (put_mid from (to - from) words part) j 0 ≡ get_or words j 0
  word-after j h = let l = long in search (rules, places)

  pub cleared : Cleared words from to (put_mid from (to - from) words part)
  unfolding flag_at
  cleared = record {
    within = λ j h k. ap (λ (x : ℕ). has x (j % 32)) (word-in (j / 32) h k) ∙ has-zero (j % 32);
    before = λ j h. ap (λ (x : ℕ). has x (j % 32)) (word-before (j / 32) h);
    after = λ j h. ap (λ (x : ℕ). has x (j % 32)) (word-after (j / 32) h);
  }
