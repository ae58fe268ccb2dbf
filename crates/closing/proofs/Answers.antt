-- What the definitions of both jobs come to, by the tests that the code makes. Assumes nothing.
use mathlib.Core.Path.{◌≡◌, refl, sym, ap, ap₂, ◌∙◌}
use mathlib.Core.Bool.{Bool, true, false, not}
use mathlib.Core.List.{List, ◌++◌}
use Prim.Native.Nat.{ℕ, ◌<◌, ◌≤◌}
use lib.ListN.{length, drop}
use borrow.Author.Tests.{le-leb, lt-leb, lt-ltb, le-ltb}
use Rattle.stored.specs.Refusal.{Judged, good, need, refusal, no_source, circuit_source}
use Rattle.jobs.specs.Reply as def
use Rattle.cliffords.specs.Elements.{elements_most}
use Rattle.cliffords.specs.Words.{codes_of, letters_most}
use Rattle.cliffords.specs.Sequences.{all_of, inverse, closing}
use Rattle.cliffords.specs.Jobs.{sequence_most, is_element, all_elements, closing_judged, closing_reply, spell_judged, spell_reply, with_word, spell_output}

-- ---- a test that is turned round
pub turned-true : (b : Bool) → not b ≡ true → b ≡ false
turned-true true e = sym e
turned-true false e = refl

pub turned-false : (b : Bool) → not b ≡ false → b ≡ true
turned-false true e = refl
turned-false false e = sym e

-- ---- the closing element
module _ (seq : List ℕ) where
  abbrev judged_by : Bool → Bool → def.Reply
  judged_by short numbered = def.reply_of def.made (need short (refusal 23 circuit_source 0) (need numbered (refusal 22 circuit_source 0) (good (closing seq))))

  pub too_long : sequence_most < length seq → closing_reply seq ≡ def.refused (refusal 23 circuit_source 0)
  unfolding closing_reply closing_judged
  too_long h = ap (λ (b : Bool). judged_by b (all_elements seq)) (lt-leb (length seq) sequence_most h)

  module _ (h : length seq ≤ sequence_most) where
    pub too_large : all_elements seq ≡ false → closing_reply seq ≡ def.refused (refusal 22 circuit_source 0)
    unfolding closing_reply closing_judged
    too_large e = ap₂ judged_by (le-leb (length seq) sequence_most h) e

    pub closed_by : {p q : ℕ} → all_elements seq ≡ true → p ≡ all_of seq → q ≡ inverse p → closing_reply seq ≡ def.made q
    unfolding closing_reply closing_judged closing
    closed_by e is back = ap₂ judged_by (le-leb (length seq) sequence_most h) e ∙ ap def.made (sym (back ∙ ap inverse is))

-- ---- a word
module _ (e : ℕ) (output : List ℕ) where
  abbrev spelled_by : Bool → Bool → Judged (List ℕ)
  spelled_by long numbered = need long (refusal 17 no_source 0) (need numbered (refusal 22 circuit_source 0) (good (codes_of e)))

  abbrev told : Judged (List ℕ) → def.Reply
  told j = def.reply_of (λ w. def.made (length w)) j

  module _ (h : length output < letters_most) where
    pub short_reply : spell_reply e output ≡ def.refused (refusal 17 no_source 0)
    unfolding spell_reply spell_judged
    short_reply = ap (λ (b : Bool). told (spelled_by b (is_element e))) (lt-leb letters_most (length output) h)

    pub short_output : output ≡ spell_output e output
    unfolding spell_output spell_judged
    short_output = sym (ap (λ (b : Bool). with_word output (spelled_by b (is_element e))) (lt-leb letters_most (length output) h))

  module _ (h : letters_most ≤ length output) where
    module _ (k : elements_most ≤ e) where
      pub large_reply : spell_reply e output ≡ def.refused (refusal 22 circuit_source 0)
      unfolding spell_reply spell_judged
      large_reply = ap₂ (λ (b c : Bool). told (spelled_by b c)) (le-leb letters_most (length output) h) (le-ltb e elements_most k)

      pub large_output : output ≡ spell_output e output
      unfolding spell_output spell_judged
      large_output = sym (ap₂ (λ (b c : Bool). with_word output (spelled_by b c)) (le-leb letters_most (length output) h) (le-ltb e elements_most k))

    module _ (k : e < elements_most) where
      pub word_reply : {n : ℕ} → n ≡ length (codes_of e) → spell_reply e output ≡ def.made n
      unfolding spell_reply spell_judged
      word_reply is = ap₂ (λ (b c : Bool). told (spelled_by b c)) (le-leb letters_most (length output) h) (lt-ltb e elements_most k) ∙ ap def.made (sym is)

      pub word_output : {exit : List ℕ} → exit ≡ codes_of e ++ drop (length (codes_of e)) output → exit ≡ spell_output e output
      unfolding spell_output spell_judged
      word_output is = is ∙ sym (ap₂ (λ (b c : Bool). with_word output (spelled_by b c)) (le-leb letters_most (length output) h) (lt-ltb e elements_most k))
