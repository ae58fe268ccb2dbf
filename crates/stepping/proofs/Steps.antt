-- One pair's step: the children of both rows are met, and nothing else changes. Assumes nothing.
use mathlib.Core.Path.{◌≡◌, refl, sym, ap, ap₂, ◌∙◌}
use mathlib.Core.Bool.{Bool, true, false, ◌&&◌}
use mathlib.Core.List.{List}
use mathlib.Core.Option.{Option, none, some}
use Prim.Native.Nat.{ℕ, ◌+◌, ◌*◌, ◌<◌, ◌≤◌}
use native.Mathlib.Omega.{arith}
use lib.ListN.{get_or}
use Rattle.std.specs.declared.option.Option.{Option as Answer}
use Rattle.std.specs.declared.option.Option.TheVariants.{Some, None}
use Rattle.lookup.specs.Lookup.{transition_row, pair_row}
use Rattle.lookup.specs.Alts.{alts_from}
use Rattle.lookup.specs.Answer.{found}
use Rattle.meeting.specs.declared.Level.{Level}
use Rattle.meeting.specs.Met.{There, Meeting}
use Rattle.meeting.specs.All.{all_met}
use Rattle.meeting.proofs.Places.{words-before}
use Rattle.meeting.proofs.MetLaws.{On, met_more}
use Rattle.stepping.specs.Step.{move_in, kids, kids_in, Kin, KidsThere, Ready, Twice, Kept, Stepped}
use Rattle.stepping.proofs.Answers.{taken, not_taken}

-- ---- the row that a lookup found
pub record Move (rows masks first : List ℕ) (c s i : ℕ) : Type 0 where
  pub after : get_or first s 0 ≤ i
  pub before : i < get_or first (s + 1) 0
  pub is : move_in rows masks first c s ≡ some (pair_row rows i)

module _ (rows masks first : List ℕ) (s c : ℕ) {a : Answer ℕ} (e : a ≡ found (transition_row masks first s c)) where
  pub moves : (i : ℕ) → a ≡ Some i → Move rows masks first c s i
  unfolding alts_from
  moves i r = let t = taken (pair_row rows) masks first s c e i r in record { after = t.after; before = t.before; is = t.is }

  pub stays : a ≡ None → move_in rows masks first c s ≡ none
  unfolding alts_from
  stays r = not_taken (pair_row rows) masks first s c e r

-- ---- what is left
pub kept_same : (wide : ℕ) (met : List ℕ) (from : ℕ) → Kept wide met from met
kept_same wide met from = record { each = λ s e h k. refl }

no_kids : (g : ℕ → ℕ → Bool) (o : Option (ℕ × ℕ)) → kids g o none ≡ false
no_kids g none = refl
no_kids g (some p) = refl

module _ (wide : ℕ) (met : List ℕ) (next : Level) where
  pub step-none : (o p : Option (ℕ × ℕ)) → o ≡ none → Stepped wide met next (λ g. kids g o p) met false
  step-none o p e = record { kept = kept_same wide met next.from; is = λ g. rw e }

  pub step_no_end : (o p : Option (ℕ × ℕ)) → p ≡ none → Stepped wide met next (λ g. kids g o p) met false
  step_no_end o p e = record { kept = kept_same wide met next.from; is = λ g. sym (ap (λ (b : Bool). b && all_met g wide met next) (ap (kids g o) e ∙ no_kids g o)) }

regroup : (a b x : Bool) → b && (a && x) ≡ (a && b) && x
regroup true b x = refl
regroup false true x = refl
regroup false false x = refl

meeting_keeps : {wide : ℕ} {met met' : List ℕ} {s e : ℕ} (from : ℕ) → from ≤ s → Meeting wide met s e met' → Kept wide met from met'
meeting_keeps from h m = record { each = λ q f lt k. m.others q f k (λ p. omega (arith, p.0)) }

pub kept_on : {wide : ℕ} {met mid met' : List ℕ} {from : ℕ} → Kept wide met from mid → Kept wide mid from met' → Kept wide met from met'
kept_on a b = record { each = λ s e h k. b.each s e h k ∙ a.each s e h k }

pub step_both : (wide : ℕ) {met met' : List ℕ} {next : Level} (o p : Option (ℕ × ℕ)) (x y : ℕ × ℕ) → o ≡ some x → p ≡ some y
    → On next x.0 y.0 → On next x.1 y.1 → next.stop ≤ wide * 32 → Twice wide met x y met' → Stepped wide met next (λ g. kids g o p) met' true
step_both wide {met} {met'} {next} o p x y e f l r narrow t = record {
  kept = kept_on (meeting_keeps next.from l.after t.left) (meeting_keeps next.from r.after t.right);
  is = λ g.
      met_more g narrow r t.right ∙ ap (λ (b : Bool). g x.1 y.1 && b) (met_more g narrow l t.left)
      ∙ regroup (g x.0 y.0) (g x.1 y.1) (all_met g wide met next)
      ∙ sym (ap₂ (λ (a b : Option (ℕ × ℕ)). kids g a b && all_met g wide met next) e f);
}

-- ---- the pair's rows i and j
module _ {rows masks first end_rows end_masks end_first : List ℕ} {wide size s e : ℕ} {next : Level} (ready : Ready rows masks first end_rows end_masks end_first wide size s e next)
    {c d i j : ℕ} (m : Move rows masks first c s i) (n : Move end_rows end_masks end_first d e j) where
  kin : Kin rows i next.from next.to
  kin = ready.image.each i m.after m.before

  end_kin : Kin end_rows j next.start next.stop
  end_kin = ready.ends.each j n.after n.before

  left_on : On next (pair_row rows i).0 (pair_row end_rows j).0
  left_on = record { after = kin.left; before = kin.left_to; end_after = end_kin.left; end_before = end_kin.left_to }

  right_on : On next (pair_row rows i).1 (pair_row end_rows j).1
  right_on = record { after = kin.right; before = kin.right_to; end_after = end_kin.right; end_before = end_kin.right_to }

  there : (q f : ℕ) → On next q f → There wide size q f
  there q f on = record { long = omega (arith, words-before wide q next.to on.before, ready.long); narrow = omega (arith, on.end_before, ready.narrow) }

  pub kids-there : KidsThere rows end_rows wide size i j
  kids-there = record { row = kin.wide; end_row = end_kin.wide; left = there _ _ left_on; right = there _ _ right_on }

  pub stepped : {met met' : List ℕ} → Twice wide met (pair_row rows i) (pair_row end_rows j) met'
      → Stepped wide met next (λ g. kids_in rows masks first end_rows end_masks end_first c d g s e) met' true
  stepped t = step_both wide _ _ (pair_row rows i) (pair_row end_rows j) m.is n.is left_on right_on ready.narrow t
