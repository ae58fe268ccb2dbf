-- A test of all pairs that are met on a level: what it says of each, that only the level's own marks matter, and what one pair more and none
-- at all make of it. Assumes nothing.
use mathlib.Core.Path.{◌≡◌, refl, sym, ap₂, ◌∙◌}
use mathlib.Core.Bool.{Bool, true, false, cond, ◌&&◌, false≢true}
use mathlib.Core.List.{List}
use Prim.Native.Nat.{ℕ, ◌-◌, ◌*◌, ◌<◌, ◌≤◌}
use native.Mathlib.Omega.{arith}
use lib.Dec.{eqb}
use borrow.Author.Tests.{eqb-true, eqb-false}
use Rattle.amplitude.proofs.Equal.{both}
use Rattle.meeting.specs.Met.{is_met, Meeting, Emptied}
use Rattle.meeting.specs.All.{if_met, met_by, met_in, all_met}
use Rattle.meeting.specs.declared.Level.{Level}
use Rattle.meeting.proofs.AllLaws.{same_test, all_tells, all-is, all_ext}

-- the pair stands on the level
pub record On (l : Level) (s e : ℕ) : Type 0 where
  pub after : l.from ≤ s
  pub before : s < l.to
  pub end_after : l.start ≤ e
  pub end_before : e < l.stop

-- all pairs that are met on the level pass, pair by pair
pub record Pass (g : ℕ → ℕ → Bool) (wide : ℕ) (met : List ℕ) (l : Level) : Type 0 where
  pub each : (s e : ℕ) → On l s e → is_met wide met s e ≡ true → g s e ≡ true

when_true : (a b : Bool) → a ≡ true → cond a b true ≡ true → b ≡ true
when_true true b e h = h
when_true false b e h = absurd (false≢true e)

is_when : (a b : Bool) → (a ≡ true → b ≡ true) → cond a b true ≡ true
is_when true b h = h refl
is_when false b h = refl

module _ (g : ℕ → ℕ → Bool) (wide : ℕ) (met : List ℕ) (l : Level) where
  pub met_tells : all_met g wide met l ≡ true → Pass g wide met l
  unfolding met_in met_by
  met_tells h = record {
    each = λ s e on m.
        let lo = on.after in
        let hi = on.before in
        let lo' = on.end_after in
        let hi' = on.end_before in
        when_true (is_met wide met s e) (g s e) m
        (all_tells (if_met g wide met s) l.start (l.stop - l.start) e
        (all_tells (λ (q : ℕ). met_by g wide met q l.start (l.stop - l.start)) l.from (l.to - l.from) s h lo (omega arith)) lo' (omega arith));
  }

  pub met_is : Pass g wide met l → all_met g wide met l ≡ true
  unfolding met_in met_by
  met_is p =
      all-is (λ (q : ℕ). met_by g wide met q l.start (l.stop - l.start)) l.from (l.to - l.from) (λ s lo hi.
      all-is (if_met g wide met s) l.start (l.stop - l.start) (λ e lo' hi'.
      is_when (is_met wide met s e) (g s e) (p.each s e (record { after = lo; before = omega arith; end_after = lo'; end_before = omega arith }))))

-- the marks of the level are the same
pub record Same (wide : ℕ) (met met' : List ℕ) (l : Level) : Type 0 where
  pub each : (s e : ℕ) → On l s e → is_met wide met' s e ≡ is_met wide met s e

-- another row with the same marks, and another test that agrees on the level
pub met_same : (g h : ℕ → ℕ → Bool) (wide : ℕ) (met met' : List ℕ) (l : Level) → Same wide met met' l → ((s e : ℕ) → On l s e → g s e ≡ h s e) → all_met g wide met' l ≡ all_met h wide met l
unfolding met_in met_by
met_same g h wide met met' l w t =
    all_ext (λ (q : ℕ). met_by g wide met' q l.start (l.stop - l.start)) (λ (q : ℕ). met_by h wide met q l.start (l.stop - l.start)) l.from (l.to - l.from) (λ s lo hi.
    all_ext (if_met g wide met' s) (if_met h wide met s) l.start (l.stop - l.start) (λ e lo' hi'.
    let on : On l s e = record { after = lo; before = omega arith; end_after = lo'; end_before = omega arith } in
    ap₂ (λ (a b : Bool). cond a b true) (w.each s e on) (t s e on)))

-- a test that no pair passes unless it passes another one
pub met_fails : (g h : ℕ → ℕ → Bool) (wide : ℕ) (met : List ℕ) (l : Level) → ((s e : ℕ) → On l s e → g s e ≡ true → h s e ≡ true) → all_met h wide met l ≡ false → all_met g wide met l ≡ false
met_fails g h wide met l t e =
    same_test (all_met g wide met l) false
    (λ k. sym e ∙ met_is h wide met l (record { each = λ s f on m. t s f on ((met_tells g wide met l k).each s f on m) })) (λ z. absurd (false≢true z))

-- ---- one pair more
module _ (g : ℕ → ℕ → Bool) {wide : ℕ} {met met' : List ℕ} {l : Level} {s e : ℕ} (narrow : l.stop ≤ wide * 32) (on : On l s e) (m : Meeting wide met s e met') where
  other-pair : (q f : ℕ) → On l q f → is_met wide met q f ≡ true → is_met wide met' q f ≡ true
  other-pair q f at h = go (eqb q s) refl (eqb f e) refl
    where
      small : f < wide * 32
      small = omega (arith, at.end_before)

      go : (a : Bool) → eqb q s ≡ a → (b : Bool) → eqb f e ≡ b → is_met wide met' q f ≡ true
      go false i b j = m.others q f small (λ p. eqb-false q s i p.0) ∙ h
      go true i false j = m.others q f small (λ p. eqb-false f e j p.1) ∙ h
      go true i true j = ap₂ (λ (x y : ℕ). is_met wide met' x y) (eqb-true q s i) (eqb-true f e j) ∙ m.here

  pass_more : g s e ≡ true → Pass g wide met l → Pass g wide met' l
  pass_more h p = record { each = λ q f at k. go q f at k (eqb q s) refl (eqb f e) refl }
    where
      go : (q f : ℕ) → On l q f → is_met wide met' q f ≡ true → (a : Bool) → eqb q s ≡ a → (b : Bool) → eqb f e ≡ b → g q f ≡ true
      go q f at k false i b j = p.each q f at (sym (m.others q f (omega (arith, at.end_before)) (λ x. eqb-false q s i x.0)) ∙ k)
      go q f at k true i false j = p.each q f at (sym (m.others q f (omega (arith, at.end_before)) (λ x. eqb-false f e j x.1)) ∙ k)
      go q f at k true i true j = ap₂ g (eqb-true q s i) (eqb-true f e j) ∙ h

  pub met_more : all_met g wide met' l ≡ g s e && all_met g wide met l
  met_more =
      same_test (all_met g wide met' l) (g s e && all_met g wide met l)
      (λ h.
      let p = met_tells g wide met' l h in
      ap₂ ◌&&◌ (p.each s e on m.here) (met_is g wide met l (record { each = λ q f at k. p.each q f at (other-pair q f at k) })))
      (λ h.
      let b = both (g s e) (all_met g wide met l) h in
      met_is g wide met' l (pass_more b.0 (met_tells g wide met l b.1)))

-- ---- none at all
pub met_none : (g : ℕ → ℕ → Bool) {wide : ℕ} {met met' : List ℕ} (l : Level) → l.stop ≤ wide * 32 → Emptied wide met l.from l.to met' → all_met g wide met' l ≡ true
met_none g {wide} {met} {met'} l narrow w =
    met_is g wide met' l (record {
      each = λ s e on h.
          absurd (false≢true (sym (w.within s e (omega (arith, on.end_before)) on.after on.before) ∙ h));
    })
