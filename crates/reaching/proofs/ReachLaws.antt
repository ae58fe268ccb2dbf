-- A test of all reached states of a level: what it says of each, that only the level's own cells matter, and what one state more and none at
-- all make of it. Assumes nothing.
use mathlib.Core.Path.{◌≡◌, refl, sym, ap, ap₂, ◌∙◌}
use mathlib.Core.Bool.{Bool, true, false, cond, ◌&&◌, false≢true}
use mathlib.Core.List.{List}
use mathlib.Core.Option.{Option, none, some}
use Prim.Native.Nat.{ℕ, ◌+◌, ◌-◌, ◌<◌, ◌≤◌}
use native.Mathlib.Omega.{arith}
use lib.Dec.{eqb}
use lib.ListN.{length, get_or, set, replicate, take, drop, length-replicate, length-drop, get_or-replicate, get_or-append}
use Rattle.std.proofs.lemmas.List.{get_or-append_right, places}
use borrow.Author.Rules.{rules}
use lib.Seq.{get_or-set_same, get_or-set_other, length-take-le}
use borrow.Rule.Slice.PartMut.{put_mid}
use borrow.Author.Tests.{eqb-true, eqb-false}
use Rattle.amplitude.proofs.Equal.{both}
use Rattle.std.specs.Option as told
use Rattle.lookup.specs.Answer.{found}
use Rattle.lookup.specs.Lookup.{is_some}
use Rattle.meeting.proofs.AllLaws.{same_test, all_tells, all-is, all_ext}
use Rattle.reaching.specs.Reached.{is_reached, if_reached, all_reached, Reaching, Emptied}

-- all reached states of the level pass, one by one
pub record Pass (g : ℕ → Bool) (row : List ℕ) (from to : ℕ) : Type 0 where
  pub each : (s : ℕ) → from ≤ s → s < to → is_reached row s ≡ true → g s ≡ true

when_true : (a b : Bool) → a ≡ true → cond a b true ≡ true → b ≡ true
when_true true b e h = h
when_true false b e h = absurd (false≢true e)

is_when : (a b : Bool) → (a ≡ true → b ≡ true) → cond a b true ≡ true
is_when true b h = h refl
is_when false b h = refl

module _ (g : ℕ → Bool) (row : List ℕ) (from to : ℕ) where
  pub reached_tells : all_reached g row from to ≡ true → Pass g row from to
  unfolding all_reached
  reached_tells h = record { each = λ s lo hi m. when_true (is_reached row s) (g s) m (all_tells (if_reached g row) from (to - from) s h lo (omega arith)) }

  pub reached-is : Pass g row from to → all_reached g row from to ≡ true
  unfolding all_reached
  reached-is p = all-is (if_reached g row) from (to - from) (λ s lo hi. is_when (is_reached row s) (g s) (p.each s lo (omega arith)))

-- another row with the same cells, and another test that agrees on the level
pub reached-same : (g h : ℕ → Bool) (row row' : List ℕ) (from to : ℕ) → ((s : ℕ) → from ≤ s → s < to → is_reached row' s ≡ is_reached row s) → ((s : ℕ) → from ≤ s → s < to → g s ≡ h s)
    → all_reached g row' from to ≡ all_reached h row from to
unfolding all_reached
reached-same g h row row' from to w t =
    all_ext (if_reached g row') (if_reached h row) from (to - from) (λ s lo hi. ap₂ (λ (a b : Bool). cond a b true) (w s lo (omega arith)) (t s lo (omega arith)))

-- ---- one state more
module _ (g : ℕ → Bool) {row row' : List ℕ} {from to s : ℕ} (after : from ≤ s) (before : s < to) (m : Reaching row s row') where
  other_state : (q : ℕ) → is_reached row q ≡ true → is_reached row' q ≡ true
  other_state q h = go (eqb q s) refl
    where
      go : (a : Bool) → eqb q s ≡ a → is_reached row' q ≡ true
      go false i = m.others q (eqb-false q s i) ∙ h
      go true i = ap (is_reached row') (eqb-true q s i) ∙ m.here

  pass_more : g s ≡ true → Pass g row from to → Pass g row' from to
  pass_more h p = record { each = λ q lo hi k. go q lo hi k (eqb q s) refl }
    where
      go : (q : ℕ) → from ≤ q → q < to → is_reached row' q ≡ true → (a : Bool) → eqb q s ≡ a → g q ≡ true
      go q lo hi k false i = p.each q lo hi (sym (m.others q (eqb-false q s i)) ∙ k)
      go q lo hi k true i = ap g (eqb-true q s i) ∙ h

  pub reached-more : all_reached g row' from to ≡ g s && all_reached g row from to
  reached-more =
      same_test (all_reached g row' from to) (g s && all_reached g row from to)
      (λ h.
      let p = reached_tells g row' from to h in
      ap₂ ◌&&◌ (p.each s after before m.here) (reached-is g row from to (record { each = λ q lo hi k. p.each q lo hi (other_state q k) })))
      (λ h.
      let b = both (g s) (all_reached g row from to) h in
      reached-is g row' from to (pass_more b.0 (reached_tells g row from to b.1)))

-- ---- none at all
pub reached-none : (g : ℕ → Bool) {row row' : List ℕ} {from to : ℕ} → Emptied row from to row' → all_reached g row' from to ≡ true
reached-none g {row} {row'} {from} {to} w = reached-is g row' from to (record { each = λ s lo hi h. absurd (false≢true (sym (w.within s lo hi) ∙ h)) })

-- ---- cells
pub cell_set : (row : List ℕ) (s : ℕ) → s < length row → Reaching row s (set row s 1)
unfolding is_reached
cell_set row s there = record {
  here = ap (λ (x : ℕ). eqb x 1) (get_or-set_same row s 1 0 there);
  others = λ q h. ap (λ (x : ℕ). eqb x 1) (get_or-set_other row s q 1 0 h);
}

-- ---- cells filled with zeros, from `from` up to below `to`
module _ (row part : List ℕ) (from to : ℕ) (lt : from < to) (fits : to ≤ length row) (e : part ≡ replicate (length (take (to - from) (drop from row))) 0) where
  cell-in : (j : ℕ) → from ≤ j → j < to → get_or (put_mid from (to - from) row part) j 0 ≡ 0
  cell-in j h k =
      let l : length part ≡ to - from = rw (e, length-replicate) (omega (arith, length-drop from row, length-take-le (to - from) (drop from row))) in
      let m : j - from < length (take (to - from) (drop from row)) = omega (arith, ap length e, length-replicate {A = ℕ} (length (take (to - from) (drop from row))) 0) in
      get_or-append_right (take from row) _ from j 0 (length-take-le from row (omega arith)) h
      ∙ get_or-append part _ 0 (j - from) (omega arith)
      ∙ rw e (get_or-replicate _ (j - from) 0 0 m)

  cell-before : (j : ℕ) → j < from → get_or (put_mid from (to - from) row part) j 0 ≡ get_or row j 0
  cell-before j h = search (rules, places)

  pub emptied : Emptied row from to (put_mid from (to - from) row part)
  unfolding is_reached
  emptied = record { within = λ q lo hi. ap (λ (x : ℕ). eqb x 1) (cell-in q lo hi); before = λ q h. ap (λ (x : ℕ). eqb x 1) (cell-before q h) }

-- ---- what a lookup's answer says
pub found_some : (o : Option ℕ) → told.is_some (found o) ≡ is_some o
found_some none = refl
found_some (some j) = refl
