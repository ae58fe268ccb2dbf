-- One level down, state by state: the children of the states so far are reached, until they are those of the whole level. Assumes nothing.
use mathlib.Core.Path.{◌≡◌, refl, sym, ap, ap₂, ◌∙◌}
use mathlib.Core.Bool.{Bool, true, false, cond, ◌&&◌}
use mathlib.Core.List.{List}
use mathlib.Core.Option.{Option, none}
use Prim.Native.Nat.{ℕ, ◌+◌, ◌-◌, ◌<◌, ◌≤◌, max}
use native.Mathlib.Decide.{dec_lt}
use native.Mathlib.Omega.{arith}
use Rattle.lookup.specs.Lookup.{pair_row}
use Rattle.meeting.specs.All.{all_in}
use Rattle.meeting.proofs.AllLaws.{all_none, all_more, all_tells, all-is}
use Rattle.stepping.specs.Step.{Kin}
use Rattle.stepping.proofs.Steps.{Move}
use Rattle.reaching.specs.Reached.{is_reached, if_reached, all_reached, both_pass, kids_in, KidsThere, Ready, Stage, Reaching, Emptied, Twice, Kept, Spread, Gone}
use Rattle.reaching.proofs.ReachLaws.{reached-more, reached-none, reached-same}

and-true : (b : Bool) → b && true ≡ b
and-true true = refl
and-true false = refl

regroup : (a b x : Bool) → b && (a && x) ≡ (a && b) && x
regroup true b x = refl
regroup false true x = refl
regroup false false x = refl

fails : (whole part i x : Bool) → (whole ≡ true → part ≡ true) → (whole ≡ true → i ≡ true) → false ≡ i && (part && x) → false ≡ whole && x
fails false part i x f g e = refl
fails true part i x f g e = e ∙ ap₂ (λ (a b : Bool). a && (b && x)) (g refl) (f refl)

-- ---- cells that stay
pub kept_same : (row : List ℕ) (from : ℕ) → Kept row from row
kept_same row from = record { each = λ q h. refl }

pub kept_on : {row mid row' : List ℕ} {from : ℕ} → Kept row from mid → Kept mid from row' → Kept row from row'
kept_on a b = record { each = λ q h. b.each q h ∙ a.each q h }

pub kept_less : {row row' : List ℕ} {from less : ℕ} → less ≤ from → Kept row from row' → Kept row less row'
kept_less le k = record { each = λ q h. k.each q (omega arith) }

reaching_keeps : {row row' : List ℕ} {s : ℕ} (from : ℕ) → from ≤ s → Reaching row s row' → Kept row from row'
reaching_keeps from h m = record { each = λ q lt. m.others q (λ e. omega arith) }

-- ---- one state
pub spread_none : (row : List ℕ) (from to : ℕ) (o : Option (ℕ × ℕ)) → o ≡ none → Spread row from to (λ g. both_pass g o) row false
spread_none row from to o e = record { kept = kept_same row from; is = λ g. rw e }

-- a state that is not reached asks nothing
pub spread_idle : (K : (ℕ → Bool) → ℕ → Bool) (row : List ℕ) (from to s : ℕ) → is_reached row s ≡ false → Spread row from to (λ g. if_reached (K g) row s) row true
spread_idle K row from to s e = record { kept = kept_same row from; is = λ g. sym (ap (λ (b : Bool). cond b (K g s) true && all_reached g row from to) e) }

pub spread_here : (K : (ℕ → Bool) → ℕ → Bool) {row row' : List ℕ} {from to s : ℕ} {r : Bool} → is_reached row s ≡ true → Spread row from to (λ g. K g s) row' r
    → Spread row from to (λ g. if_reached (K g) row s) row' r
spread_here K {row} {row'} {from} {to} {s} e p = record { kept = p.kept; is = λ g. p.is g ∙ sym (ap (λ (b : Bool). cond b (K g s) true && all_reached g row from to) e) }

module _ {rows masks first : List ℕ} {size s from to : ℕ} (ready : Ready rows masks first size s from to) {c i : ℕ} (m : Move rows masks first c s i) where
  kin : Kin rows i from to
  kin = ready.inner.each i m.after m.before

  pub kids-there : KidsThere rows size i
  kids-there = record { row = kin.wide; left = omega (arith, kin.left_to, ready.long); right = omega (arith, kin.right_to, ready.long) }

  pub spread_kids : {row row' : List ℕ} → Twice row (pair_row rows i) row' → Spread row from to (λ g. kids_in rows masks first c g s) row' true
  spread_kids {row} t = record {
    kept = kept_on (reaching_keeps from kin.left t.left) (reaching_keeps from kin.right t.right);
    is = λ g.
        reached-more g kin.right kin.right_to t.right ∙ ap (λ (b : Bool). g (pair_row rows i).1 && b) (reached-more g kin.left kin.left_to t.left)
        ∙ regroup (g (pair_row rows i).0) (g (pair_row rows i).1) (all_reached g row from to)
        ∙ sym (ap (λ (o : Option (ℕ × ℕ)). both_pass g o && all_reached g row from to) m.is);
  }

-- ---- state by state
module _ (K : (ℕ → Bool) → ℕ → Bool) (row : List ℕ) (from to till : ℕ) where
  -- the states from `from` up to below i are walked over
  abbrev pub Walked : ℕ → List ℕ → Bool → Type 0
  Walked i mid r = Spread row to till (λ g. all_reached (K g) row from i) mid r

  pub walk_none : Walked from row true
  unfolding all_reached
  walk_none = record {
    kept = kept_same row to;
    is = λ g. sym (ap (λ (b : Bool). b && all_reached g row to till) (all_none (if_reached (K g) row) from (from - from) (omega arith)));
  }

  pub walk_all : {mid : List ℕ} (i : ℕ) → to ≤ i → i ≤ max from to → Walked i mid true → Walked to mid true
  unfolding all_reached
  walk_all i h k w = record {
    kept = w.kept;
    is = λ g. w.is g ∙ ap (λ (n : ℕ). all_in (if_reached (K g) row) from n && all_reached g row to till) (same (dec_lt to from));
  }
    where
      same : Dec (to < from) → i - from ≡ to - from
      same (yes l) = omega arith
      same (no l) = omega arith

  module _ {mid row' : List ℕ} (i : ℕ) (after : from ≤ i) (before : i < to) (w : Walked i mid true) {r : Bool} (step : Spread mid to till (λ g. if_reached (K g) mid i) row' r) where
    both_steps : (g : ℕ → Bool) → r && all_reached g row' to till ≡ if_reached (K g) row i && (all_reached (K g) row from i && all_reached g row to till)
    both_steps g = step.is g ∙ ap₂ ◌&&◌ (ap (λ (b : Bool). cond b (K g i) true) (w.kept.each i before)) (w.is g)

    pub walk_more : r ≡ true → Walked (i + 1) row' true
    unfolding all_reached
    walk_more e = record {
      kept = kept_on w.kept step.kept;
      is = λ g.
          ap (λ (b : Bool). b && all_reached g row' to till) (sym e) ∙ both_steps g ∙ regroup (all_reached (K g) row from i) (if_reached (K g) row i) (all_reached g row to till)
          ∙ ap (λ (b : Bool). b && all_reached g row to till) (sym (all_more (if_reached (K g) row) from i after));
    }

    pub walk_stops : r ≡ false → Walked to row' false
    unfolding all_reached
    walk_stops e = record {
      kept = kept_on w.kept step.kept;
      is = λ g.
          fails (all_reached (K g) row from to) (all_reached (K g) row from i) (if_reached (K g) row i) (all_reached g row to till)
          (λ h. all-is (if_reached (K g) row) from (i - from) (λ j lo hi. all_tells (if_reached (K g) row) from (to - from) j h lo (omega arith))) (λ h. all_tells (if_reached (K g) row) from (to - from) i h after (omega arith))
          (ap (λ (b : Bool). b && all_reached g row' to till) (sym e) ∙ both_steps g);
    }

-- ---- what is asked stays asked
module _ {rows masks first : List ℕ} {size size' : ℕ} (same : size' ≡ size) where
  pub ready-again : {s from to : ℕ} → Ready rows masks first size s from to → Ready rows masks first size' s from to
  ready-again r = rw same r

  pub stage-again : {from to till : ℕ} → Stage rows masks first size from to till → Stage rows masks first size' from to till
  stage-again t = rw same t

pub stage_state : {rows masks first : List ℕ} {size from to till : ℕ} → Stage rows masks first size from to till → (s : ℕ) → from ≤ s → s < to → Ready rows masks first size s to till
stage_state t s lo hi = record { inner = t.inner s lo hi; before = hi; levels = t.levels; long = t.long }

-- ---- from a next level on which none is reached
pub gone : (K : (ℕ → Bool) → ℕ → Bool) {row mid row' : List ℕ} (from : ℕ) {to till : ℕ} {r : Bool} → Emptied row to till mid → Spread mid to till (λ g. all_reached (K g) mid from to) row' r
    → Gone row to till (λ g. all_reached (K g) row from to) row' r
gone K {row} {mid} {row'} from {to} {till} w s = record {
  kept = kept_on (record { each = λ q lt. w.before q lt }) s.kept;
  is = λ g.
      s.is g ∙ ap (λ (b : Bool). all_reached (K g) mid from to && b) (reached-none g w) ∙ and-true (all_reached (K g) mid from to)
      ∙ reached-same (K g) (K g) row mid from to (λ q lo hi. w.before q hi) (λ q lo hi. refl);
}
