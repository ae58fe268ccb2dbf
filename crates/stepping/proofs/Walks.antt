-- A walk over numbers of a range, each of which stands for some pairs: step by step the walk over those so far becomes that over all of them.
-- Assumes nothing.
use mathlib.Core.Path.{◌≡◌, refl, sym, ap, ap₂, ◌∙◌}
use mathlib.Core.Bool.{Bool, true, false, cond, ◌&&◌}
use mathlib.Core.List.{List}
use Prim.Native.Nat.{ℕ, ◌+◌, ◌-◌, ◌*◌, ◌<◌, ◌≤◌, max}
use native.Mathlib.Decide.{dec_lt}
use native.Mathlib.Omega.{arith}
use Rattle.meeting.specs.declared.Level.{Level}
use Rattle.meeting.specs.Met.{There, Emptied}
use Rattle.meeting.specs.All.{all_in, if_met, met_by, all_met}
use Rattle.meeting.proofs.AllLaws.{all_none, all_more, all_tells, all-is, all_ext}
use Rattle.meeting.proofs.Places.{words-before}
use Rattle.meeting.proofs.MetLaws.{Same, met_same, met_none}
use Rattle.stepping.specs.Step.{Ready, RowReady, Stage, Kept, Stepped, Gone}
use Rattle.stepping.proofs.Steps.{kept_same, kept_on}

and-true : (b : Bool) → b && true ≡ b
and-true true = refl
and-true false = refl

turn : (m i x : Bool) → i && (m && x) ≡ (m && i) && x
turn true i x = refl
turn false true x = refl
turn false false x = refl

fails : (whole part i x : Bool) → (whole ≡ true → part ≡ true) → (whole ≡ true → i ≡ true) → false ≡ i && (part && x) → false ≡ whole && x
fails false part i x f g e = refl
fails true part i x f g e = e ∙ ap₂ (λ (a b : Bool). a && (b && x)) (g refl) (f refl)

module _ (F : (ℕ → ℕ → Bool) → ℕ → Bool) (wide : ℕ) (met : List ℕ) (next : Level) (from : ℕ) where
  -- numbers from `from` up to below i are walked over
  abbrev pub Walked : ℕ → List ℕ → Bool → Type 0
  Walked i mid r = Stepped wide met next (λ g. all_in (F g) from (i - from)) mid r

  pub walk_true : (i : ℕ) → ((g : ℕ → ℕ → Bool) → all_in (F g) from (i - from) ≡ true) → Walked i met true
  walk_true i h = record { kept = kept_same wide met next.from; is = λ g. sym (ap (λ (b : Bool). b && all_met g wide met next) (h g)) }

  pub walk_none : Walked from met true
  walk_none = walk_true from (λ g. all_none (F g) from (from - from) (omega arith))

  pub walk_as : {mid : List ℕ} {r : Bool} (i j : ℕ) → ((g : ℕ → ℕ → Bool) → all_in (F g) from (j - from) ≡ all_in (F g) from (i - from)) → Walked i mid r → Walked j mid r
  walk_as i j same w = record { kept = w.kept; is = λ g. w.is g ∙ ap (λ (b : Bool). b && all_met g wide met next) (sym (same g)) }

  pub walk_all : {mid : List ℕ} (to i : ℕ) → to ≤ i → i ≤ max from to → Walked i mid true → Walked to mid true
  walk_all to i h k w = walk_as i to (λ g. ap (all_in (F g) from) (same (dec_lt to from))) w
    where
      same : Dec (to < from) → to - from ≡ i - from
      same (yes l) = omega arith
      same (no l) = omega arith

  module _ {mid met' : List ℕ} (i : ℕ) (after : from ≤ i) (w : Walked i mid true) (G : (ℕ → ℕ → Bool) → Bool) (is : (g : ℕ → ℕ → Bool) → G g ≡ F g i) {r : Bool}
      (step : Stepped wide mid next G met' r) where
    both_steps : (g : ℕ → ℕ → Bool) → r && all_met g wide met' next ≡ F g i && (all_in (F g) from (i - from) && all_met g wide met next)
    both_steps g = step.is g ∙ ap₂ ◌&&◌ (is g) (w.is g)

    pub walk_more : r ≡ true → Walked (i + 1) met' true
    walk_more e = record {
      kept = kept_on w.kept step.kept;
      is = λ g.
          ap (λ (b : Bool). b && all_met g wide met' next) (sym e) ∙ both_steps g ∙ turn (all_in (F g) from (i - from)) (F g i) (all_met g wide met next)
          ∙ ap (λ (b : Bool). b && all_met g wide met next) (sym (all_more (F g) from i after));
    }

    pub walk_stops : (to : ℕ) → i < to → r ≡ false → Walked to met' false
    walk_stops to before e = record {
      kept = kept_on w.kept step.kept;
      is = λ g.
          fails (all_in (F g) from (to - from)) (all_in (F g) from (i - from)) (F g i) (all_met g wide met next)
          (λ h. all-is (F g) from (i - from) (λ j lo hi. all_tells (F g) from (to - from) j h lo (omega arith))) (λ h. all_tells (F g) from (to - from) i h after (omega arith))
          (ap (λ (b : Bool). b && all_met g wide met' next) (sym e) ∙ both_steps g);
    }

-- ---- the pairs of one image state, whose marks are kept
same-pair : (K : (ℕ → ℕ → Bool) → ℕ → ℕ → Bool) {wide : ℕ} {met mid : List ℕ} {from : ℕ} → Kept wide met from mid → (s e : ℕ) → s < from → e < wide * 32
    → (g : ℕ → ℕ → Bool) → if_met (K g) wide mid s e ≡ if_met (K g) wide met s e
same-pair K k s e before small g = ap (λ (b : Bool). cond b (K g s e) true) (k.each s e before small)

pub same_state : (K : (ℕ → ℕ → Bool) → ℕ → ℕ → Bool) {rows masks first end_rows end_masks end_first : List ℕ} {wide size s start stop : ℕ} {next : Level}
    → RowReady rows masks first end_rows end_masks end_first wide size s start stop next → {met mid : List ℕ} → Kept wide met next.from mid
    → (g : ℕ → ℕ → Bool) → met_by (K g) wide mid s start (stop - start) ≡ met_by (K g) wide met s start (stop - start)
unfolding met_by
same_state K {wide = wide} {s = s} {start = start} {stop = stop} r {met} {mid} k g =
    all_ext (if_met (K g) wide mid s) (if_met (K g) wide met s) start (stop - start) (λ e lo hi.
    let h : e < stop = omega arith in
    same-pair K k s e (r.each e lo h).before (r.each e lo h).small g)

-- ---- what is asked stays asked
module _ {rows masks first end_rows end_masks end_first : List ℕ} {wide size size' : ℕ} (same : size' ≡ size) where
  pub ready-again : {s e : ℕ} {next : Level} → Ready rows masks first end_rows end_masks end_first wide size s e next → Ready rows masks first end_rows end_masks end_first wide size' s e next
  ready-again r = rw same r

  pub row-again : {s start stop : ℕ} {next : Level} → RowReady rows masks first end_rows end_masks end_first wide size s start stop next
      → RowReady rows masks first end_rows end_masks end_first wide size' s start stop next
  row-again r = rw same r

  pub stage-again : {l next : Level} → Stage rows masks first end_rows end_masks end_first wide size l next → Stage rows masks first end_rows end_masks end_first wide size' l next
  stage-again t = rw same t

module _ {rows masks first end_rows end_masks end_first : List ℕ} {wide size : ℕ} where
  pub own-place : {s e : ℕ} {next : Level} → Ready rows masks first end_rows end_masks end_first wide size s e next → There wide size s e
  own-place {s} {e} {next} r =
      let lt : s < next.to = omega (arith, r.before, r.levels) in
      record { long = omega (arith, words-before wide s next.to lt, r.long); narrow = r.small }

  pub stage-row : {l next : Level} → Stage rows masks first end_rows end_masks end_first wide size l next → (s : ℕ) → l.from ≤ s → s < l.to
      → RowReady rows masks first end_rows end_masks end_first wide size s l.start l.stop next
  stage-row t s lo hi = record {
    each = λ e lo' hi'. record {
      image = t.image s lo hi;
      ends = t.ends e lo' hi';
      before = omega (arith, t.below);
      levels = t.levels;
      small = omega (arith, t.small);
      long = t.long;
      narrow = t.narrow;
    };
  }

-- ---- from a next level on which none is met
pub gone : (K : (ℕ → ℕ → Bool) → ℕ → ℕ → Bool) {wide : ℕ} {met mid met' : List ℕ} (l : Level) {next : Level} {r : Bool} → l.to ≤ next.from → l.stop ≤ wide * 32 → next.stop ≤ wide * 32
    → Emptied wide met next.from next.to mid → Stepped wide mid next (λ g. all_met (K g) wide mid l) met' r → Gone wide met next (λ g. all_met (K g) wide met l) met' r
gone K {wide} {met} {mid} {met'} l {next} below small narrow w s = record {
  kept = kept_on first-kept s.kept;
  is = λ g.
      s.is g ∙ ap (λ (b : Bool). all_met (K g) wide mid l && b) (met_none g next narrow w) ∙ and-true (all_met (K g) wide mid l)
      ∙ met_same (K g) (K g) wide met mid l same (λ q e on. refl);
}
  where
    first-kept : Kept wide met next.from mid
    first-kept = record { each = λ q e lt k. w.before q e k lt }

    same : Same wide met mid l
    same = record { each = λ q e on. w.before q e (omega (arith, on.end_before)) (omega (arith, on.before)) }
