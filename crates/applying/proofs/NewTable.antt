-- What building leaves is what the definitions judge: whether the sizes and the leaves fit, and where all fits, the set that the gate builds stands
-- in the slices. Assumes nothing.
use mathlib.Core.Path.{◌≡◌, refl, sym, ap, ap₂, ◌∙◌}
use mathlib.Core.Bool.{Bool, true, false, ◌&&◌}
use mathlib.Core.Logic.{inl, inr}
use mathlib.Core.List.{List}
use Prim.Native.Nat.{ℕ, ◌+◌}
use native.Mathlib.Omega.{arith}
use lib.Dec.{leb}
use lib.IntN.{ℤ}
use lib.ListN.{length, take}
use borrow.Author.Tests.{le-leb, lt-leb}
use Rattle.std.specs.Prelude.{Option, Some, None}
use Rattle.automata.specs.Sets.{TR, LF, QSet, sum}
use Rattle.stored.specs.Refusal.{Refusal, Judged, need, refusal, good, circuit_source}
use Rattle.stored.proofs.Reading.{records-count}
use Rattle.stored.proofs.WellFormed.{WellFormed}
use Rattle.gates.specs.Gate.{Gate}
use Rattle.gates.specs.Build.{growth, build_of, built}
use Rattle.gates.specs.Refuse.{sizes_fit, leaves_fit, judge_gate}
use Rattle.gates.proofs.Fits.{Fits}
use Rattle.gates.proofs.WellBuilt.{well_built}
use Rattle.refusals.specs.Refused.{seen}
use Rattle.tables.specs.Table.{tr_row, tr_rows, lf_rows, table_set}
use Rattle.tables.specs.States.{state_row, Rising}
use Rattle.tables.specs.Unpack.{Begun}
use Rattle.tables.specs.Ready.{Roomy, Unpacked}
use Rattle.tables.proofs.Ordered.{formed-rises}
use Rattle.tables.proofs.TableLaws.{row-states-rise}
use Rattle.building.specs.declared.Room.{Room}
use Rattle.building.specs.declared.Outcome.{Outcome}
use Rattle.building.specs.Whole.{TooMany, Made, Whole}
use Rattle.standing.specs.Standing.{form_of, Holding}
use Rattle.settling.specs.Result.{made_of, bounds_from, sized, picked}
use Rattle.settling.specs.Standing.{Lent, Indexable}
use Rattle.standing.proofs.StandingLaws.{holding}

-- what the code hands on of a set that passes a test
seen-need : (b : Bool) (r : Refusal) (j : Judged QSet) → need b r (seen form_of j) ≡ seen form_of (need b r j)
seen-need true r j = refl
seen-need false r j = refl

-- 14: levels that are too many
module _ (room : Room) (g : Gate) (Q : QSet) where
  pub over_sizes : TooMany room (build_of g Q) → sizes_fit (bounds_from room) (built g Q) ≡ false
  unfolding built
  over_sizes (inl h) = go (leb (sum (built g Q).counts) room.states)
    where
      go : (a : Bool) → a && (leb (length (built g Q).inner) room.inner && leb (length (built g Q).leaves) room.leaves) ≡ false
      go true = rw (lt-leb (length (built g Q).inner) room.inner h)
      go false = refl
  over_sizes (inr (inl h)) = go (leb (sum (built g Q).counts) room.states) (leb (length (built g Q).inner) room.inner)
    where
      go : (a c : Bool) → a && (c && leb (length (built g Q).leaves) room.leaves) ≡ false
      go true true = lt-leb (length (built g Q).leaves) room.leaves h
      go true false = refl
      go false c = refl
  over_sizes (inr (inr h)) = rw (lt-leb (sum (built g Q).counts) room.states h)

module _ {rows masks : List ℕ} {coefs : List ℤ} {counts : List ℕ} {room : Room} {r : Outcome} (g : Gate) (Q : QSet) (W : Made rows masks coefs counts room r (build_of g Q)) where
  abbrev N : QSet
  N = built g Q

  many-inner : r.inner ≡ length N.inner
  unfolding built tr_rows
  many-inner = sym (records-count (tr_row rows masks) 0 1 r.inner) ∙ ap length W.inner

  many-leaves : r.leaves ≡ length N.leaves
  unfolding built
  many-leaves = W.many_leaves

  many-states : r.states ≡ sum N.counts
  unfolding built
  many-states = W.states

  -- 14
  pub sizes_told : sizes_fit (bounds_from room) N ≡ true
  sizes_told =
      let s = le-leb (sum N.counts) room.states (omega (arith, many-states, W.states_few)) in
      let i = le-leb (length N.inner) room.inner (omega (arith, many-inner, W.inner_few)) in
      let l = le-leb (length N.leaves) room.leaves (omega (arith, many-leaves, W.leaves_few)) in
      rw (s, i, l)

  -- 16
  pub leaves-told : r.fits ≡ leaves_fit N
  unfolding built
  leaves-told = W.fitting

  pub form-made : {n k : ℕ} → n ≡ Q.n → k ≡ Q.k + growth g → made_of n k r ≡ form_of N
  unfolding built
  form-made {n} {k} en ek =
      ap (λ (m : ℕ). record { n = m; k = k; states = r.states; inner = r.inner; leaves = r.leaves }) en
      ∙ ap (λ (m : ℕ). record { n = Q.n; k = m; states = r.states; inner = r.inner; leaves = r.leaves }) ek
      ∙ ap (λ (m : ℕ). record { n = Q.n; k = Q.k + growth g; states = m; inner = r.inner; leaves = r.leaves }) many-states
      ∙ ap (λ (m : ℕ). record { n = Q.n; k = Q.k + growth g; states = sum N.counts; inner = m; leaves = r.leaves }) many-inner
      ∙ ap (λ (m : ℕ). record { n = Q.n; k = Q.k + growth g; states = sum N.counts; inner = length N.inner; leaves = m }) many-leaves

  -- ---- where all fits
  module _ (w : WellFormed (bounds_from room) Q) (f : Fits Q.n g) (small : leb (Q.k + growth g) 64 ≡ true) (fit : r.fits ≡ true) where
    formed : WellFormed (bounds_from room) N
    unfolding built
    formed = well_built (bounds_from room) Q w g f small sizes_told (sym leaves-told ∙ fit)

    counts-are : take (N.n + 1) counts ≡ N.counts
    unfolding built
    counts-are = ap (λ (m : ℕ). take m counts) (sym formed.counted) ∙ W.levels

    made-is : table_set N.n N.k rows masks coefs counts r.inner r.leaves ≡ N
    unfolding built table_set
    made-is =
        ap (λ (cs : List ℕ). record { n = N.n; k = N.k; counts = cs; inner = tr_rows rows masks 0 r.inner; leaves = lf_rows rows masks coefs r.inner r.leaves }) counts-are
        ∙ ap₂ (λ (ts : List TR) (ls : List LF). record { n = N.n; k = N.k; counts = N.counts; inner = ts; leaves = ls }) W.inner (W.leaves fit)

    rises : Rising (state_row rows) (r.inner + r.leaves)
    rises =
        row-states-rise N.n N.k rows masks coefs counts r.inner r.leaves made-is
        (rw (many-inner, many-leaves) (formed-rises (bounds_from room) N formed))

    pub indexable : {first : List ℕ} {n k : ℕ} → Lent rows masks coefs counts first n room → Indexable rows first (made_of n k r)
    indexable l = record {
      few = omega (arith, l.few, W.inner_few, W.leaves_few);
      wide = omega (arith, l.wide.wide, W.inner_few, W.leaves_few);
      begins = omega (arith, l.begins, W.states_few);
      rises = rises;
    }

    unpacked : {first : List ℕ} → Begun rows (r.inner + r.leaves) (r.states + 1) first → Unpacked rows masks coefs counts first N
    unpacked {first} begun =
        record {
          holds = record {
            is = rw (sym many-inner, sym many-leaves) made-is;
            begins = λ s le. rw (sym many-inner, sym many-leaves) (begun.each s (omega (arith, many-states)));
          };
          numbered = λ i lt. rw (sym many-inner) (W.numbered i (omega (arith, many-leaves)));
        }

    roomy : {first : List ℕ} → Lent rows masks coefs counts first Q.n room → Roomy rows masks coefs counts first N.n (sum N.counts) (length N.inner) (length N.leaves)
    unfolding built
    roomy l =
        let i = many-inner in
        let v = many-leaves in
        let s = many-states in
        let i_few = W.inner_few in
        let v_few = W.leaves_few in
        let s_few = W.states_few in
        record {
          table = record { wide = omega (arith, l.wide.wide); long = omega (arith, l.wide.long) };
          amplitudes = omega (arith, l.wide.deep);
          levels = l.levels;
          begins = omega (arith, l.begins);
          few = omega (arith, l.few);
        }

    pub new-holds : {first : List ℕ} → Lent rows masks coefs counts first Q.n room → Begun rows (r.inner + r.leaves) (r.states + 1) first → Holding rows masks coefs counts first N (bounds_from room)
    new-holds l begun = holding formed (unpacked begun) (roomy l)

-- ---- "gate by gate 15, 14, 16"
module _ {rows masks : List ℕ} {coefs : List ℤ} {counts : List ℕ} {room : Room} (g : Gate) (Q : QSet) (place : ℕ) {n k : ℕ} (en : n ≡ Q.n) (ek : k ≡ Q.k + growth g) where
  -- the sizes, then the leaves
  sized_told : (left : Option Outcome) → Whole rows masks coefs counts room left (build_of g Q)
      → sized left place n k ≡ seen form_of (need (sizes_fit (bounds_from room) (built g Q)) (refusal 14 circuit_source place) (need (leaves_fit (built g Q)) (refusal 16 circuit_source place) (good (built g Q))))
  sized_told None W = rw (over_sizes room g Q (W.over refl))
  sized_told (Some r) W =
      let D = W.made r refl in
      let f : made_of n k r ≡ form_of (built g Q) = form-made g Q D en ek in
      rw (sizes_told g Q D, f, leaves-told g Q D) (seen-need (leaves_fit (built g Q)) (refusal 16 circuit_source place) (good (built g Q)))

  pub result_told : (left : Option Outcome) → Whole rows masks coefs counts room left (build_of g Q) → picked (leb k 64) left place n k ≡ seen form_of (judge_gate (bounds_from room) place g Q)
  unfolding judge_gate built
  result_told left W =
      ap (need (leb k 64) (refusal 15 circuit_source place)) (sized_told left W)
      ∙ seen-need (leb k 64) (refusal 15 circuit_source place) (need (sizes_fit (bounds_from room) (built g Q)) (refusal 14 circuit_source place) (need (leaves_fit (built g Q)) (refusal 16 circuit_source place) (good (built g Q))))
      ∙ ap (λ (b : Bool). seen form_of (need b (refusal 15 circuit_source place) (need (sizes_fit (bounds_from room) (built g Q)) (refusal 14 circuit_source place) (need (leaves_fit (built g Q)) (refusal 16 circuit_source place) (good (built g Q)))))) (ap (λ (m : ℕ). leb m 64) ek)
