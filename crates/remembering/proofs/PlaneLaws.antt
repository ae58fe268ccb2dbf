-- The stretches of plane after plane, compared or copied: planes have cells of their own. Assumes nothing.
use mathlib.Core.Path.{◌≡◌, refl, ◌∙◌}
use mathlib.Core.List.{List}
use Prim.Native.Nat.{ℕ, ◌+◌, ◌-◌, ◌*◌, ◌<◌, ◌≤◌}
use native.Mathlib.Decide.{ℕ_discrete}
use native.Mathlib.Omega.{arith}
use lib.ListN.{length, get_or}
use Rattle.meeting.proofs.Places.{words-before}
use Rattle.remembering.specs.Copies.{Equal, EqualPlanes, Spans, SpansPlanes, Copied, CopiedPlanes}

-- plane j's stretch lies in both lists
pub plane_spans : {from to plane p base size room : ℕ} (j : ℕ) → SpansPlanes from to plane p base size room → j < p → Spans (j * plane + from) (j * plane + to) base size room
plane_spans {plane = plane} {p = p} j w lt =
    let h = words-before plane j p lt in
    record {
      rising = omega (arith, w.rising);
      source = omega (arith, w.narrow, w.source);
      target = omega (arith, w.narrow, w.target);
    }

-- a target of the same length has room for the same stretch
pub later_spans : {from to base size room room' : ℕ} → room' ≡ room → Spans from to base size room → Spans from to base size room'
later_spans e w = record { rising = w.rising; source = w.source; target = omega (arith, w.target) }

-- what stands in plane j of a stretch
stretch : (plane from to base j : ℕ) {source target : List ℕ} → Equal (j * plane + from) (j * plane + to) base source target
    → (i : ℕ) → from ≤ i → i < to → get_or target (base + (j * plane + i)) 0 ≡ get_or source (j * plane + i) 0
stretch plane from to base j w i a b = w.cells (j * plane + i) (omega arith) (omega arith)

-- ---- comparing: the planes passed are the same
module _ (from to plane base : ℕ) (source target : List ℕ) where
  pub planes-begin : EqualPlanes from to plane 0 base source target
  planes-begin = record { cells = λ j i h a b. absurd (omega arith) }

  pub planes-next : (j : ℕ) → EqualPlanes from to plane j base source target → Equal (j * plane + from) (j * plane + to) base source target
      → EqualPlanes from to plane (j + 1) base source target
  planes-next j w e = record { cells = λ k i h a b. go k i h a b (ℕ_discrete k j) }
    where
      go : (k i : ℕ) → k < j + 1 → from ≤ i → i < to → Dec (k ≡ j) → get_or target (base + (k * plane + i)) 0 ≡ get_or source (k * plane + i) 0
      go k i h a b (yes q) = rw q (stretch plane from to base j e i a b)
      go k i h a b (no q) = w.cells k i (omega arith) a b

  pub planes-all : (j p : ℕ) → p ≤ j → EqualPlanes from to plane j base source target → EqualPlanes from to plane p base source target
  planes-all j p h w = record { cells = λ k i l a b. w.cells k i (omega arith) a b }

-- ---- copying: the planes passed are the source's
pub record CopyingPlanes (from to plane p base j : ℕ) (source entry target : List ℕ) : Type 0 where
  pub top : j ≤ p
  pub long : length target ≡ length entry
  pub done : CopiedPlanes from to plane j base source entry target

module _ (from to plane p base : ℕ) (source entry : List ℕ) where
  pub copies_begin : CopyingPlanes from to plane p base 0 source entry entry
  copies_begin = record {
    top = omega arith;
    long = refl;
    done = record { inside = record { cells = λ j i h a b. absurd (omega arith) }; outside = λ x h. refl };
  }

module _ {from to plane p base j : ℕ} {source entry target : List ℕ} (w : CopyingPlanes from to plane p base j source entry target) where
  pub copies_next : {target' : List ℕ} → j < p → to ≤ plane → length target' ≡ length target → Copied (j * plane + from) (j * plane + to) base source target target'
      → CopyingPlanes from to plane p base (j + 1) source entry target'
  copies_next {target'} lt narrow long e = record {
    top = omega arith;
    long = long ∙ w.long;
    done = record {
      inside = record { cells = λ k i h a b. go k i h a b (ℕ_discrete k j) };
      outside = λ x h.
          e.outside x (λ i a b q. h j (i - j * plane) (omega arith) (omega arith) (omega arith) (omega arith))
          ∙ w.done.outside x (λ k i l. h k i (omega arith));
    };
  }
    where
      go : (k i : ℕ) → k < j + 1 → from ≤ i → i < to → Dec (k ≡ j) → get_or target' (base + (k * plane + i)) 0 ≡ get_or source (k * plane + i) 0
      go k i h a b (yes q) = rw q (stretch plane from to base j e.inside i a b)
      go k i h a b (no q) =
          e.outside (base + (k * plane + i)) (λ x l m r. omega (arith, words-before plane k j (omega arith)))
          ∙ w.done.inside.cells k i (omega arith) a b

  pub copies_all : p ≤ j → CopiedPlanes from to plane p base source entry target
  copies_all h = record {
    inside = record { cells = λ k i l a b. w.done.inside.cells k i (omega arith) a b };
    outside = λ x q. w.done.outside x (λ k i l. q k i (omega (arith, w.top)));
  }
