-- One stretch of cells compared with another, or copied over it cell by cell: what is known of each cell. Assumes nothing.
use mathlib.Core.Path.{◌≡◌, refl, sym, ap, ◌∙◌}
use mathlib.Core.List.{List}
use Prim.Native.Nat.{ℕ, ◌+◌, ◌-◌, ◌<◌, ◌≤◌}
use native.Mathlib.Decide.{ℕ_discrete}
use native.Mathlib.Omega.{arith}
use lib.ListN.{length, get_or, set, length-set}
use lib.Seq.{get_or-set_same, get_or-set_other}
use Rattle.std.specs.List.{slice_range}
use Rattle.std.proofs.lemmas.List.Edits.{get_or-between}
use Rattle.remembering.specs.Copies.{Equal, Copied}

-- cell i of a stretch that begins at `from`
cell-of : (xs : List ℕ) (from to base i : ℕ) → from ≤ i → i < to → get_or (slice_range xs (base + from) (base + to)) (i - from) 0 ≡ get_or xs (base + i) 0
cell-of xs from to base i lo hi =
    let e : base + from + (i - from) ≡ base + i = omega arith in
    get_or-between xs (base + from) (base + to) (i - from) 0 (omega arith) ∙ ap (λ (j : ℕ). get_or xs j 0) e

cell-here : (xs : List ℕ) (from to i : ℕ) → from ≤ i → i < to → get_or (slice_range xs from to) (i - from) 0 ≡ get_or xs i 0
cell-here xs from to i lo hi =
    let e : from + (i - from) ≡ i = omega arith in
    get_or-between xs from to (i - from) 0 (omega arith) ∙ ap (λ (j : ℕ). get_or xs j 0) e

-- two stretches that are the same list have the same cells
pub cells-equal : (from to base : ℕ) (source target : List ℕ) → slice_range source from to ≡ slice_range target (base + from) (base + to)
    → Equal from to base source target
cells-equal from to base source target e = record {
  cells = λ i a b. sym (cell-of target from to base i a b) ∙ sym (ap (λ (v : List ℕ). get_or v (i - from) 0) e) ∙ cell-here source from to i a b;
}

-- the cells passed are the source's, and the others are as they were
pub record Copying (from to base i : ℕ) (source entry target : List ℕ) : Type 0 where
  pub after : from ≤ i
  pub top : i ≤ to
  pub long : length target ≡ length entry
  pub done : Copied from i base source entry target

module _ (from to base : ℕ) (source entry : List ℕ) where
  pub copy_begin : from ≤ to → Copying from to base from source entry entry
  copy_begin h = record {
    after = omega arith;
    top = h;
    long = refl;
    done = record { inside = record { cells = λ i a b. absurd (omega arith) }; outside = λ x h. refl };
  }

module _ {from to base i : ℕ} {source entry target : List ℕ} (w : Copying from to base i source entry target) where
  pub copy_next : i < to → base + to ≤ length entry → Copying from to base (i + 1) source entry (set target (base + i) (get_or source i 0))
  copy_next lt fits = record {
    after = omega (arith, w.after);
    top = omega arith;
    long = length-set target (base + i) (get_or source i 0) ∙ w.long;
    done = record {
      inside = record { cells = λ k a b. go k a b (ℕ_discrete k i) };
      outside = λ x h.
          get_or-set_other target (base + i) x (get_or source i 0) 0 (h i w.after (omega arith))
          ∙ w.done.outside x (λ k a b. h k a (omega arith));
    };
  }
    where
      go : (k : ℕ) → from ≤ k → k < i + 1 → Dec (k ≡ i) → get_or (set target (base + i) (get_or source i 0)) (base + k) 0 ≡ get_or source k 0
      go k a b (yes q) = rw q (get_or-set_same target (base + i) (get_or source i 0) 0 (omega (arith, w.long)))
      go k a b (no q) =
          get_or-set_other target (base + i) (base + k) (get_or source i 0) 0 (λ e. q (omega arith)) ∙ w.done.inside.cells k a (omega arith)

  pub copy_all : to ≤ i → Copied from to base source entry target
  copy_all d = record {
    inside = record { cells = λ k a b. w.done.inside.cells k a (omega arith) };
    outside = λ x h. w.done.outside x (λ k a b. h k a (omega (arith, w.top)));
  }
