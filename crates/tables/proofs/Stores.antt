-- Values stored one after the other are read back at their places, and elsewhere nothing changes. Assumes nothing.
use mathlib.Core.Path.{◌≡◌, refl, ap, ◌∙◌}
use mathlib.Core.List.{List, [], ◌∷◌}
use Prim.Native.Nat.{ℕ, zero, suc, ◌+◌, ◌*◌, ◌<◌, ◌≤◌}
use native.Mathlib.Omega.{arith}
use lib.ListN.{length, get_or, set, length-set}
use lib.Seq.{get_or-set_same, get_or-set_other}

-- the place k further on, written as code writes it
abbrev pub place : ℕ → ℕ → ℕ
place at zero = at
place at (suc k) = at + suc k

pub place_is : (at k : ℕ) → place at k ≡ at + k
place_is at zero = omega arith
place_is at (suc k) = refl

module _ {A : Type 0} where
  -- the values at the places from k on: what stores at `at`, `at + 1`, .. leave
  abbrev pub stores : List A → ℕ → ℕ → List A → List A
  stores l at k [] = l
  stores l at k (a ∷ vs) = stores (set l (place at k) a) at (suc k) vs

  pub stored_out : (vs l : List A) (at k i : ℕ) (d : A) → ((j : ℕ) → j < length vs → i ≡ at + (k + j) → ⊥) → get_or (stores l at k vs) i d ≡ get_or l i d
  stored_out [] l at k i d h = refl
  stored_out (a ∷ vs) l at k i d h =
      stored_out vs (set l (place at k) a) at (suc k) i d (λ j lt e. h (suc j) (omega arith) (omega arith))
      ∙ get_or-set_other l (place at k) i a d (λ e. h 0 (omega arith) (omega (arith, place_is at k)))

  pub stored_in : (vs l : List A) (at k j : ℕ) (d : A) → at + (k + length vs) ≤ length l → j < length vs → get_or (stores l at k vs) (at + (k + j)) d ≡ get_or vs j d
  stored_in [] l at k j d h lt = absurd (omega arith)
  stored_in (a ∷ vs) l at k zero d h lt =
      let p = place_is at k in
      let e : at + (k + 0) ≡ place at k = omega arith in
      ap (λ (i : ℕ). get_or (stores (set l (place at k) a) at (suc k) vs) i d) e
      ∙ stored_out vs (set l (place at k) a) at (suc k) (place at k) d (λ j m z. omega arith)
      ∙ get_or-set_same l (place at k) a d (omega arith)
  stored_in (a ∷ vs) l at k (suc j) d h lt =
      let e : at + (k + suc j) ≡ at + (suc k + j) = omega arith in
      ap (λ (i : ℕ). get_or (stores (set l (place at k) a) at (suc k) vs) i d) e
      ∙ stored_in vs (set l (place at k) a) at (suc k) j d (omega (arith, length-set l (place at k) a)) (omega arith)

-- blocks of `width` places each: block i is written, so its places hold the values, and the places of the other blocks stay
module _ {A : Type 0} (vs l : List A) (i : ℕ) (d : A) where
  pub block_in : (width : ℕ) → length vs ≡ width → i * width + width ≤ length l → (j : ℕ) → j < width → get_or (stores l (i * width) 0 vs) (place (i * width) j) d ≡ get_or vs j d
  block_in width e room j h =
      let p : place (i * width) j ≡ i * width + (0 + j) = (let q = place_is (i * width) j in omega arith) in
      ap (λ (k : ℕ). get_or (stores l (i * width) 0 vs) k d) p ∙ stored_in vs l (i * width) 0 j d (omega arith) (omega arith)

  pub block_out : (width : ℕ) → length vs ≡ width → (q j : ℕ) → ((k : ℕ) → k < width → q * width + j ≡ i * width + k → ⊥)
      → get_or (stores l (i * width) 0 vs) (place (q * width) j) d ≡ get_or l (place (q * width) j) d
  block_out width e q j h =
      let p = place_is (q * width) j in
      stored_out vs l (i * width) 0 (place (q * width) j) d (λ k lt z. h k (omega arith) (omega arith))
