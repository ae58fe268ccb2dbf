-- A rule that holds at each place of a range, by one test that is computed over the whole range. Assumes nothing.
use mathlib.Core.Path.{◌≡◌, refl, sym, ◌∙◌, ap, subst}
use mathlib.Core.Bool.{Bool, true, false, ◌&&◌}
use Prim.Native.Nat.{ℕ, zero, suc, ◌+◌, ◌<◌, ◌≤◌}
use native.Mathlib.Omega.{arith}
use mathlib.Core.List.{List, map}
use lib.Dec.{eqb}
use lib.ListN.{get_or}
use Rattle.automata.specs.Members.{up_to}
use borrow.Author.Tests.{eqb-true, eqb-false}
use Rattle.amplitude.proofs.Equal.{both}

-- the test passes at i, and at the n − 1 numbers that follow
abbrev pub every : (ℕ → Bool) → ℕ → ℕ → Bool
every f i zero = true
every f i (suc n) = f i && every f (suc i) n

from : (f : ℕ → Bool) (n i : ℕ) → every f i n ≡ true → (k : ℕ) → i ≤ k → k < i + n → f k ≡ true
from f zero i t k h h' = absurd (omega arith)
from f (suc n) i t k h h' = go (eqb i k) refl (both (f i) (every f (suc i) n) t) (λ r h''. from f n (suc i) r k h'' (omega arith))
  where
    go : (b : Bool) → eqb i k ≡ b → (f i ≡ true) × (every f (suc i) n ≡ true) → (every f (suc i) n ≡ true → suc i ≤ k → f k ≡ true) → f k ≡ true
    go true e p ih = subst (λ (m : ℕ). f m ≡ true) (eqb-true i k e) p.0
    go false e p ih = ih p.1 (omega (arith, eqb-false i k e))

pub at : (f : ℕ → Bool) (n : ℕ) → every f 0 n ≡ true → (k : ℕ) → k < n → f k ≡ true
at f n t k h = from f n 0 t k (omega arith) (omega arith)

-- the same for two numbers
abbrev pub every_two : (ℕ → ℕ → Bool) → ℕ → ℕ → Bool
every_two f m n = every (λ p. every (f p) 0 n) 0 m

pub at_two : (f : ℕ → ℕ → Bool) (m n : ℕ) → every_two f m n ≡ true → (p q : ℕ) → p < m → q < n → f p q ≡ true
at_two f m n t p q h h' = at (f p) n (at (λ p'. every (f p') 0 n) m t p h) q h'

-- what is computed at each number of a range stands in the list of it all
listed-from : {X : Type 0} (f : ℕ → X) (d : X) (n i k : ℕ) → k < n → get_or (map f (up_to i n)) k d ≡ f (i + k)
listed-from f d zero i k h = absurd (omega arith)
listed-from f d (suc n) i zero h = let e : i ≡ i + 0 = omega arith in ap f e
listed-from f d (suc n) i (suc k) h = let e : suc i + k ≡ i + suc k = omega arith in listed-from f d n (suc i) k (omega arith) ∙ ap f e

pub listed : {X : Type 0} (f : ℕ → X) (d : X) (n : ℕ) (l : List X) → map f (up_to 0 n) ≡ l → (k : ℕ) → k < n → f k ≡ get_or l k d
listed f d n l t k h = let e : 0 + k ≡ k = omega arith in sym (ap f e) ∙ sym (listed-from f d n 0 k h) ∙ ap (λ m. get_or m k d) t
