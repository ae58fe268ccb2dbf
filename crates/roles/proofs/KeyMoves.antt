-- A key moves as the code has it: one state's moves, with `single_kids` as children, or two states' moves together, with `pair_kids`. And what a
-- stored key's states are is so of those of the key that it stores; its tag says which it is. Assumes nothing.
use mathlib.Core.Path.{◌≡◌, refl, sym, subst}
use mathlib.Core.List.{List}
use Prim.Native.Nat.{ℕ, zero, suc, ◌-◌, ◌%◌, ◌<◌}
use native.Mathlib.Omega.{arith}
use borrow.Author.Tests.{ne_eqb}
use Rattle.automata.specs.Choice.{Alt, map_alt}
use Rattle.gates.specs.Roles.{Role, key_moves}
use Rattle.stepwise.specs.Code.{tag_in, first_in, second_in, unstored}
use Rattle.roles.specs.declared.Single.{Single}
use Rattle.roles.specs.declared.Single.TheVariants.{Plain, Inside, Shifted}
use Rattle.roles.specs.declared.Key.{Key}
use Rattle.roles.specs.declared.Key.TheVariants.{One}
use Rattle.roles.specs.Kept.{key_is, single_of, single_kids, OfStates}

-- a key that is no pair
pub single-moves : (o : Role) (moves : ℕ → List (Alt (ℕ × ℕ))) (how : Single) (q : ℕ) → key_moves o moves (key_is (One how q)) ≡ map_alt (single_kids o how) (moves q)
single-moves o moves Plain q = refl
single-moves o moves Inside q = refl
single-moves o moves (Shifted j) q = refl

-- the states of a stored key
pub of-states : (P : ℕ → Type 0) (k : Key) (x : ℕ) → key_is k ≡ unstored x → P (first_in x) → (1 < tag_in x → tag_in x < 4 → P (second_in x)) → OfStates P (key_is k)
unfolding unstored
of-states P k x is one two = subst (OfStates P) (sym is) (go (tag_in x) refl)
  where
    go : (t : ℕ) → tag_in x ≡ t → OfStates P (unstored x)
    go zero e = rw e one
    go (suc zero) e = rw e one
    go (suc (suc zero)) e = let p : P (second_in x) = two (omega arith) (omega arith) in rw e (one, p)
    go (suc (suc (suc zero))) e = let p : P (second_in x) = two (omega arith) (omega arith) in rw e (one, p)
    go (suc (suc (suc (suc j)))) e = simp (ne_eqb (tag_in x) 0 (λ z. omega arith), ne_eqb (tag_in x) 1 (λ z. omega arith), ne_eqb (tag_in x) 2 (λ z. omega arith), ne_eqb (tag_in x) 3 (λ z. omega arith)) one

-- the state of a key that is no pair
pub one-state : (P : ℕ → Type 0) (how : Single) (q x : ℕ) → key_is (One how q) ≡ unstored x → P (first_in x) → (1 < tag_in x → tag_in x < 4 → P (second_in x)) → P q
one-state P how q x is one two = go how (of-states P (One how q) x is one two)
  where
    go : (h : Single) → OfStates P (key_is (One h q)) → P q
    go Plain p = p
    go Inside p = p
    go (Shifted j) p = p

-- the key that is no pair, from its tag
pub no-pair : (x : ℕ) → tag_in x < 260 → (tag_in x ≡ 2 → ⊥) → (tag_in x ≡ 3 → ⊥) → key_is (One (single_of (tag_in x)) (first_in x)) ≡ unstored x
unfolding unstored
no-pair x few l r = go (tag_in x) refl
  where
    go : (t : ℕ) → tag_in x ≡ t → key_is (One (single_of (tag_in x)) (first_in x)) ≡ unstored x
    go zero e = rw e refl
    go (suc zero) e = rw e refl
    go (suc (suc zero)) e = absurd (l e)
    go (suc (suc (suc zero))) e = absurd (r e)
    go (suc (suc (suc (suc j)))) e =
        let byte : (tag_in x - 4) % 256 ≡ tag_in x - 4 = omega (arith, few) in
        simp (ne_eqb (tag_in x) 0 (λ z. omega arith), ne_eqb (tag_in x) 1 (λ z. omega arith), ne_eqb (tag_in x) 2 (λ z. omega arith), ne_eqb (tag_in x) 3 (λ z. omega arith)) (rw byte refl)
