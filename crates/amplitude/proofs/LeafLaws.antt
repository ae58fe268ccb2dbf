-- Laws of leaves: the few that the matrices need. The k of a sum is the greater one, and raising an amplitude commutes with all else. Assumes nothing.
use mathlib.Core.Path.{◌≡◌, refl, sym, ap, ◌∙◌}
use Prim.Native.Nat.{ℕ, suc, ◌+◌, ◌-◌, max}
use native.Mathlib.Omega.{arith}
use Rattle.amplitude.specs.Amp.{Amp, ◌⊕◌, √2^}
use Rattle.amplitude.specs.Leaf.{Leaf, leaf, 0L, plus, minus, turn, over√2}
use Rattle.amplitude.proofs.RingLaws.{0⊕, ⊕0, ω^-plus, ω^8, ⊖-is, √2^-ω^, √2^-zero}

pub 0_left : (x : Leaf) → plus 0L x ≡ x
0_left (leaf k x) =
    let e : max 0 k ≡ k = omega arith in
    let e₁ : k - 0 ≡ k = omega arith in
    let e₂ : 0 - k ≡ 0 = omega arith in
    rw (e, e₁, e₂, √2^-zero k) (ap (leaf k) (0⊕ x))

pub 0_right : (x : Leaf) → plus x 0L ≡ x
0_right (leaf k x) =
    let e : max k 0 ≡ k = omega arith in
    let e₁ : k - 0 ≡ k = omega arith in
    let e₂ : 0 - k ≡ 0 = omega arith in
    rw (e, e₁, e₂, √2^-zero k) (ap (leaf k) (⊕0 x))

pub over-plus : (x y : Leaf) → over√2 (plus x y) ≡ plus (over√2 x) (over√2 y)
over-plus (leaf k x) (leaf l y) =
    let e : max (suc k) (suc l) ≡ suc (max k l) = omega arith in
    let e₁ : suc l - suc k ≡ l - k = omega arith in
    let e₂ : suc k - suc l ≡ k - l = omega arith in
    rw (e, e₁, e₂) refl

-- A − B is A + ω⁴B
pub minus_is : (x y : Leaf) → minus x y ≡ plus x (turn 4 y)
minus_is (leaf k x) (leaf l y) =
    ap (leaf (max k l)) (⊖-is (√2^ (l - k) x) (√2^ (k - l) y) ∙ ap (λ (z : Amp). √2^ (l - k) x ⊕ z) (sym (√2^-ω^ (k - l) 4 y)))

pub turn-none : (x : Leaf) → turn 0 x ≡ x
turn-none (leaf k x) = refl

pub turn-plus : (i j : ℕ) (x : Leaf) → turn (i + j) x ≡ turn i (turn j x)
turn-plus i j (leaf k x) = ap (leaf k) (ω^-plus i j x)

pub turn_full : (x : Leaf) → turn 8 x ≡ x
turn_full (leaf k x) = ap (leaf k) (ω^8 x)
