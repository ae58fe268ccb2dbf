-- Euclid's greatest common divisor divides both numbers, and every common divisor divides it: a divisor of b divides a exactly if it divides what a
-- leaves divided by b. So a fraction that is reduced keeps its value. Assumes nothing.
use mathlib.Core.Path.{◌≡◌, refl, sym, ap, ◌∙◌, subst}
use mathlib.Core.Bool.{Bool, true, false, cond}
use Prim.Native.Nat.{ℕ, zero, suc, ◌<◌, ◌≤◌, ◌*◌, ◌/◌, ◌%◌, ◌∣◌}
use native.Mathlib.Omega.{arith}
use native.Mathlib.Nat.{dvd_refl, dvd-zero, dvd-mod_iff, mod-lt, div-mul_cancel, mul_comm, mul_assoc}
use lib.Dec.{eqb}
use borrow.Author.Tests.{eqb-true, eqb-false}
use Rattle.qasm.specs.Fraction.{gcd_in, gcd}

left : (a b : ℕ) → b ≡ 0 → (a ∣ a) × (a ∣ b)
left a b e = (dvd_refl a, subst (λ (x : ℕ). a ∣ x) (sym e) (dvd-zero a))

less : (k a b : ℕ) → b ≤ suc k → eqb b 0 ≡ false → a % b ≤ k
less k a b h e =
    let ne = eqb-false b 0 e in
    let lt : 0 < b = omega arith in
    let m = mod-lt a lt in
    omega arith

divides_in : (k a b : ℕ) → b ≤ k → (gcd_in k a b ∣ a) × (gcd_in k a b ∣ b)
unfolding gcd_in
divides_in zero a b h = left a b (omega arith)
divides_in (suc k) a b h = go (eqb b 0) refl (divides_in k b (a % b))
  where
    go : (t : Bool) → eqb b 0 ≡ t → (a % b ≤ k → (gcd_in k b (a % b) ∣ b) × (gcd_in k b (a % b) ∣ a % b)) → (cond t a (gcd_in k b (a % b)) ∣ a) × (cond t a (gcd_in k b (a % b)) ∣ b)
    go true e ih = left a b (eqb-true b 0 e)
    go false e ih = let d = ih (less k a b h e) in ((dvd-mod_iff (gcd_in k b (a % b)) d.0).0 d.1, d.0)

pub gcd_divides : (a b : ℕ) → (gcd a b ∣ a) × (gcd a b ∣ b)
unfolding gcd
gcd_divides a b = divides_in b a b (omega arith)

greatest_in : (k a b d : ℕ) → d ∣ a → d ∣ b → d ∣ gcd_in k a b
unfolding gcd_in
greatest_in zero a b d p q = p
greatest_in (suc k) a b d p q = go (eqb b 0) (greatest_in k b (a % b) d q ((dvd-mod_iff d q).1 p))
  where
    go : (t : Bool) → d ∣ gcd_in k b (a % b) → d ∣ cond t a (gcd_in k b (a % b))
    go true ih = p
    go false ih = ih

pub gcd_greatest : (a b d : ℕ) → d ∣ a → d ∣ b → d ∣ gcd a b
unfolding gcd
gcd_greatest a b d p q = greatest_in b a b d p q

-- n/d and its reduced form have one value: the cross products are equal
pub same-value : (n d : ℕ) → n * (d / gcd n d) ≡ n / gcd n d * d
same-value n d =
    let g = gcd n d in
    let a : n / g * g ≡ n = div-mul_cancel (gcd n d) (gcd_divides n d).0 in
    let b : d / g * g ≡ d = div-mul_cancel (gcd n d) (gcd_divides n d).1 in
    ap (λ (x : ℕ). x * (d / g)) (sym a) ∙ mul_assoc (n / g) g (d / g) ∙ ap (λ (x : ℕ). n / g * x) (mul_comm g (d / g) ∙ b)
