-- Laws of masks, choice by choice: an intersection has the choices of both; the least choice is in its mask, and none below it is. Assumes nothing.
use mathlib.Core.Path.{◌≡◌, refl, sym, ap, ◌∙◌}
use mathlib.Core.Bool.{Bool, true, false, ◌&&◌, ◌||◌, not}
use Prim.Native.Nat.{ℕ, zero, suc, ◌+◌, ◌*◌, ◌/◌, ◌%◌, ◌^◌, ◌<◌, ◌≤◌, min, max}
use native.Mathlib.Nat.{pow-suc, mul_comm, div-one, zero-div, div-div-eq-div-mul}
use native.Mathlib.Omega.{arith}
use lib.Dec.{eqb, ltb}
use lib.Bits.{bit_and, bit_or, bit_xor, differ, and_step, and_shr, or_step, or_shr, xor_step, xor_shr}
use lib.Count.{count_trailing_zeros, under}
use borrow.Author.Tests.{eq-eqb, ltb-true, ltb-false}
use Rattle.automata.specs.Choice.{has, least}

digit : ℕ → ℕ → ℕ
digit m c = m / 2 ^ c % 2

digit_suc : (m c : ℕ) → digit m (suc c) ≡ digit (m / 2) c
unfolding digit
digit_suc m c = ap (λ (k : ℕ). m / k % 2) (pow-suc 2 c ∙ mul_comm (2 ^ c) 2) ∙ ap (λ (k : ℕ). k % 2) (sym (div-div-eq-div-mul m 2 (2 ^ c)))

digit_zero : (m : ℕ) → digit m 0 ≡ m % 2
unfolding digit
digit_zero m = ap (λ (k : ℕ). k % 2) (div-one m)

-- ---- intersections
one_bit : (x y : ℕ) → x < 2 → y < 2 → eqb (min x y) 1 ≡ eqb x 1 && eqb y 1
one_bit zero zero h k = refl
one_bit zero (suc zero) h k = refl
one_bit zero (suc (suc y)) h k = absurd (omega arith)
one_bit (suc zero) zero h k = refl
one_bit (suc zero) (suc zero) h k = refl
one_bit (suc zero) (suc (suc y)) h k = absurd (omega arith)
one_bit (suc (suc x)) y h k = absurd (omega arith)

pub has-and : (a b c : ℕ) → has (bit_and a b) c ≡ has a c && has b c
has-and a b c =
    let x : ℕ = a / 2 ^ c in
    let y : ℕ = b / 2 ^ c in
    let e : bit_and x y % 2 ≡ min (x % 2) (y % 2) = omega (arith, and_step x y) in
    ap (λ (m : ℕ). eqb (m % 2) 1) (and_shr a b c) ∙ ap (λ (m : ℕ). eqb m 1) e ∙ one_bit (x % 2) (y % 2) (omega arith) (omega arith)

one_bit_or : (x y : ℕ) → x < 2 → y < 2 → eqb (max x y) 1 ≡ eqb x 1 || eqb y 1
one_bit_or zero zero h k = refl
one_bit_or zero (suc zero) h k = refl
one_bit_or zero (suc (suc y)) h k = absurd (omega arith)
one_bit_or (suc zero) zero h k = refl
one_bit_or (suc zero) (suc zero) h k = refl
one_bit_or (suc zero) (suc (suc y)) h k = absurd (omega arith)
one_bit_or (suc (suc x)) y h k = absurd (omega arith)

pub has_or : (a b c : ℕ) → has (bit_or a b) c ≡ has a c || has b c
has_or a b c =
    let x : ℕ = a / 2 ^ c in
    let y : ℕ = b / 2 ^ c in
    let e : bit_or x y % 2 ≡ max (x % 2) (y % 2) = omega (arith, or_step x y) in
    ap (λ (m : ℕ). eqb (m % 2) 1) (or_shr a b c) ∙ ap (λ (m : ℕ). eqb m 1) e ∙ one_bit_or (x % 2) (y % 2) (omega arith) (omega arith)

-- the choices of a that are not in b, where all of b are in a
one_bit_xor : (x y : ℕ) → x < 2 → y < 2 → (eqb y 1 ≡ true → eqb x 1 ≡ true) → eqb (differ x y) 1 ≡ eqb x 1 && not (eqb y 1)
one_bit_xor zero zero h k i = refl
one_bit_xor zero (suc zero) h k i = let z : ◌≡◌ {A = ℕ} 0 1 = cc (i refl) in absurd (omega arith)
one_bit_xor zero (suc (suc y)) h k i = absurd (omega arith)
one_bit_xor (suc zero) zero h k i = refl
one_bit_xor (suc zero) (suc zero) h k i = refl
one_bit_xor (suc zero) (suc (suc y)) h k i = absurd (omega arith)
one_bit_xor (suc (suc x)) y h k i = absurd (omega arith)

xor_bit : (n x y : ℕ) → differ x y < 2 → (n * 2 + differ x y) % 2 ≡ differ x y
xor_bit n x y h = omega arith

differ-small : (x y : ℕ) → x < 2 → y < 2 → differ x y < 2
differ-small zero zero h k = omega arith
differ-small zero (suc zero) h k = omega arith
differ-small zero (suc (suc y)) h k = absurd (omega arith)
differ-small (suc zero) zero h k = omega arith
differ-small (suc zero) (suc zero) h k = omega arith
differ-small (suc zero) (suc (suc y)) h k = absurd (omega arith)
differ-small (suc (suc x)) y h k = absurd (omega arith)

pub has_without : (a b c : ℕ) → (has b c ≡ true → has a c ≡ true) → has (bit_xor a b) c ≡ has a c && not (has b c)
has_without a b c i =
    let x : ℕ = a / 2 ^ c in
    let y : ℕ = b / 2 ^ c in
    let s : differ (x % 2) (y % 2) < 2 = differ-small (x % 2) (y % 2) (omega arith) (omega arith) in
    let e : bit_xor x y % 2 ≡ differ (x % 2) (y % 2) = ap (λ (m : ℕ). m % 2) (xor_step x y) ∙ xor_bit (bit_xor (x / 2) (y / 2)) (x % 2) (y % 2) s in
    ap (λ (m : ℕ). eqb (m % 2) 1) (xor_shr a b c) ∙ ap (λ (m : ℕ). eqb m 1) e ∙ one_bit_xor (x % 2) (y % 2) (omega arith) (omega arith) i

pub has-zero : (c : ℕ) → has 0 c ≡ false
has-zero c = ap (λ (m : ℕ). eqb (m % 2) 1) (zero-div (2 ^ c))

-- two masks with no choice in common
pub record Never (m m' : ℕ) : Type 0 where
  pub never : (c : ℕ) → has m c && has m' c ≡ false

pub never_of : (m m' : ℕ) → bit_and m m' ≡ 0 → Never m m'
never_of m m' e = record { never = λ c. sym (has-and m m' c) ∙ ap (λ (x : ℕ). has x c) e ∙ has-zero c }

pub never_sym : (m m' : ℕ) → Never m m' → Never m' m
never_sym m m' h = record { never = λ c. flip (has m' c) (has m c) (h.never c) }
  where
    flip : (a b : Bool) → b && a ≡ false → a && b ≡ false
    flip true true e = e
    flip true false e = refl
    flip false b e = refl

pub never_right : (m n m' : ℕ) → Never n m' → Never (bit_and m n) (bit_and m m')
never_right m n m' h = record { never = λ c. rw (has-and m n c, has-and m m' c) (go (has m c) (has n c) (has m' c) (h.never c)) }
  where
    go : (a b d : Bool) → b && d ≡ false → (a && b) && (a && d) ≡ false
    go true b d e = e
    go false b d e = refl

pub never_left : (m k m' k' : ℕ) → Never m m' → Never (bit_and m k) (bit_and m' k')
never_left m k m' k' h = record { never = λ c. rw (has-and m k c, has-and m' k' c) (go (has m c) (has k c) (has m' c) (has k' c) (h.never c)) }
  where
    go : (a b d e : Bool) → a && d ≡ false → (a && b) && (d && e) ≡ false
    go true true true e h = cc
    go true true false e h = refl
    go true false d e h = refl
    go false b d e h = refl

-- ---- the least choice
least_digit : (k m : ℕ) → count_trailing_zeros k m < k → digit m (count_trailing_zeros k m) ≡ 1
unfolding count_trailing_zeros
least_digit zero m h = absurd (omega arith)
least_digit (suc k) m h = go (least_digit k (m / 2)) (m % 2) refl h
  where
    go : (count_trailing_zeros k (m / 2) < k → digit (m / 2) (count_trailing_zeros k (m / 2)) ≡ 1) → (r : ℕ) → m % 2 ≡ r → under r (count_trailing_zeros k (m / 2)) < suc k
        → digit m (under r (count_trailing_zeros k (m / 2))) ≡ 1
    go ih zero e l = digit_suc m (count_trailing_zeros k (m / 2)) ∙ ih (omega arith)
    go ih (suc r) e l = let o : m % 2 ≡ 1 = omega arith in digit_zero m ∙ o

below_digit : (k m c : ℕ) → c < count_trailing_zeros k m → digit m c ≡ 0
unfolding count_trailing_zeros
below_digit zero m c h = absurd (omega arith)
below_digit (suc k) m c h = go (λ d. below_digit k (m / 2) d) (m % 2) refl c h
  where
    go : ((d : ℕ) → d < count_trailing_zeros k (m / 2) → digit (m / 2) d ≡ 0) → (r : ℕ) → m % 2 ≡ r → (d : ℕ) → d < under r (count_trailing_zeros k (m / 2)) → digit m d ≡ 0
    go ih zero e zero l = digit_zero m ∙ e
    go ih zero e (suc d) l = digit_suc m d ∙ ih d (omega arith)
    go ih (suc r) e d l = absurd (omega arith)

-- no choice below the least is in the mask
pub below-least : (m c : ℕ) → c < least m → has m c ≡ false
unfolding digit
below-least m c h = ap (λ (d : ℕ). eqb d 1) (below_digit 32 m c h)

-- a number below 2^k with k zeros at its end is zero
all_zeros : (k m : ℕ) → m < 2 ^ k → k ≤ count_trailing_zeros k m → m ≡ 0
unfolding count_trailing_zeros
all_zeros zero m h l = omega arith
all_zeros (suc k) m h l = go (all_zeros k (m / 2)) (m % 2) refl l
  where
    go : (m / 2 < 2 ^ k → k ≤ count_trailing_zeros k (m / 2) → m / 2 ≡ 0) → (r : ℕ) → m % 2 ≡ r → suc k ≤ under r (count_trailing_zeros k (m / 2)) → m ≡ 0
    go ih zero e z = let half : m / 2 ≡ 0 = ih (omega arith) (omega arith) in omega arith
    go ih (suc r) e z = absurd (omega arith)

-- a 32-bit mask that is not empty
pub record Mask (m : ℕ) : Type 0 where
  pub some : 0 < m
  pub small : m < 2 ^ 32

pub least-small : (m : ℕ) → Mask m → least m < 32
least-small m h = go (ltb (least m) 32) refl
  where
    go : (b : Bool) → ltb (least m) 32 ≡ b → least m < 32
    go true e = ltb-true (least m) 32 e
    go false e = absurd (omega (arith, all_zeros 32 m h.small (ltb-false (least m) 32 e), h.some))

pub least_in : (m : ℕ) → Mask m → has m (least m) ≡ true
unfolding digit
least_in m h = eq-eqb (m / 2 ^ least m % 2) 1 (least_digit 32 m (least-small m h))

-- the least choice is the one that is in the mask and has none below it there
pub least-is : (m c : ℕ) → Mask m → has m c ≡ true → ((d : ℕ) → d < c → has m d ≡ false) → least m ≡ c
least-is m c k h low = go (ltb (least m) c) refl (ltb c (least m)) refl
  where
    go : (a : Bool) → ltb (least m) c ≡ a → (b : Bool) → ltb c (least m) ≡ b → least m ≡ c
    go true e b f = let z : ◌≡◌ {A = ℕ} 0 1 = cc (least_in m k, low (least m) (ltb-true (least m) c e)) in absurd (omega arith)
    go false e true f = let z : ◌≡◌ {A = ℕ} 0 1 = cc (h, below-least m c (ltb-true c (least m) f)) in absurd (omega arith)
    go false e false f = omega (arith, ltb-false (least m) c e, ltb-false c (least m) f)

-- masks that share no choice have different least choices
pub least-apart : (m m' : ℕ) → Mask m → Mask m' → Never m m' → least m ≡ least m' → ⊥
least-apart m m' h h' d e =
    let p : has m (least m) ≡ true = least_in m h in
    let q : has m' (least m) ≡ true = ap (λ (c : ℕ). has m' c) e ∙ least_in m' h' in
    let z : ◌≡◌ {A = ℕ} 0 1 = cc (d.never (least m)) in
    omega arith
