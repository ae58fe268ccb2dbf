-- What the matrices of a word do to a pair of amplitudes, with every 1/√2 left out and counted: it is linear, and what multiplies both amplitudes
-- alike goes through it. Assumes nothing.
use mathlib.Core.Path.{◌≡◌, refl, sym, ap, ap₂, ◌∙◌}
use mathlib.Core.List.{List, [], ◌∷◌, ◌++◌}
use Prim.Native.Nat.{ℕ, zero, suc, ◌+◌}
use native.Mathlib.Omega.{arith}
use Rattle.amplitude.specs.Amp.{Amp, timesω, ◌⊕◌, ω^, √2^, 0A}
use Rattle.amplitude.proofs.RingLaws.{⊕-comm, ⊕-assoc, ω^-add, ω^-plus, √2^-ω^, √2^-add, √2^-zero}
use Rattle.gates.specs.Gate.{Kind, phase, flip, H}
use Rattle.gates.specs.Matrix.{Entry, O, W, W/√2, Matrix, kind_matrix}

abbrev pub Pair : Type 0
Pair = Amp × Amp

abbrev pub each : (Amp → Amp) → Pair → Pair
each f p = (f p.0, f p.1)

infixl 60 ◌⊞◌
abbrev pub ◌⊞◌ : Pair → Pair → Pair
◌⊞◌ p q = (p.0 ⊕ q.0, p.1 ⊕ q.1)

-- an entry without its 1/√2
abbrev pub on : Entry → Amp → Amp
on O x = 0A
on (W j) x = ω^ j x
on (W/√2 j) x = ω^ j x

abbrev pub step : Matrix → Pair → Pair
step M p = (on M.a p.0 ⊕ on M.b p.1, on M.c p.0 ⊕ on M.d p.1)

-- how many 1/√2 are left out
abbrev pub rise : Kind → ℕ
rise (phase j) = 0
rise (flip j) = 0
rise H = 1

abbrev pub played : List Kind → Pair → Pair
played [] p = p
played (k ∷ w) p = played w (step (kind_matrix k) p)

abbrev pub height : List Kind → ℕ
height [] = 0
height (k ∷ w) = rise k + height w

pub played_append : (v w : List Kind) (p : Pair) → played (v ++ w) p ≡ played w (played v p)
played_append [] w p = refl
played_append (k ∷ v) w p = played_append v w (step (kind_matrix k) p)

pub height_append : (v w : List Kind) → height (v ++ w) ≡ height v + height w
height_append [] w = omega arith
height_append (k ∷ v) w = omega (arith, height_append v w)

-- ---- sums
left_comm : (x y z : Amp) → x ⊕ (y ⊕ z) ≡ y ⊕ (x ⊕ z)
left_comm x y z = sym (⊕-assoc x y z) ∙ ap (λ (w : Amp). w ⊕ z) (⊕-comm x y) ∙ ⊕-assoc y x z

regroup : (x y z w : Amp) → (x ⊕ y) ⊕ (z ⊕ w) ≡ (x ⊕ z) ⊕ (y ⊕ w)
regroup x y z w = ⊕-assoc x y (z ⊕ w) ∙ ap (λ (u : Amp). x ⊕ u) (left_comm y z w) ∙ sym (⊕-assoc x z (y ⊕ w))

on_add : (e : Entry) (x y : Amp) → on e (x ⊕ y) ≡ on e x ⊕ on e y
on_add O x y = refl
on_add (W j) x y = ω^-add j x y
on_add (W/√2 j) x y = ω^-add j x y

row-add : (e f : Entry) (x y x' y' : Amp) → on e (x ⊕ x') ⊕ on f (y ⊕ y') ≡ (on e x ⊕ on f y) ⊕ (on e x' ⊕ on f y')
row-add e f x y x' y' = ap₂ (λ (u v : Amp). u ⊕ v) (on_add e x x') (on_add f y y') ∙ regroup (on e x) (on e x') (on f y) (on f y')

step-add : (M : Matrix) (p q : Pair) → step M (p ⊞ q) ≡ step M p ⊞ step M q
step-add M p q = ap₂ (λ (u v : Amp). (u, v)) (row-add M.a M.b p.0 p.1 q.0 q.1) (row-add M.c M.d p.0 p.1 q.0 q.1)

pub played_add : (w : List Kind) (p q : Pair) → played w (p ⊞ q) ≡ played w p ⊞ played w q
played_add [] p q = refl
played_add (k ∷ w) p q = ap (played w) (step-add (kind_matrix k) p q) ∙ played_add w (step (kind_matrix k) p) (step (kind_matrix k) q)

-- ---- a number that multiplies: a power of √2, a power of ω
pub record Scalar (f : Amp → Amp) : Type 0 where
  pub none : f 0A ≡ 0A
  pub sum : (x y : Amp) → f (x ⊕ y) ≡ f x ⊕ f y
  pub turned : (j : ℕ) (x : Amp) → f (ω^ j x) ≡ ω^ j (f x)

ω^-comm : (i j : ℕ) (x : Amp) → ω^ i (ω^ j x) ≡ ω^ j (ω^ i x)
ω^-comm i j x = let e : i + j ≡ j + i = omega arith in sym (ω^-plus i j x) ∙ ap (λ (m : ℕ). ω^ m x) e ∙ ω^-plus j i x

ω^-zero : (j : ℕ) → ω^ j 0A ≡ 0A
ω^-zero zero = refl
ω^-zero (suc j) = ap timesω (ω^-zero j)

pub by-ω : (j : ℕ) → Scalar (ω^ j)
by-ω j = record { none = ω^-zero j; sum = ω^-add j; turned = ω^-comm j }

pub by-√2 : (r : ℕ) → Scalar (√2^ r)
by-√2 r = record { none = √2^-zero r; sum = √2^-add r; turned = √2^-ω^ r }

module _ {f : Amp → Amp} (s : Scalar f) where
  on_scalar : (e : Entry) (x : Amp) → on e (f x) ≡ f (on e x)
  on_scalar O x = sym s.none
  on_scalar (W j) x = sym (s.turned j x)
  on_scalar (W/√2 j) x = sym (s.turned j x)

  row_scalar : (e g : Entry) (x y : Amp) → on e (f x) ⊕ on g (f y) ≡ f (on e x ⊕ on g y)
  row_scalar e g x y = ap₂ (λ (u v : Amp). u ⊕ v) (on_scalar e x) (on_scalar g y) ∙ sym (s.sum (on e x) (on g y))

  step_scalar : (M : Matrix) (p : Pair) → step M (each f p) ≡ each f (step M p)
  step_scalar M p = ap₂ (λ (u v : Amp). (u, v)) (row_scalar M.a M.b p.0 p.1) (row_scalar M.c M.d p.0 p.1)

  pub played_scalar : (w : List Kind) (p : Pair) → played w (each f p) ≡ each f (played w p)
  played_scalar [] p = refl
  played_scalar (k ∷ w) p = ap (played w) (step_scalar (kind_matrix k) p) ∙ played_scalar w (step (kind_matrix k) p)

  pub each-add : (p q : Pair) → each f (p ⊞ q) ≡ each f p ⊞ each f q
  each-add p q = ap₂ (λ (u v : Amp). (u, v)) (s.sum p.0 q.0) (s.sum p.1 q.1)

  pub each-turned : (j : ℕ) (p : Pair) → each f (each (ω^ j) p) ≡ each (ω^ j) (each f p)
  each-turned j p = ap₂ (λ (u v : Amp). (u, v)) (s.turned j p.0) (s.turned j p.1)
