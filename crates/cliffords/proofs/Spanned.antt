-- Two linear maps of pairs are equal if they agree at (1,0) and at (0,1): from 1, sums and ω make every amplitude. Assumes nothing.
use mathlib.Core.Path.{◌≡◌, sym, ap, ap₂, ◌∙◌, subst}
use Prim.Native.Nat.{ℕ, zero, suc, ◌+◌}
use native.Mathlib.Omega.{arith}
use lib.IntN.{ℤ, pos, negsuc, +ℤ_idl, +ℤ_idr}
use Rattle.amplitude.specs.Amp.{Amp, amp, timesω, ◌⊕◌, ω^, 0A}
use Rattle.amplitude.proofs.RingLaws.{0⊕, ⊕0}
use Rattle.cliffords.proofs.Played.{Pair, each, ◌⊞◌}

abbrev pub 1A : Amp
1A = amp (pos 1) (pos 0) (pos 0) (pos 0)

abbrev whole : ℤ → Amp
whole z = amp z (pos 0) (pos 0) (pos 0)

module _ (P : Amp → Type 0) (one : P 1A) (sum : (x y : Amp) → P x → P y → P (x ⊕ y)) (turned : (x : Amp) → P x → P (timesω x)) where
  back : (x : Amp) → P x → P (ω^ 4 x)
  back x h = turned (ω^ 3 x) (turned (ω^ 2 x) (turned (ω^ 1 x) (turned x h)))

  counted : (n : ℕ) → P (whole (pos n))
  counted zero = sum 1A (ω^ 4 1A) one (back 1A one)
  counted (suc n) =
      let e : 1 + n ≡ suc n = omega arith in
      subst (λ (m : ℕ). P (whole (pos m))) e (sum 1A (whole (pos n)) one (counted n))

  signed : (z : ℤ) → P (whole z)
  signed (pos n) = counted n
  signed (negsuc n) = back (whole (pos (suc n))) (counted (suc n))

  four : (a b c d : ℤ) → (whole a ⊕ ω^ 1 (whole b)) ⊕ (ω^ 2 (whole c) ⊕ ω^ 3 (whole d)) ≡ amp a b c d
  four a b c d = simp (+ℤ_idl, +ℤ_idr)

  pub spanned : (x : Amp) → P x
  spanned (amp a b c d) =
      subst P (four a b c d)
      (sum (whole a ⊕ ω^ 1 (whole b)) (ω^ 2 (whole c) ⊕ ω^ 3 (whole d))
      (sum (whole a) (ω^ 1 (whole b)) (signed a) (turned (whole b) (signed b)))
      (sum (ω^ 2 (whole c)) (ω^ 3 (whole d)) (turned (ω^ 1 (whole c)) (turned (whole c) (signed c)))
      (turned (ω^ 2 (whole d)) (turned (ω^ 1 (whole d)) (turned (whole d) (signed d))))))

pub record Linear (F : Pair → Pair) : Type 0 where
  pub sum : (p q : Pair) → F (p ⊞ q) ≡ F p ⊞ F q
  pub turned : (p : Pair) → F (each timesω p) ≡ each timesω (F p)

module _ {F G : Pair → Pair} (f : Linear F) (g : Linear G) where
  both-sum : (p q : Pair) → F p ≡ G p → F q ≡ G q → F (p ⊞ q) ≡ G (p ⊞ q)
  both-sum p q h k = f.sum p q ∙ ap₂ (λ (x y : Pair). x ⊞ y) h k ∙ sym (g.sum p q)

  both-turned : (p : Pair) → F p ≡ G p → F (each timesω p) ≡ G (each timesω p)
  both-turned p h = f.turned p ∙ ap (each timesω) h ∙ sym (g.turned p)

  pub agree : F (1A, 0A) ≡ G (1A, 0A) → F (0A, 1A) ≡ G (0A, 1A) → (p : Pair) → F p ≡ G p
  agree h k p =
      let l : F (p.0, 0A) ≡ G (p.0, 0A) = spanned (λ (x : Amp). F (x, 0A) ≡ G (x, 0A)) h (λ x y. both-sum (x, 0A) (y, 0A)) (λ x. both-turned (x, 0A)) p.0 in
      let r : F (0A, p.1) ≡ G (0A, p.1) = spanned (λ (x : Amp). F (0A, x) ≡ G (0A, x)) k (λ x y. both-sum (0A, x) (0A, y)) (λ x. both-turned (0A, x)) p.1 in
      let e : (p.0, 0A) ⊞ (0A, p.1) ≡ p = ap₂ (λ (u v : Amp). (u, v)) (⊕0 p.0) (0⊕ p.1) in
      subst (λ (q : Pair). F q ≡ G q) e (both-sum (p.0, 0A) (0A, p.1) l r)
