-- Two words are alike up to ω^j if their matrices are so. That is decided at (1,0) and (0,1), it goes with what is played after both, and the
-- powers add. Assumes nothing.
use mathlib.Core.Path.{◌≡◌, refl, sym, ap, ap₂, ◌∙◌}
use mathlib.Core.Bool.{Bool, true, ◌&&◌}
use mathlib.Core.List.{List, ◌++◌}
use Prim.Native.Nat.{ℕ, ◌+◌}
use native.Mathlib.Omega.{arith}
use Rattle.amplitude.specs.Amp.{Amp, ω^, √2^, 0A, same_a}
use Rattle.amplitude.proofs.RingLaws.{ω^-plus, √2^-plus}
use Rattle.amplitude.proofs.Equal.{both, same_a-sound, √2^_inj}
use Rattle.gates.specs.Gate.{Kind}
use Rattle.cliffords.proofs.Played.{Pair, each, played, height, played_append, height_append, played_add, played_scalar, each-add, each-turned, by-ω, by-√2}
use Rattle.cliffords.proofs.Spanned.{1A, Linear, agree}

-- at a common k the matrix of v is ω^j times that of w
abbrev pub Alike : ℕ → List Kind → List Kind → Type 0
Alike j v w = (p : Pair) → each (√2^ (height w)) (played v p) ≡ each (ω^ j) (each (√2^ (height v)) (played w p))

-- ---- the test
abbrev same_pair : Pair → Pair → Bool
same_pair p q = same_a p.0 q.0 && same_a p.1 q.1

same-pair : (p q : Pair) → same_pair p q ≡ true → p ≡ q
same-pair p q e =
    let h = both (same_a p.0 q.0) (same_a p.1 q.1) e in
    ap₂ (λ (u v : Amp). (u, v)) (same_a-sound p.0 q.0 h.0) (same_a-sound p.1 q.1 h.1)

abbrev pub alike_at : ℕ → List Kind → List Kind → Pair → Bool
alike_at j v w p = same_pair (each (√2^ (height w)) (played v p)) (each (ω^ j) (each (√2^ (height v)) (played w p)))

abbrev pub is_alike : ℕ → List Kind → List Kind → Bool
is_alike j v w = alike_at j v w (1A, 0A) && alike_at j v w (0A, 1A)

after_linear : (r : ℕ) (v : List Kind) → Linear (λ p. each (√2^ r) (played v p))
after_linear r v =
    record { sum = λ p q. ap (each (√2^ r)) (played_add v p q) ∙ each-add (by-√2 r) (played v p) (played v q); turned = λ p. ap (each (√2^ r)) (played_scalar (by-ω 1) v p) ∙ each-turned (by-√2 r) 1 (played v p) }

turned_linear : (j : ℕ) {F : Pair → Pair} → Linear F → Linear (λ p. each (ω^ j) (F p))
turned_linear j {F} f =
    record { sum = λ p q. ap (each (ω^ j)) (f.sum p q) ∙ each-add (by-ω j) (F p) (F q); turned = λ p. ap (each (ω^ j)) (f.turned p) ∙ each-turned (by-ω j) 1 (F p) }

pub is_alike_lem : (j : ℕ) (v w : List Kind) → is_alike j v w ≡ true → Alike j v w
is_alike_lem j v w e =
    let h = both (alike_at j v w (1A, 0A)) (alike_at j v w (0A, 1A)) e in
    agree (after_linear (height w) v) (turned_linear j (after_linear (height v) w)) (same-pair _ _ h.0) (same-pair _ _ h.1)

-- ---- powers of √2
raise_plus : (a b : ℕ) (p : Pair) → each (√2^ (a + b)) p ≡ each (√2^ b) (each (√2^ a) p)
raise_plus a b p =
    let e : a + b ≡ b + a = omega arith in
    ap (λ (m : ℕ). each (√2^ m) p) e ∙ ap₂ (λ (u v : Amp). (u, v)) (√2^-plus b a p.0) (√2^-plus b a p.1)

raise_comm : (a b : ℕ) (p : Pair) → each (√2^ a) (each (√2^ b) p) ≡ each (√2^ b) (each (√2^ a) p)
raise_comm a b p = let e : b + a ≡ a + b = omega arith in sym (raise_plus b a p) ∙ ap (λ (m : ℕ). each (√2^ m) p) e ∙ raise_plus a b p

raise_inj : (a : ℕ) (p q : Pair) → each (√2^ a) p ≡ each (√2^ a) q → p ≡ q
raise_inj a p q e =
    ap₂ (λ (u v : Amp). (u, v)) (√2^_inj a p.0 q.0 (ap (λ (x : Pair). x.0) e)) (√2^_inj a p.1 q.1 (ap (λ (x : Pair). x.1) e))

spin_plus : (i j : ℕ) (p : Pair) → each (ω^ (i + j)) p ≡ each (ω^ i) (each (ω^ j) p)
spin_plus i j p = ap₂ (λ (u v : Amp). (u, v)) (ω^-plus i j p.0) (ω^-plus i j p.1)

-- ---- the laws
pub alike_refl : (w : List Kind) → Alike 0 w w
alike_refl w p = refl

pub alike_after : (j : ℕ) (v w u : List Kind) → Alike j v w → Alike j (v ++ u) (w ++ u)
alike_after j v w u h p =
    let turns = each (ω^ j) in
    let long : each (√2^ (height (w ++ u))) (played (v ++ u) p) ≡ each (√2^ (height u)) (played u (each (√2^ (height w)) (played v p)))
    = ap₂ (λ (m : ℕ) (q : Pair). each (√2^ m) q) (height_append w u) (played_append v u p)
    ∙ raise_plus (height w) (height u) (played u (played v p))
    ∙ ap (each (√2^ (height u))) (sym (played_scalar (by-√2 (height w)) u (played v p))) in
    let right : each (√2^ (height (v ++ u))) (played (w ++ u) p) ≡ each (√2^ (height u)) (played u (each (√2^ (height v)) (played w p)))
    = ap₂ (λ (m : ℕ) (q : Pair). each (√2^ m) q) (height_append v u) (played_append w u p)
    ∙ raise_plus (height v) (height u) (played u (played w p))
    ∙ ap (each (√2^ (height u))) (sym (played_scalar (by-√2 (height v)) u (played w p))) in
    long
    ∙ ap (λ (q : Pair). each (√2^ (height u)) (played u q)) (h p)
    ∙ ap (each (√2^ (height u))) (played_scalar (by-ω j) u (each (√2^ (height v)) (played w p)))
    ∙ each-turned (by-√2 (height u)) j (played u (each (√2^ (height v)) (played w p)))
    ∙ ap (each (ω^ j)) (sym right)

pub alike_trans : (i j : ℕ) (u v w : List Kind) → Alike i u v → Alike j v w → Alike (i + j) u w
alike_trans i j u v w h k p =
    let a = height u in
    let b = height v in
    let c = height w in
    raise_inj b (each (√2^ c) (played u p)) (each (ω^ (i + j)) (each (√2^ a) (played w p)))
    (raise_comm b c (played u p)
    ∙ ap (each (√2^ c)) (h p)
    ∙ each-turned (by-√2 c) i (each (√2^ a) (played v p))
    ∙ ap (each (ω^ i)) (raise_comm c a (played v p) ∙ ap (each (√2^ a)) (k p) ∙ each-turned (by-√2 a) j (each (√2^ b) (played w p)))
    ∙ sym (spin_plus i j (each (√2^ a) (each (√2^ b) (played w p))))
    ∙ ap (each (ω^ (i + j))) (raise_comm a b (played w p))
    ∙ sym (each-turned (by-√2 b) (i + j) (each (√2^ a) (played w p))))
