-- Words that are alike act alike on every tree: at the qubit both subtrees are walked leaf by leaf, and at a k that is large enough a pair of leaves
-- is a pair of amplitudes. Assumes nothing.
use mathlib.Core.Path.{◌≡◌, refl, sym, ap, ap₂, ◌∙◌, subst}
use mathlib.Core.Bool.{Bool, true, false, ◌&&◌, cond}
use mathlib.Core.List.{List, [], ◌∷◌, map}
use Prim.Native.Nat.{ℕ, zero, suc, ◌+◌, ◌-◌, ◌≤◌, ◌<◌, max}
use native.Mathlib.Omega.{arith}
use lib.Dec.{eqb}
use borrow.Author.Tests.{eqb-false}
use Rattle.amplitude.specs.Amp.{Amp, ◌⊕◌, ω^, √2^}
use Rattle.amplitude.specs.Leaf.{Leaf, leaf, k_of, plus, turn, same}
use Rattle.amplitude.proofs.RingLaws.{√2^-plus, √2^-add, √2^-ω^, √2^-zero}
use Rattle.amplitude.proofs.Equal.{raised_to, raised_same}
use Rattle.automata.specs.Tree.{Tree, map_t, zip_t, same_t}
use Rattle.gates.specs.Gate.{Kind, phase, flip, H, Gate, plain}
use Rattle.gates.specs.Matrix.{Entry, O, W, W/√2, times, Matrix, kind_matrix, apply_at, carried}
use Rattle.gates.proofs.MatrixLaws.{select-none}
use Rattle.cliffords.proofs.Played.{Pair, on, step, rise, played, height}
use Rattle.cliffords.proofs.Alike.{Alike}

-- ---- leaves at a k that is large enough
raised_more : (a d : ℕ) (x : Leaf) → k_of x ≤ a → raised_to (a + d) x ≡ √2^ d (raised_to a x)
raised_more a d (leaf k x) h = let e : a + d - k ≡ d + (a - k) = omega arith in ap (λ (m : ℕ). √2^ m x) e ∙ √2^-plus d (a - k) x

raised_turn : (m j : ℕ) (x : Leaf) → raised_to m (turn j x) ≡ ω^ j (raised_to m x)
raised_turn m j (leaf k x) = √2^-ω^ (m - k) j x

k-turn : (j : ℕ) (x : Leaf) → k_of (turn j x) ≡ k_of x
k-turn j (leaf k x) = refl

k-plus : (m : ℕ) (x y : Leaf) → k_of x ≤ m → k_of y ≤ m → k_of (plus x y) ≤ m
k-plus m (leaf k x) (leaf l y) h h' = omega arith

raised_plus : (m : ℕ) (x y : Leaf) → k_of x ≤ m → k_of y ≤ m → raised_to m (plus x y) ≡ raised_to m x ⊕ raised_to m y
raised_plus m (leaf k x) (leaf l y) h h' =
    let e : (m - max k l) + (l - k) ≡ m - k = omega arith in
    let e' : (m - max k l) + (k - l) ≡ m - l = omega arith in
    √2^-add (m - max k l) (√2^ (l - k) x) (√2^ (k - l) y)
    ∙ ap₂ (λ (u v : Amp). u ⊕ v) (sym (√2^-plus (m - max k l) (l - k) x) ∙ ap (λ (d : ℕ). √2^ d x) e) (sym (√2^-plus (m - max k l) (k - l) y) ∙ ap (λ (d : ℕ). √2^ d y) e')

-- ---- an entry that raises k by r, or is zero
data Raises : ℕ → Entry → Type 0 where
  nothing : {r : ℕ} → Raises r O
  whole : {j : ℕ} → Raises 0 (W j)
  halved : {j : ℕ} → Raises 1 (W/√2 j)

-- a leaf that is this amplitude at this k
record Is (m : ℕ) (x : Leaf) (u : Amp) : Type 0 where
  within : k_of x ≤ m
  value : raised_to m x ≡ u

times-is : (m : ℕ) {r : ℕ} {e : Entry} → Raises r e → (x : Leaf) {u : Amp} → Is m x u → Is (m + r) (times e x) (on e u)
times-is m {r} nothing x s = record { within = omega arith; value = √2^-zero (m + r - 0) }
times-is m (whole {j = j}) (leaf k x) {u} s =
    let e : m + 0 - k ≡ m - k = omega arith in
    record { within = omega (arith, s.within); value = ap (λ (d : ℕ). √2^ d (ω^ j x)) e ∙ √2^-ω^ (m - k) j x ∙ ap (ω^ j) s.value }
times-is m (halved {j = j}) (leaf k x) {u} s =
    let e : m + 1 - suc k ≡ m - k = omega arith in
    record { within = omega (arith, s.within); value = ap (λ (d : ℕ). √2^ d (ω^ j x)) e ∙ √2^-ω^ (m - k) j x ∙ ap (ω^ j) s.value }

plus-is : (m : ℕ) {x y : Leaf} {u v : Amp} → Is m x u → Is m y v → Is m (plus x y) (u ⊕ v)
plus-is m {x} {y} s s' =
    record { within = k-plus m x y s.within s'.within; value = raised_plus m x y s.within s'.within ∙ ap₂ (λ (a b : Amp). a ⊕ b) s.value s'.value }

record Rises (r : ℕ) (M : Matrix) : Type 0 where
  first : Raises r M.a
  second : Raises r M.b
  third : Raises r M.c
  fourth : Raises r M.d

rises : (k : Kind) → Rises (rise k) (kind_matrix k)
rises (phase j) = record { first = whole; second = nothing; third = nothing; fourth = whole }
rises (flip j) = record { first = nothing; second = whole; third = whole; fourth = nothing }
rises H = record { first = halved; second = halved; third = halved; fourth = halved }

-- ---- a word on a pair of leaves
abbrev rows : Matrix → Leaf × Leaf → Leaf × Leaf
rows M p = (plus (times M.a p.0) (times M.b p.1), plus (times M.c p.0) (times M.d p.1))

abbrev on_leaves : List Kind → Leaf × Leaf → Leaf × Leaf
on_leaves [] p = p
on_leaves (k ∷ w) p = on_leaves w (rows (kind_matrix k) p)

abbrev Both : ℕ → Leaf × Leaf → Pair → Type 0
Both m p q = Is m p.0 q.0 × Is m p.1 q.1

rows_is : (m : ℕ) (k : Kind) (p : Leaf × Leaf) (q : Pair) → Both m p q → Both (m + rise k) (rows (kind_matrix k) p) (step (kind_matrix k) q)
rows_is m k p q s =
    let r = rises k in
    (plus-is (m + rise k) (times-is m r.first p.0 s.0) (times-is m r.second p.1 s.1), plus-is (m + rise k) (times-is m r.third p.0 s.0) (times-is m r.fourth p.1 s.1))

leaves-is : (w : List Kind) (m : ℕ) (p : Leaf × Leaf) (q : Pair) → Both m p q → Both (m + height w) (on_leaves w p) (played w q)
leaves-is [] m p q s = let e : m ≡ m + 0 = omega arith in subst (λ (d : ℕ). Both d p q) e s
leaves-is (k ∷ w) m p q s =
    let e : m + rise k + height w ≡ m + (rise k + height w) = omega arith in
    subst (λ (d : ℕ). Both d (on_leaves w (rows (kind_matrix k) p)) (played w (step (kind_matrix k) q))) e (leaves-is w (m + rise k) (rows (kind_matrix k) p) (step (kind_matrix k) q) (rows_is m k p q s))

-- two leaves at their own k, with ω^j between them
pair_same : (m a b j : ℕ) (x y : Leaf) (u v : Amp) → Is (m + a) x u → Is (m + b) y v → √2^ b u ≡ ω^ j (√2^ a v) → same x (turn j y) ≡ true
pair_same m a b j x y u v s s' h =
    let e : m + a + b ≡ m + b + a = omega arith in
    raised_same (m + a + b) x (turn j y) (omega (arith, s.within)) (omega (arith, s'.within, k-turn j y))
    (raised_more (m + a) b x s.within ∙ ap (√2^ b) s.value ∙ h
    ∙ ap (λ (z : Amp). ω^ j z) (ap (√2^ a) (sym s'.value) ∙ sym (raised_more (m + b) a y s'.within))
    ∙ ap (λ (d : ℕ). ω^ j (raised_to d y)) (sym e) ∙ sym (raised_turn (m + a + b) j y))

module _ (j : ℕ) (v w : List Kind) (h : Alike j v w) where
  both-same : (p : Leaf × Leaf) → (same (on_leaves v p).0 (turn j (on_leaves w p).0) ≡ true) × (same (on_leaves v p).1 (turn j (on_leaves w p).1) ≡ true)
  both-same p =
      let m = k_of p.0 + k_of p.1 in
      let q : Pair = (raised_to m p.0, raised_to m p.1) in
      let s : Both m p q = (record { within = omega arith; value = refl }, record { within = omega arith; value = refl }) in
      let l = leaves-is v m p q s in
      let r = leaves-is w m p q s in
      (pair_same m (height v) (height w) j (on_leaves v p).0 (on_leaves w p).0 (played v q).0 (played w q).0 l.0 r.0 (ap (λ (z : Pair). z.0) (h q)), pair_same m (height v) (height w) j (on_leaves v p).1 (on_leaves w p).1 (played v q).1 (played w q).1 l.1 r.1 (ap (λ (z : Pair). z.1) (h q)))

-- ---- trees: two subtrees, leaf by leaf
zip_left : (n : ℕ) (x y : Tree n) → zip_t n (λ u v. u) x y ≡ x
zip_left zero x y = refl
zip_left (suc n) x y = ap₂ (λ (a b : Tree n). (a, b)) (zip_left n x.0 y.0) (zip_left n x.1 y.1)

zip_right : (n : ℕ) (x y : Tree n) → zip_t n (λ u v. v) x y ≡ y
zip_right zero x y = refl
zip_right (suc n) x y = ap₂ (λ (a b : Tree n). (a, b)) (zip_right n x.0 y.0) (zip_right n x.1 y.1)

zip_zip : (n : ℕ) (f g h : Leaf → Leaf → Leaf) (x y : Tree n) → zip_t n f (zip_t n g x y) (zip_t n h x y) ≡ zip_t n (λ u v. f (g u v) (h u v)) x y
zip_zip zero f g h x y = refl
zip_zip (suc n) f g h x y = ap₂ (λ (a b : Tree n). (a, b)) (zip_zip n f g h x.0 y.0) (zip_zip n f g h x.1 y.1)

and-true : {a b : Bool} → a ≡ true → b ≡ true → a && b ≡ true
and-true e e' = ap₂ (λ (x y : Bool). x && y) e e'

zip_same : (j n : ℕ) (f g : Leaf → Leaf → Leaf) → ((u v : Leaf) → same (f u v) (turn j (g u v)) ≡ true) → (x y : Tree n) → same_t n (zip_t n f x y) (map_t n (turn j) (zip_t n g x y)) ≡ true
zip_same j zero f g h x y = h x y
zip_same j (suc n) f g h x y = and-true (zip_same j n f g h x.0 y.0) (zip_same j n f g h x.1 y.1)

-- ---- a word at qubit t of a tree whose first qubit is i
abbrev ran : List Kind → ℕ → ℕ → (n : ℕ) → Tree n → Tree n
ran [] t i n x = x
ran (k ∷ w) t i n x = ran w t i n (apply_at (kind_matrix k) t i n x)

abbrev pub at_qubit : ℕ → List Kind → List Gate
at_qubit t w = map (λ k. plain k t) w

carried_ran : (w : List Kind) (t n : ℕ) (x : Tree n) → carried (at_qubit t w) n x ≡ ran w t 1 n x
carried_ran [] t n x = refl
carried_ran (k ∷ w) t n x = ap (carried (at_qubit t w) n) (select-none 1 n x (apply_at (kind_matrix k) t 1 n x)) ∙ carried_ran w t n (apply_at (kind_matrix k) t 1 n x)

abbrev halves : (n : ℕ) → (Leaf × Leaf → Leaf × Leaf) → Tree n × Tree n → Tree n × Tree n
halves n f x = (zip_t n (λ u v. (f (u, v)).0) x.0 x.1, zip_t n (λ u v. (f (u, v)).1) x.0 x.1)

ran_here : (w : List Kind) (t i n : ℕ) (x : Tree (suc n)) → eqb i t ≡ true → ran w t i (suc n) x ≡ halves n (on_leaves w) x
ran_here [] t i n x e = sym (ap₂ (λ (a b : Tree n). (a, b)) (zip_left n x.0 x.1) (zip_right n x.0 x.1))
ran_here (k ∷ w) t i n x e =
    ap (λ (b : Bool). ran w t i (suc n) (cond b (halves n (rows (kind_matrix k)) x) (apply_at (kind_matrix k) t (suc i) n x.0, apply_at (kind_matrix k) t (suc i) n x.1))) e
    ∙ ran_here w t i n (halves n (rows (kind_matrix k)) x) e
    ∙ ap₂ (λ (a b : Tree n). (a, b)) (zip_zip n (λ u v. (on_leaves w (u, v)).0) (λ u v. (rows (kind_matrix k) (u, v)).0) (λ u v. (rows (kind_matrix k) (u, v)).1) x.0 x.1) (zip_zip n (λ u v. (on_leaves w (u, v)).1) (λ u v. (rows (kind_matrix k) (u, v)).0) (λ u v. (rows (kind_matrix k) (u, v)).1) x.0 x.1)

ran_below : (w : List Kind) (t i n : ℕ) (x : Tree (suc n)) → eqb i t ≡ false → ran w t i (suc n) x ≡ (ran w t (suc i) n x.0, ran w t (suc i) n x.1)
ran_below [] t i n x e = refl
ran_below (k ∷ w) t i n x e =
    ap (λ (b : Bool). ran w t i (suc n) (cond b (halves n (rows (kind_matrix k)) x) (apply_at (kind_matrix k) t (suc i) n x.0, apply_at (kind_matrix k) t (suc i) n x.1))) e
    ∙ ran_below w t i n (apply_at (kind_matrix k) t (suc i) n x.0, apply_at (kind_matrix k) t (suc i) n x.1) e

module _ (j : ℕ) (v w : List Kind) (h : Alike j v w) where
  ran_same : (t i n : ℕ) (x : Tree n) → i ≤ t → t < i + n → same_t n (ran v t i n x) (map_t n (turn j) (ran w t i n x)) ≡ true
  ran_same t i zero x a b = absurd (omega arith)
  ran_same t i (suc n) x a b = go (eqb i t) refl (λ y c. ran_same t (suc i) n y c (omega arith))
    where
      go : (c : Bool) → eqb i t ≡ c → ((y : Tree n) → suc i ≤ t → same_t n (ran v t (suc i) n y) (map_t n (turn j) (ran w t (suc i) n y)) ≡ true) → same_t (suc n) (ran v t i (suc n) x) (map_t (suc n) (turn j) (ran w t i (suc n) x)) ≡ true
      go true e ih =
          ap₂ (λ (y z : Tree (suc n)). same_t (suc n) y (map_t (suc n) (turn j) z)) (ran_here v t i n x e) (ran_here w t i n x e)
          ∙ and-true (zip_same j n (λ u z. (on_leaves v (u, z)).0) (λ u z. (on_leaves w (u, z)).0) (λ u z. (both-same j v w h (u, z)).0) x.0 x.1) (zip_same j n (λ u z. (on_leaves v (u, z)).1) (λ u z. (on_leaves w (u, z)).1) (λ u z. (both-same j v w h (u, z)).1) x.0 x.1)
      go false e ih =
          let c : suc i ≤ t = omega (arith, eqb-false i t e) in
          ap₂ (λ (y z : Tree (suc n)). same_t (suc n) y (map_t (suc n) (turn j) z)) (ran_below v t i n x e) (ran_below w t i n x e)
          ∙ and-true (ih x.0 c) (ih x.1 c)

  pub alike_trees : (t n : ℕ) → 1 ≤ t → t ≤ n → (x : Tree n) → same_t n (carried (at_qubit t v) n x) (map_t n (turn j) (carried (at_qubit t w) n x)) ≡ true
  alike_trees t n a b x =
      ap₂ (λ (y z : Tree n). same_t n y (map_t n (turn j) z)) (carried_ran v t n x) (carried_ran w t n x)
      ∙ ran_same t 1 n x a (omega arith)
