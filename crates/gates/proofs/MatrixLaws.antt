-- Laws of the matrices on trees: a row with a zero entry turns one side only, and what stands past the target or the controls stays. Assumes nothing.
use mathlib.Core.Path.{◌≡◌, refl, sym, ap, ap₂, ◌∙◌}
use mathlib.Core.List.{List, [], ◌∷◌, ◌++◌}
use Prim.Native.Nat.{ℕ, zero, suc, ◌<◌}
use native.Mathlib.Omega.{arith}
use borrow.Author.Tests.{ne_eqb}
use Rattle.amplitude.specs.Leaf.{Leaf, plus, turn, over√2}
use Rattle.amplitude.proofs.LeafLaws.{0_left, 0_right, over-plus, minus_is, turn-none}
use Rattle.automata.specs.Tree.{Tree, map_t, zip_t}
use Rattle.gates.specs.Gate.{Gate}
use Rattle.gates.specs.Matrix.{O, W, row, select, carried, gate_matrix}
use Rattle.gates.specs.Key.{L, R}
use Rattle.gates.specs.Roles.{pair_end}

pub row-right : (j n : ℕ) (x y : Tree n) → row n O (W j) x y ≡ map_t n (turn j) y
row-right j zero x y = 0_left (turn j y)
row-right j (suc n) x y = ap₂ (λ (a b : Tree n). (a, b)) (row-right j n x.0 y.0) (row-right j n x.1 y.1)

pub row-left : (j n : ℕ) (x y : Tree n) → row n (W j) O x y ≡ map_t n (turn j) x
row-left j zero x y = 0_right (turn j x)
row-left j (suc n) x y = ap₂ (λ (a b : Tree n). (a, b)) (row-left j n x.0 y.0) (row-left j n x.1 y.1)

pub unturned : (n : ℕ) (x : Tree n) → map_t n (turn 0) x ≡ x
unturned zero x = turn-none x
unturned (suc n) x = ap₂ (λ (a b : Tree n). (a, b)) (unturned n x.0) (unturned n x.1)

-- H's rows at a leaf: A + B and A − B over √2
pub sum-end : (a b : Leaf) → pair_end L a b ≡ plus (over√2 (turn 0 a)) (over√2 (turn 0 b))
sum-end a b = over-plus a b ∙ ap₂ (λ (x y : Leaf). plus (over√2 x) (over√2 y)) (sym (turn-none a)) (sym (turn-none b))

pub difference_end : (a b : Leaf) → pair_end R a b ≡ plus (over√2 (turn 0 a)) (over√2 (turn 4 b))
difference_end a b =
    ap over√2 (minus_is a b) ∙ over-plus a (turn 4 b) ∙ ap (λ (x : Leaf). plus (over√2 x) (over√2 (turn 4 b))) (sym (turn-none a))

pub zip_ext : (n : ℕ) (f g : Leaf → Leaf → Leaf) → ((a b : Leaf) → f a b ≡ g a b) → (x y : Tree n) → zip_t n f x y ≡ zip_t n g x y
zip_ext zero f g h x y = h x y
zip_ext (suc n) f g h x y = ap₂ (λ (a b : Tree n). (a, b)) (zip_ext n f g h x.0 y.0) (zip_ext n f g h x.1 y.1)

-- ---- past the controls
pub select-none : (i n : ℕ) (x y : Tree n) → select [] i n x y ≡ y
select-none i zero x y = refl
select-none i (suc n) x y = ap₂ (λ (a b : Tree n). (a, b)) (select-none (suc i) n x.0 y.0) (select-none (suc i) n x.1 y.1)

pub select_past : (c i n : ℕ) (x y : Tree n) → c < i → select (c ∷ []) i n x y ≡ y
select_past c i zero x y h = refl
select_past c i (suc n) x y h =
    rw (ne_eqb i c (λ z. omega arith))
    (ap₂ (λ (a b : Tree n). (a, b)) (select_past c (suc i) n x.0 y.0 (omega arith)) (select_past c (suc i) n x.1 y.1 (omega arith)))

-- ---- circuits: one after the other
pub carried_append : (gs hs : List Gate) (n : ℕ) (x : Tree n) → carried (gs ++ hs) n x ≡ carried hs n (carried gs n x)
carried_append [] hs n x = refl
carried_append (g ∷ gs) hs n x = carried_append gs hs n (gate_matrix g n x)
