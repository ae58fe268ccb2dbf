-- The gates' matrices, as a textbook has them: 2 by 2 entries, put at a qubit, controlled.
use Rattle.std.specs.Prelude.{Bool, false, cond, ◌||◌, List, [], ◌∷◌, ℕ, zero, suc, ◌-◌, ◌%◌, eqb}
use Rattle.amplitude.specs.Leaf.{Leaf, 0L, plus, turn, over√2}
use Rattle.automata.specs.Tree.{Tree, zip_t}
use Rattle.gates.specs.Gate.{Kind, phase, flip, H, Gate, plain, controlled}

-- an entry: 0, ω^j, or ω^j/√2
pub data Entry : Type 0 where
  O : Entry
  W : ℕ → Entry
  W/√2 : ℕ → Entry

abbrev pub times : Entry → Leaf → Leaf
times O x = 0L
times (W j) x = turn j x
times (W/√2 j) x = over√2 (turn j x)

-- the first row, then the second
pub record Matrix : Type 0 where
  pub a : Entry
  pub b : Entry
  pub c : Entry
  pub d : Entry

abbrev pub matrix : Entry → Entry → Entry → Entry → Matrix
matrix a b c d = record { a = a; b = b; c = c; d = d }

-- ω^j backwards: ω^−j as a power from 0 to 7
abbrev pub back : ℕ → ℕ
back j = (8 - j) % 8

-- X = (0 1; 1 0), Y = (0 −i; i 0) with i = ω², phase j = (1 0; 0 ω^j), H = (1 1; 1 −1)/√2 with −1 = ω⁴
abbrev pub kind_matrix : Kind → Matrix
kind_matrix (phase j) = matrix (W 0) O O (W j)
kind_matrix (flip j) = matrix O (W (back j)) (W j) O
kind_matrix H = matrix (W/√2 0) (W/√2 0) (W/√2 0) (W/√2 4)

-- e·x + f·y, at each place
abbrev pub row : (n : ℕ) → Entry → Entry → Tree n → Tree n → Tree n
row n e f x y = zip_t n (λ u v. plus (times e u) (times f v)) x y

-- the matrix at qubit t of a tree whose first qubit is i
abbrev pub apply_at : Matrix → ℕ → ℕ → (n : ℕ) → Tree n → Tree n
apply_at M t i zero x = x
apply_at M t i (suc n) x =
    cond (eqb i t)
    (row n M.a M.b x.0 x.1, row n M.c M.d x.0 x.1)
    (apply_at M t (suc i) n x.0, apply_at M t (suc i) n x.1)

abbrev pub among : ℕ → List ℕ → Bool
among q [] = false
among q (c ∷ cs) = eqb q c || among q cs

-- y at the basis states where all the controls are 1, x at the others
abbrev pub select : List ℕ → ℕ → (n : ℕ) → Tree n → Tree n → Tree n
select cs i zero x y = y
select cs i (suc n) x y = (cond (among i cs) x.0 (select cs (suc i) n x.0 y.0), select cs (suc i) n x.1 y.1)

abbrev pub controls : Gate → List ℕ
controls (plain k t) = []
controls (controlled c k t) = c ∷ []

abbrev pub target_of : Gate → ℕ
target_of (plain k t) = t
target_of (controlled c k t) = t

abbrev pub kind_in : Gate → Kind
kind_in (plain k t) = k
kind_in (controlled c k t) = k

-- the gate's matrix on a tree whose first qubit is i: the kind's matrix at the target, where all controls are 1
abbrev pub effect : Gate → ℕ → (n : ℕ) → Tree n → Tree n
effect g i n x = select (controls g) i n x (apply_at (kind_matrix (kind_in g)) (target_of g) i n x)

abbrev pub gate_matrix : Gate → (n : ℕ) → Tree n → Tree n
gate_matrix g n x = effect g 1 n x

-- a circuit's matrices, one after the other
abbrev pub carried : List Gate → (n : ℕ) → Tree n → Tree n
carried [] n x = x
carried (g ∷ gs) n x = carried gs n (gate_matrix g n x)
