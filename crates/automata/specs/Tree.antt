-- Document 01, "Trees, words and members": trees of amplitudes, automata, and the tree that a state and a word give.
use Rattle.std.specs.Prelude.{Bool, ◌&&◌, List, [], ◌∷◌, ◌++◌, ℕ, zero, suc}
use Rattle.std.proofs.Math.Option.{Option, none, some}
use Rattle.amplitude.specs.Leaf.{Leaf, same}
use Rattle.automata.specs.Choice.{Alt, choose, zip_o}

-- the amplitudes of n qubits: those with the first qubit 0 (left), then those with it 1 (right)
abbrev pub Tree : ℕ → Type 0
Tree zero = Leaf
Tree (suc n) = Tree n × Tree n

-- the leaves from left to right: the amplitudes at 0..0 to 1..1
abbrev pub leaves_of : (n : ℕ) → Tree n → List Leaf
leaves_of zero x = x ∷ []
leaves_of (suc n) x = leaves_of n x.0 ++ leaves_of n x.1

abbrev pub map_t : (n : ℕ) → (Leaf → Leaf) → Tree n → Tree n
map_t zero f x = f x
map_t (suc n) f x = (map_t n f x.0, map_t n f x.1)

abbrev pub zip_t : (n : ℕ) → (Leaf → Leaf → Leaf) → Tree n → Tree n → Tree n
zip_t zero f x y = f x y
zip_t (suc n) f x y = (zip_t n f x.0 y.0, zip_t n f x.1 y.1)

-- equal trees have equal amplitudes at every place
abbrev pub same_t : (n : ℕ) → Tree n → Tree n → Bool
same_t zero x y = same x y
same_t (suc n) x y = same_t n x.0 y.0 && same_t n x.1 y.1

-- "An inner transition takes a state of level i, with a set of choices, to a left and right state of level i+1 .. A leaf transition takes
-- a state of level n+1, with choices, to an amplitude." S names the states; moves are by level.
pub record Automaton (S : Type 0) : Type 0 where
  pub moves : ℕ → S → List (Alt (S × S))
  pub ends : S → List (Alt Leaf)

-- both subtrees, or none
abbrev pub node : {T : Type 0} → Option T → Option T → Option (T × T)
node l r = zip_o (λ x y. (x, y)) l r

module _ {S : Type 0} where
  abbrev pub and_then : {T : Type 0} → Option (S × S) → (S → S → Option T) → Option T
  and_then none f = none
  and_then (some p) f = f p.0 p.1

  -- "a tree if each state reached has a transition with its level's choice; otherwise none": from a state of level i, with n qubits from
  -- there on, by a word of n+1 choices
  abbrev pub tree_of : Automaton S → ℕ → (n : ℕ) → List ℕ → S → Option (Tree n)
  tree_of A i zero [] s = none
  tree_of A i zero (c ∷ []) s = choose c (A.ends s)
  tree_of A i zero (c ∷ d ∷ w) s = none
  tree_of A i (suc n) [] s = none
  tree_of A i (suc n) (c ∷ w) s = and_then (choose c (A.moves i s)) (λ l r. node (tree_of A (suc i) n w l) (tree_of A (suc i) n w r))
