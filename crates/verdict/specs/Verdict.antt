-- Document 01, the check: the first of the first B starts, in their fixed order, that carried through the gate matrices is not a state of the
-- end set. The verdict is by the matrices applied to the starts, not by what the gates build.
use Rattle.std.specs.Prelude.{Bool, true, false, List, [], ◌∷◌, ℕ, zero, suc}
use Rattle.std.proofs.Math.Option.{Option, none, some}
use Rattle.automata.specs.Tree.{Tree, tree_of, same_t}
use Rattle.automata.specs.Sets.{QSet, automaton_of, tree}
use Rattle.automata.specs.Members.{Member, member, runs, members, state_of}
use Rattle.gates.specs.Gate.{Gate}
use Rattle.gates.specs.Matrix.{carried}

-- the tree that a root and a word of the end set give, on n qubits
abbrev pub end_tree : QSet → (n : ℕ) → Member → Option (Tree n)
end_tree E n (member r w) = tree_of (automaton_of E) 1 n w r

abbrev pub equals : (n : ℕ) → Tree n → Option (Tree n) → Bool
equals n x none = false
equals n x (some y) = same_t n x y

-- "A set's states are its members' trees": the tree is equal to that of one of the listed roots and words
abbrev pub is_one_of : QSet → (n : ℕ) → Tree n → List Member → Bool
is_one_of E n x [] = false
is_one_of E n x (m ∷ ms) = elim (equals n x (end_tree E n m)) [ true ↦ true | false ↦ is_one_of E n x ms ]

-- some root and word of the end set give an equal tree
abbrev pub is_state : QSet → (n : ℕ) → Tree n → Bool
is_state E n x = is_one_of E n x (runs E)

-- a start passes if its tree, carried through the gate matrices, is a state of the end set
abbrev pub ends_well : QSet → List Gate → QSet → Member → Bool
ends_well Q gs E m = elim (state_of Q m) [ none ↦ false | some x ↦ is_state E Q.n (carried gs Q.n x) ]

pub data Verdict : Type 0 where
  holds : ℕ → Verdict
  fails : ℕ → Member → Verdict
  undecided : ℕ → Verdict

-- the members left, where p were examined and passed, and at most b more are allowed
abbrev pub examine : (Member → Bool) → ℕ → ℕ → List Member → Verdict
examine passes p b [] = holds p
examine passes p zero (m ∷ ms) = undecided p
examine passes p (suc b) (m ∷ ms) = elim (passes m) [ true ↦ examine passes (suc p) b ms | false ↦ fails (suc p) m ]

-- "The check stops after the number of members the caller allows"
unfoldable pub verdict : QSet → List Gate → QSet → ℕ → Verdict
verdict Q gs E b = examine (ends_well Q gs E) 0 b (members Q)
