-- An exact search for a word of the end set: level by level, with the pairs of an image state and an end state that must match. One end
-- choice per level for all end states met, every image state against every end state it meets, and going back over choices.
use Rattle.std.specs.Prelude.{Bool, true, false, cond, ◌&&◌, ◌||◌, List, [], ◌∷◌, ℕ, zero, suc, eqb}
use Rattle.std.proofs.Math.Option.{Option, none, some}
use Rattle.amplitude.specs.Leaf.{Leaf, same}
use Rattle.automata.specs.Choice.{choose}
use Rattle.automata.specs.Tree.{Automaton}
use Rattle.automata.specs.Members.{choices, up_to}

-- an image state and an end state that it meets
abbrev pub Pair : Type 0
Pair = ℕ × ℕ

abbrev pub same_pair : Pair → Pair → Bool
same_pair p q = eqb p.0 q.0 && eqb p.1 q.1

abbrev pub is_met : Pair → List Pair → Bool
is_met p [] = false
is_met p (q ∷ row) = same_pair q p || is_met p row

-- each pair once
abbrev pub meet : Pair → List Pair → List Pair
meet p row = cond (is_met p row) row (p ∷ row)

-- both left children meet, and both right ones
abbrev pub meet_kids : Option (ℕ × ℕ) → Option (ℕ × ℕ) → Option (List Pair) → Option (List Pair)
meet_kids none e below = none
meet_kids (some s) none below = none
meet_kids (some s) (some e) none = none
meet_kids (some s) (some e) (some row) = some (meet (s.0, e.0) (meet (s.1, e.1) row))

-- the pairs one level down, by image choice c and end choice d; none where a state lacks its transition
abbrev pub down : Automaton ℕ → Automaton ℕ → ℕ → ℕ → ℕ → List Pair → Option (List Pair)
down S E i c d [] = some []
down S E i c d (p ∷ row) = meet_kids (choose c (S.moves i p.0)) (choose d (E.moves i p.1)) (down S E i c d row)

abbrev pub same_leaves : Option Leaf → Option Leaf → Bool
same_leaves none y = false
same_leaves (some x) none = false
same_leaves (some x) (some y) = same x y

-- the last step: do all pairs fit under choices c and d?
abbrev pub all_fit : Automaton ℕ → Automaton ℕ → ℕ → ℕ → List Pair → Bool
all_fit S E c d [] = true
all_fit S E c d (p ∷ row) = same_leaves (choose c (S.ends p.0)) (choose d (E.ends p.1)) && all_fit S E c d row

-- with this choice what follows, or else the next choice: going back
abbrev pub or_next : Option (List Pair) → (List Pair → Bool) → Bool → Bool
or_next none found next = next
or_next (some row) found next = found row || next

abbrev pub try_each : (ℕ → Option (List Pair)) → (List Pair → Bool) → List ℕ → Bool
try_each step found [] = false
try_each step found (d ∷ ds) = or_next (step d) found (try_each step found ds)

abbrev pub fits_one : (ℕ → Bool) → List ℕ → Bool
fits_one fits [] = false
fits_one fits (d ∷ ds) = fits d || fits_one fits ds

-- from level i, n qubits from there on, by the image's word
abbrev pub found : Automaton ℕ → Automaton ℕ → ℕ → ℕ → List ℕ → List Pair → Bool
found S E i zero [] row = false
found S E i zero (c ∷ []) row = fits_one (λ d. all_fit S E c d row) choices
found S E i zero (c ∷ d ∷ w) row = false
found S E i (suc n) [] row = false
found S E i (suc n) (c ∷ w) row = try_each (λ d. down S E i c d row) (found S E (suc i) n w) choices

-- from each root of the end set
abbrev pub searched : Automaton ℕ → Automaton ℕ → ℕ → ℕ → List ℕ → ℕ → Bool
searched S E roots n w r = fits_one (λ e. found S E 1 n w ((r, e) ∷ [])) (up_to 0 roots)
