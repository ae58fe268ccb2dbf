-- Document 01, "Trees, words and members": the members of a set, in order.
use Rattle.std.specs.Prelude.{Bool, true, false, cond, List, [], ◌∷◌, ◌++◌, map, ℕ, zero, suc}
use Rattle.std.proofs.Math.Option.{Option, none, some}
use Rattle.automata.specs.Choice.{choices_most, choose}
use Rattle.automata.specs.Tree.{Tree, Automaton}
use Rattle.automata.specs.Sets.{QSet, automaton_of, roots, tree}

abbrev pub up_to : ℕ → ℕ → List ℕ
up_to i zero = []
up_to i (suc n) = i ∷ up_to (suc i) n

-- "Choices are 0 to 31"
abbrev pub choices : List ℕ
choices = up_to 0 choices_most

abbrev pub flat : {A B : Type 0} → (A → List B) → List A → List B
flat f [] = []
flat f (x ∷ xs) = f x ++ flat f xs

abbrev pub or_none : {A B : Type 0} → Option A → (A → List B) → List B
or_none none f = []
or_none (some x) f = f x

module _ {S : Type 0} where
  abbrev pub kids : Option (List S) → Option (S × S) → Option (List S)
  kids none p = none
  kids (some l) none = none
  kids (some l) (some p) = some (p.0 ∷ p.1 ∷ l)

  -- the states reached under choice c from those of a list, where each of them has a transition with it
  abbrev pub nexts : Automaton S → ℕ → ℕ → List S → Option (List S)
  nexts A i c [] = some []
  nexts A i c (s ∷ ss) = kids (nexts A i c ss) (choose c (A.moves i s))

  -- each state of the list has a leaf transition with choice c
  abbrev pub stops : Automaton S → ℕ → List S → Bool
  stops A c [] = true
  stops A c (s ∷ ss) = elim (choose c (A.ends s)) [ none ↦ false | some x ↦ stops A c ss ]

  -- the words with which each state of the list gives a tree, in order: level i, n qubits from there on
  abbrev pub words : Automaton S → ℕ → ℕ → List S → List (List ℕ)
  words A i zero ss = flat (λ c. cond (stops A c ss) ((c ∷ []) ∷ []) []) choices
  words A i (suc n) ss = flat (λ c. or_none (nexts A i c ss) (λ ks. map (λ w. c ∷ w) (words A (suc i) n ks))) choices

-- "Such a root and word is a member."
pub data Member : Type 0 where
  member : ℕ → List ℕ → Member

-- the roots and words that give a tree, "ordered by root, then by word, level 1 first"
abbrev pub runs : QSet → List Member
runs Q = flat (λ r. map (member r) (words (automaton_of Q) 1 Q.n (r ∷ []))) (up_to 0 (roots Q))

-- the members that a check examines: "each counts"
abbrev pub members : QSet → List Member
members Q = runs Q

-- a member's tree
abbrev pub state_of : (Q : QSet) → Member → Option (Tree Q.n)
state_of Q (member r w) = tree Q r w
