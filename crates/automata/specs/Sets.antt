-- A set as document 01's stored form has it: n, k, the number of states on each level, the records; and the automaton that it is.
use Rattle.std.specs.Prelude.{cond, List, [], ◌∷◌, ℕ, suc, ◌+◌, ◌-◌, eqb, ltb}
use Rattle.std.proofs.Math.Option.{Option}
use Rattle.amplitude.specs.Leaf.{Leaf}
use Rattle.automata.specs.Choice.{Alt, alt}
use Rattle.automata.specs.Tree.{Tree, Automaton, tree_of}

-- a record: a state, its mask, and what is taken
pub data Rec (X : Type 0) : Type 0 where
  rec : ℕ → ℕ → X → Rec X

-- TR: state, mask, left and right
abbrev pub TR : Type 0
TR = Rec (ℕ × ℕ)

abbrev pub tr : ℕ → ℕ → ℕ → ℕ → TR
tr s m l r = rec s m (l, r)

-- LF: state, mask, amplitude
abbrev pub LF : Type 0
LF = Rec Leaf

-- n, the one k, the states on each level from level 1 on, TR records, LF records
pub record QSet : Type 0 where
  pub n : ℕ
  pub k : ℕ
  pub counts : List ℕ
  pub inner : List TR
  pub leaves : List LF

abbrev pub sum : List ℕ → ℕ
sum [] = 0
sum (x ∷ xs) = x + sum xs

-- "All level 1 states are roots, in number order."
abbrev pub roots_in : List ℕ → ℕ
roots_in [] = 0
roots_in (c ∷ cs) = c

abbrev pub roots : QSet → ℕ
roots Q = roots_in Q.counts

-- "States are numbered from 0, level by level": the level of a state, where the levels counted begin at level i; the level after the last
-- for a number that is on none
abbrev pub level_in : ℕ → List ℕ → ℕ → ℕ
level_in i [] s = i
level_in i (c ∷ cs) s = cond (ltb s c) i (level_in (suc i) cs (s - c))

-- the records of one state
abbrev pub own : {X : Type 0} → ℕ → List (Rec X) → List (Alt X)
own s [] = []
own s (rec q m x ∷ ts) = cond (eqb q s) (alt m x ∷ own s ts) (own s ts)

abbrev pub automaton : List TR → List LF → Automaton ℕ
automaton ts ls = record { moves = λ i s. own s ts; ends = λ s. own s ls }

abbrev pub automaton_of : QSet → Automaton ℕ
automaton_of Q = automaton Q.inner Q.leaves

-- "A root and a word give a tree if each state reached has a transition with its level's choice; otherwise none."
abbrev pub tree : (Q : QSet) → ℕ → List ℕ → Option (Tree Q.n)
tree Q r w = tree_of (automaton_of Q) 1 Q.n w r
