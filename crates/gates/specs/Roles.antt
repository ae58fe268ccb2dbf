-- Document 01, "What each gate builds": what a gate does at each level, and the automaton of its result, whose states are keys.
use Rattle.std.specs.Prelude.{cond, List, ℕ, eqb, ltb}
use Rattle.amplitude.specs.Leaf.{Leaf, plus, minus, turn, over√2}
use Rattle.automata.specs.Choice.{Alt, map_alt, together}
use Rattle.automata.specs.Tree.{Automaton}
use Rattle.gates.specs.Gate.{Kind, phase, flip, H, Gate}
use Rattle.gates.specs.Matrix.{back}
use Rattle.gates.specs.Key.{Side, L, R, Key, plain, shifted, inside, pair, turned}

-- pass: nothing; begin: the right child goes inside; act: the kind at a plain state; within: the kind at a state inside; cross: a pair's
-- children change partners
pub data Role : Type 0 where
  pass begin cross : Role
  act within : Kind → Role

-- "control above target": inside begins at the control and acts at the target. "control below target: pairs L and R from level t, as for H",
-- crossed at the control.
abbrev pub role : Gate → ℕ → Role
role (Gate.plain k t) i = cond (eqb i t) (act k) pass
role (Gate.controlled c k t) i =
    cond (ltb c t)
    (cond (eqb i c) begin (cond (eqb i t) (within k) pass))
    (cond (eqb i t) (act H) (cond (eqb i c) cross pass))

abbrev pub Two : Type 0
Two = Key × Key

-- a transition with children l, r at the target level.
-- "X: (r, l). Y: (r shifted 6, l shifted 2). Phase j: (l, r shifted j). H: (pair l r L, pair l r R)."
abbrev pub kind_kids : Kind → ℕ × ℕ → Two
kind_kids (phase j) p = (plain p.0, shifted j p.1)
kind_kids (flip j) p = (turned (back j) p.1, turned j p.0)
kind_kids H p = (pair p.0 p.1 L, pair p.0 p.1 R)

abbrev pub plain_kids : Role → ℕ × ℕ → Two
plain_kids pass p = (plain p.0, plain p.1)
plain_kids begin p = (plain p.0, inside p.1)
plain_kids cross p = (plain p.0, plain p.1)
plain_kids (act k) p = kind_kids k p
plain_kids (within k) p = (plain p.0, plain p.1)

-- "`inside` passes down to level t, where children are swapped and become plain"
abbrev pub inside_kids : Role → ℕ × ℕ → Two
inside_kids pass p = (inside p.0, inside p.1)
inside_kids begin p = (inside p.0, inside p.1)
inside_kids cross p = (inside p.0, inside p.1)
inside_kids (act k) p = (inside p.0, inside p.1)
inside_kids (within k) p = kind_kids k p

-- a pair's left child pairs the two left children, its right child the two right ones
abbrev pub both_kids : Side → ℕ × ℕ → ℕ × ℕ → Two
both_kids s q p = (pair q.0 p.0 s, pair q.1 p.1 s)

-- "with q to (q0,q1) and p to (p0,p1): L gives (q0,p1), R gives (p0,q1), all plain"
abbrev pub cross_kids : Side → ℕ × ℕ → ℕ × ℕ → Two
cross_kids L q p = (plain q.0, plain p.1)
cross_kids R q p = (plain p.0, plain q.1)

abbrev pub pair_kids : Role → Side → ℕ × ℕ → ℕ × ℕ → Two
pair_kids pass s q p = both_kids s q p
pair_kids begin s q p = both_kids s q p
pair_kids cross s q p = cross_kids s q p
pair_kids (act k) s q p = both_kids s q p
pair_kids (within k) s q p = both_kids s q p

-- "A pair walks both its states at once"
abbrev pub key_moves : Role → (ℕ → List (Alt (ℕ × ℕ))) → Key → List (Alt Two)
key_moves o moves (plain q) = map_alt (plain_kids o) (moves q)
key_moves o moves (shifted j q) = map_alt (λ p. (shifted j p.0, shifted j p.1)) (moves q)
key_moves o moves (inside q) = map_alt (inside_kids o) (moves q)
key_moves o moves (pair q p s) = together (pair_kids o s) (moves q) (moves p)

-- "Leaves A, B give A+B under L, A−B under R. k grows by one."
abbrev pub pair_end : Side → Leaf → Leaf → Leaf
pair_end L x y = over√2 (plus x y)
pair_end R x y = over√2 (minus x y)

-- "`Shifted j` means all leaves below are multiplied by ω^j."
abbrev pub key_ends : (ℕ → List (Alt Leaf)) → Key → List (Alt Leaf)
key_ends ends (plain q) = ends q
key_ends ends (shifted j q) = map_alt (turn j) (ends q)
key_ends ends (inside q) = ends q
key_ends ends (pair q p s) = together (pair_end s) (ends q) (ends p)

abbrev pub keyed : Gate → Automaton ℕ → Automaton Key
keyed g A = record { moves = λ i x. key_moves (role g i) (A.moves i) x; ends = key_ends A.ends }
