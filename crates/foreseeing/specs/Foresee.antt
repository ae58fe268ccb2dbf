-- Which pairs could match by any words at all: what is asked of the tables, and what the marks say. Only one side is promised: a pair whose
-- trees are equal by some words is marked.
use Rattle.std.specs.Prelude.{◌≡◌, Bool, true, false, List, ℕ, suc, ◌+◌, ◌*◌, ◌<◌, ◌≤◌, ℤ, length, get_or}
use Rattle.automata.specs.Choice.{choices_most}
use Rattle.automata.specs.Tree.{Automaton}
use Rattle.meeting.specs.declared.Level.{Level}
use Rattle.meeting.specs.declared.Sides.{Sides}
use Rattle.hinting.specs.Hint.{EndFits, KidsMay}
use Rattle.matching.specs.Levels.{start_of, IsLevel}
use Rattle.matching.specs.Seeking.{Sound, Held}
use Rattle.matching.specs.On.{automaton_of}

-- ---- row i of the image beside the end set's rows from `from` up to below `to`
-- one of them has an equal leaf, or has children that are marked with those of row i
abbrev pub RowFits : Bool → List ℕ → List ℤ → List ℕ → List ℤ → ℕ → List ℕ → ℕ → ℕ → ℕ → Type 0
RowFits true rows coefs end_rows end_coefs wide may i from to = EndFits rows coefs end_rows end_coefs i from to
RowFits false rows coefs end_rows end_coefs wide may i from to = KidsMay rows end_rows wide may i from to

-- some row of image state s has such a row of end state e
pub record PairFits (last : Bool) (rows : List ℕ) (coefs : List ℤ) (first end_rows : List ℕ) (end_coefs : List ℤ) (end_first : List ℕ) (wide : ℕ) (may : List ℕ) (s e : ℕ) : Type 0 where
  pub row : ℕ
  pub after : get_or first s 0 ≤ row
  pub before : row < get_or first (s + 1) 0
  pub fits : RowFits last rows coefs end_rows end_coefs wide may row (get_or end_first e 0) (get_or end_first (e + 1) 0)

-- ---- levels
-- both tables hold sets of n qubits, and all pairs have their places in the row of marks
pub record Both (rows masks : List ℕ) (coefs : List ℤ) (counts first end_rows end_masks : List ℕ) (end_coefs : List ℤ) (end_counts end_first : List ℕ) (wide size n : ℕ) : Type 0 where
  pub image : Held rows masks coefs counts first n
  pub ends : Held end_rows end_masks end_coefs end_counts end_first n
  pub long : start_of counts (suc n) * wide ≤ size
  pub narrow : start_of end_counts (suc n) ≤ wide * 32

-- level at + 1 is marked next, and m qubits are left from there on
pub record Foreseeing (rows masks : List ℕ) (coefs : List ℤ) (counts first end_rows end_masks : List ℕ) (end_coefs : List ℤ) (end_counts end_first : List ℕ) (wide size at m : ℕ) (l : Level) : Type 0 where
  pub both : Both rows masks coefs counts first end_rows end_masks end_coefs end_counts end_first wide size (at + m)
  pub here : IsLevel counts end_counts at l

-- n + 1 choices
pub record IsWord (word : List ℕ) (n : ℕ) : Type 0 where
  pub letters : n + 1 ≤ length word
  pub small : (i : ℕ) → i ≤ n → get_or word i 0 < choices_most

-- whatever the image's word, the marks of levels at + 1 and on have every pair whose trees are equal by some word of the end set
pub record Foreseen (S E : Automaton ℕ) (counts end_counts : List ℕ) (wide : ℕ) (may : List ℕ) (at n : ℕ) : Type 0 where
  pub each : (word : List ℕ) → IsWord word n → Sound S E word counts end_counts wide may at n

-- ---- of both tables
abbrev pub PairFitsOn : Bool → Sides → List ℕ → ℕ → ℕ → Type 0
PairFitsOn last t may s e = PairFits last t.image.rows.now t.image.coefs.now t.image.first.now t.end.rows.now t.end.coefs.now t.end.first.now t.wide may s e

abbrev pub BothOn : Sides → ℕ → ℕ → Type 0
BothOn t size n = Both t.image.rows.now t.image.masks.now t.image.coefs.now t.image.counts.now t.image.first.now t.end.rows.now t.end.masks.now t.end.coefs.now t.end.counts.now t.end.first.now t.wide size n

abbrev pub ForeseeingOn : Sides → ℕ → ℕ → ℕ → Level → Type 0
ForeseeingOn t size at m l = Foreseeing t.image.rows.now t.image.masks.now t.image.coefs.now t.image.counts.now t.image.first.now t.end.rows.now t.end.masks.now t.end.coefs.now t.end.counts.now t.end.first.now t.wide size at m l

abbrev pub ForeseenOn : Sides → List ℕ → ℕ → ℕ → Type 0
ForeseenOn t may at n = Foreseen (automaton_of t.image) (automaton_of t.end) t.image.counts.now t.end.counts.now t.wide may at n
