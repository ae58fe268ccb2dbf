-- Document 02, request 1: a reader of texts that takes one token at a time. It is in one state, a list of tokens that must come next and the place
-- where several may stand after them; a token that may not stand there is 19, an angle that closes on a bad value is 20.
use Rattle.std.specs.Prelude.{Bool, true, false, cond, ◌&&◌, not, List, [], ◌∷◌, ◌++◌, map, ℕ, suc, length, eqb, leb, ltb}
use Rattle.std.proofs.Math.Option.{Option, none, some}
use Rattle.stored.specs.Refusal.{Judged, refused, good, refusal, circuit_source}
use Rattle.gates.specs.Gate.{Gate}
use Rattle.qasm.specs.Token.{Mark, number, pi, plus, minus, times, over, opens, closes, Single, Double, Word, single, double, u1, Fixed, openqasm, version, semicolon, include, file, qreg, begins, ends, comma, Token, mark, gate, fixed, name, bad}
use Rattle.qasm.specs.Lexed.{same_bytes, lexed, token, line_of}
use Rattle.qasm.specs.Angle.{sum, Angle, turn_of, deepest}
use Rattle.qasm.specs.Grammar.{Call, alone, both, turn, Program, is_size, written, gates_in}
use Rattle.qasm.specs.Machine.{Part, begin, nothing, outside, want, got, done, next}

-- a token that must come: one that is always written alike, the register's name, u1's opening bracket
pub data Item : Type 0 where
  exactly : Fixed → Item
  named : List ℕ → Item
  bracket : Item

abbrev pub number_of : Fixed → ℕ
number_of openqasm = 0
number_of version = 1
number_of semicolon = 2
number_of include = 3
number_of file = 4
number_of qreg = 5
number_of begins = 6
number_of ends = 7
number_of comma = 8

abbrev pub is_opens : Mark → Bool
is_opens (number n) = false
is_opens pi = false
is_opens plus = false
is_opens minus = false
is_opens times = false
is_opens over = false
is_opens opens = true
is_opens closes = false

abbrev pub is_item : Item → Token → Bool
is_item (exactly f) (fixed g) = eqb (number_of f) (number_of g)
is_item (exactly f) (mark m) = false
is_item (exactly f) (gate w) = false
is_item (exactly f) (name q) = false
is_item (exactly f) bad = false
is_item (named q) (name r) = same_bytes q r
is_item (named q) (mark m) = false
is_item (named q) (gate w) = false
is_item (named q) (fixed g) = false
is_item (named q) bad = false
is_item bracket (mark m) = is_opens m
is_item bracket (gate w) = false
is_item bracket (fixed g) = false
is_item bracket (name q) = false
is_item bracket bad = false

-- whose index comes: a gate of one qubit, cx or cz's control, its target after that control, u1 with its angle
pub data Aim : Type 0 where
  one_of : Single → Aim
  control : Double → Aim
  target : Double → ℕ → Aim
  turned : Angle sum deepest → Aim

-- where several tokens may stand: the register's name, its size, a gate's word or the end, an index, inside u1's brackets
pub data Slot : Type 0 where
  naming : Slot
  sizing : List ℕ → Slot
  calling : Program → Slot
  aiming : Program → Aim → Slot
  turning : Program → Part deepest → Slot

pub data State : Type 0 where
  wait : List Item → Slot → State

pub data Step : Type 0 where
  dies : Step
  twenty : ℕ → Step
  goes : State → Step

abbrev pub onto : {X : Type 0} → Option X → (X → Step) → Step
onto none f = dies
onto (some x) f = f x

abbrev pub name_of : Token → Option (List ℕ)
name_of (mark m) = none
name_of (gate w) = none
name_of (fixed g) = none
name_of (name q) = some q
name_of bad = none

abbrev pub mark_of : Token → Option Mark
mark_of (mark m) = some m
mark_of (gate w) = none
mark_of (fixed g) = none
mark_of (name q) = none
mark_of bad = none

abbrev pub word_of : Token → Option Word
word_of (mark m) = none
word_of (gate w) = some w
word_of (fixed g) = none
word_of (name q) = none
word_of bad = none

abbrev pub count_in : Mark → Option ℕ
count_in (number n) = some n
count_in pi = none
count_in plus = none
count_in minus = none
count_in times = none
count_in over = none
count_in opens = none
count_in closes = none

abbrev pub count_of : Token → Option ℕ
count_of (mark m) = count_in m
count_of (gate w) = none
count_of (fixed g) = none
count_of (name q) = none
count_of bad = none

abbrev pub added : Program → Call → Program
added p c = record { register = p.register; qubits = p.qubits; calls = p.calls ++ (c ∷ []) }

-- `];` after an index, and the gate stands
abbrev pub ending : Program → Call → Step
ending p c = goes (wait (exactly ends ∷ exactly semicolon ∷ []) (calling (added p c)))

-- `NAME[`, and an index
abbrev pub to_index : Program → Aim → Step
to_index p a = goes (wait (named p.register ∷ exactly begins ∷ []) (aiming p a))

-- with one qubit no cx or cz may stand
abbrev pub called : Program → Word → Step
called p (single g) = to_index p (one_of g)
called p (double g) = cond (leb 2 p.qubits) (to_index p (control g)) dies
called p u1 = goes (wait (bracket ∷ []) (turning p (want outside (begin nothing))))

abbrev pub aimed : Program → Aim → ℕ → Step
aimed p (one_of g) i = cond (ltb i p.qubits) (ending p (alone g i)) dies
aimed p (control g) a =
    cond (ltb a p.qubits) (goes (wait (exactly ends ∷ exactly comma ∷ named p.register ∷ exactly begins ∷ []) (aiming p (target g a)))) dies
aimed p (target g a) b = cond (ltb b p.qubits && not (eqb a b)) (ending p (both g a b)) dies
aimed p (turned a) i = cond (ltb i p.qubits) (ending p (turn a i)) dies

-- the place of the bracket: after all gates before, the second token
abbrev pub bracket_place : Program → ℕ
bracket_place p = suc (length (written p))

-- "an angle read whole", which the test passes or not
abbrev pub in_angle : (Angle sum deepest → Bool) → Program → Part deepest → Step
in_angle ok p (want K o) = goes (wait [] (turning p (want K o)))
in_angle ok p (got K b f) = goes (wait [] (turning p (got K b f)))
in_angle ok p (done a) = cond (ok a) (to_index p (turned a)) (twenty (bracket_place p))

abbrev pub at : (Angle sum deepest → Bool) → Slot → Token → Step
at ok naming t = onto (name_of t) (λ q. goes (wait (exactly begins ∷ []) (sizing q)))
at ok (sizing q) t =
    onto (count_of t) (λ n. cond (is_size n) (goes (wait (exactly ends ∷ exactly semicolon ∷ []) (calling (record { register = q; qubits = n; calls = [] })))) dies)
at ok (calling p) t = onto (word_of t) (called p)
at ok (aiming p a) t = onto (count_of t) (aimed p a)
at ok (turning p s) t = onto (mark_of t) (λ m. onto (next s m) (in_angle ok p))

abbrev pub step : (Angle sum deepest → Bool) → State → Token → Step
step ok (wait [] s) t = at ok s t
step ok (wait (i ∷ is) s) t = cond (is_item i t) (goes (wait is s)) dies

-- `OPENQASM 2.0; include "qelib1.inc"; qreg`, and a name
abbrev pub start : State
start =
    wait (exactly openqasm ∷ exactly version ∷ exactly semicolon ∷ exactly include ∷ exactly file ∷ exactly semicolon ∷ exactly qreg ∷ []) naming

-- ---- a whole text
-- 19 at the token at a place, 20 at the bracket at a place, or the program; places count from 0
pub data Found : Type 0 where
  nineteen : ℕ → Found
  bad20 : ℕ → Found
  text : Program → Found

-- at the text's end
abbrev pub ended : ℕ → State → Found
ended i (wait [] naming) = nineteen i
ended i (wait [] (sizing q)) = nineteen i
ended i (wait [] (calling p)) = text p
ended i (wait [] (aiming p a)) = nineteen i
ended i (wait [] (turning p s)) = nineteen i
ended i (wait (x ∷ is) s) = nineteen i

abbrev pub after : ℕ → Step → (State → Found) → Found
after i dies f = nineteen i
after i (twenty b) f = bad20 b
after i (goes s) f = f s

abbrev pub found_from : (Angle sum deepest → Bool) → ℕ → State → List Token → Found
found_from ok i s [] = ended i s
found_from ok i s (t ∷ ts) = after i (step ok s t) (λ s'. found_from ok (suc i) s' ts)

abbrev pub is_some : {X : Type 0} → Option X → Bool
is_some none = false
is_some (some x) = true

-- "The angle must be exactly m times pi/4"
abbrev pub is_turn : Angle sum deepest → Bool
is_turn a = is_some (turn_of a)

abbrev pub found : List Token → Found
found ts = found_from is_turn 0 start ts

-- the register's n, and the gates
pub record Text : Type 0 where
  pub size : ℕ
  pub gates : List Gate

abbrev pub gates_or : Option (List Gate) → List Gate
gates_or none = []
gates_or (some gs) = gs

-- "source 2, place the line from 1"
abbrev pub judged : (ℕ → ℕ) → Found → Judged Text
judged lines (nineteen i) = refused (refusal 19 circuit_source (lines i))
judged lines (bad20 i) = refused (refusal 20 circuit_source (lines i))
judged lines (text p) = good (record { size = p.qubits; gates = gates_or (gates_in p) })

unfoldable pub read_text : List ℕ → Judged Text
read_text s = judged (line_of s) (found (map token (lexed s)))
