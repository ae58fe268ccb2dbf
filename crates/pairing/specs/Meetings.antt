-- The rows that are picked for a choice, and two that meet.
use Rattle.std.specs.Prelude.{◌≡◌, List, ℕ, ◌-◌, ◌<◌, ◌≤◌, get_or}
use Rattle.std.specs.Int.Bits.{bit_and}
use Rattle.automata.specs.Choice.{Alt, alt, least}
use Rattle.stored.specs.Fields.{records_from}
use Rattle.lookup.specs.Lookup.{pair_row}
use Rattle.stepwise.specs.Meet.{pick}
use Rattle.pairing.specs.declared.Meeting.{Meeting}

-- the alternative in row i
abbrev pub alt_row : List ℕ → List ℕ → ℕ → Alt (ℕ × ℕ)
alt_row rows masks i = alt (get_or masks i 0) (pair_row rows i)

-- row i as an alternative that is taken by its number, and `count` rows from row `from` on
abbrev pub row_alt : List ℕ → ℕ → Alt ℕ
row_alt masks i = alt (get_or masks i 0) i

abbrev pub row_alts : List ℕ → ℕ → ℕ → List (Alt ℕ)
row_alts masks from count = records_from (row_alt masks) from 1 count

-- row i is the one picked at a choice among the rows from `from` up to below `to`: the first that has it, or row `from`
pub record Picked (masks : List ℕ) (from to c i : ℕ) : Type 0 where
  pub after : from ≤ i
  pub before : i < to
  pub is : pick (row_alt masks from) c (row_alts masks from (to - from)) ≡ row_alt masks i

-- the two rows, one of each state, that are picked for the least of the choices left, and what their masks share
pub record Met (masks : List ℕ) (qfrom qto pfrom pto left : ℕ) (m : Meeting) : Type 0 where
  pub one : Picked masks qfrom qto (least left) m.i
  pub other : Picked masks pfrom pto (least left) m.j
  pub shared : m.mask ≡ bit_and (get_or masks m.i 0) (get_or masks m.j 0)
