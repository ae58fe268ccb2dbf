-- Two tables, of which one holds the set and the next gate's result goes into the other.
use Rattle.std.specs.Prelude.{◌≡◌, Bool, true, false, cond}
use Rattle.automata.specs.Sets.{QSet}
use Rattle.stored.specs.Rules.{Bounds}
use Rattle.setfile.specs.declared.Form.{Form}
use Rattle.standing.specs.Standing.{Stands, Holding}
pub use Rattle.tables.specs.Slices.{Table, table_of, set_on}

-- the table that holds the set, the second one or the first, and the other one
abbrev pub holder : Bool → Table → Table → Table
holder second T U = cond second U T

abbrev pub other : Bool → Table → Table → Table
other second T U = cond second T U

-- what is said of slices, of a table
abbrev pub StandsOn : Table → Form → Bounds → Type 0
StandsOn T f b = Stands T.rows T.masks T.coefs T.counts T.first f b

abbrev pub HoldingOn : Table → QSet → Bounds → Type 0
HoldingOn T N b = Holding T.rows T.masks T.coefs T.counts T.first N b

-- the set stands in its holder
pub record StandsIn (second : Bool) (T U : Table) (f : Form) (b : Bounds) : Type 0 where
  pub one : second ≡ false → StandsOn T f b
  pub two : second ≡ true → StandsOn U f b
