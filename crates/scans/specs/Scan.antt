-- What a scan of records says, by what a look at each place says: the fault of the record there, or that it has none.
use Rattle.std.specs.Prelude.{cond, ℕ, ◌+◌, ◌*◌, ◌<◌, eqb, Option}
use Rattle.std.specs.declared.option.Option.TheVariants.{Some, None}
use Rattle.refusals.specs.declared.Reason.{Reason}
use Rattle.scans.specs.declared.Records.{Records}

-- none of the records has a fault
pub record NoneBad (says : ℕ → Option Reason → Type 0) (r : Records) : Type 0 where
  pub all : (j : ℕ) → j < r.count → says (r.at + j * r.size) None

-- record i, from 0, has the fault, and none before it has any
pub record BadAt (says : ℕ → Option Reason → Type 0) (r : Records) (i : ℕ) (fault : Reason) : Type 0 where
  pub within : i < r.count
  pub before : (j : ℕ) → j < i → says (r.at + j * r.size) None
  pub here : says (r.at + i * r.size) (Some fault)

-- the first of them that has one, or that none has
abbrev pub FirstBad : (ℕ → Option Reason → Type 0) → Records → Option (ℕ × Reason) → Type 0
FirstBad says r None = NoneBad says r
FirstBad says r (Some x) = BadAt says r x.0 x.1

-- the number at which a scan of so many stops; none where that is their count
abbrev pub stopped : ℕ → ℕ → Option ℕ
stopped count i = cond (eqb i count) None (Some i)
