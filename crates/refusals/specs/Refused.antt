-- Document 01, "Replies": "A refusal returns its number, its source .. and its place": the numbers of the code's refusals, and a judged thing as the
-- code answers it, as a `Result`.
use Rattle.std.specs.Prelude.{ℕ, Result}
use Rattle.std.specs.declared.result.Result.TheVariants.{Ok, Err}
use Rattle.stored.specs.Refusal as stored
use Rattle.stored.specs.Refusal.{Judged, refused, good}
use Rattle.refusals.specs.declared.Reason.{Reason}
use Rattle.refusals.specs.declared.Reason.TheVariants as why
use Rattle.refusals.specs.declared.Source.{Source}
use Rattle.refusals.specs.declared.Source.TheVariants as of
use Rattle.refusals.specs.declared.Refusal.{Refusal}
use Rattle.refusals.specs.declared.Fault.{Fault}

-- document 01's replies 1 to 18, document 02's 81 to 84 "where 8 stood", and its 22 and 23
abbrev pub number_of : Reason → ℕ
number_of why.Head = 1
number_of why.Version = 2
number_of why.Ranges = 3
number_of why.Counts = 4
number_of why.Length = 5
number_of why.Mark = 6
number_of why.Levels = 7
number_of why.State = 81
number_of why.LeftChild = 82
number_of why.RightChild = 83
number_of why.EmptyMask = 84
number_of why.Leaf = 9
number_of why.Order = 10
number_of why.CircuitLength = 11
number_of why.Gate = 12
number_of why.OtherQubits = 13
number_of why.Sizes = 14
number_of why.Scale = 15
number_of why.Coefficients = 16
number_of why.Short = 17
number_of why.NoJob = 18
number_of why.Element = 22
number_of why.Sequence = 23

-- "(1 start, 2 circuit, 3 end, 0 for 13, 17, 18)"
abbrev pub source_of : Source → ℕ
source_of of.Nothing = 0
source_of of.Start = 1
source_of of.Circuit = 2
source_of of.End = 3

-- the three numbers of a refusal
abbrev pub told : Refusal → stored.Refusal
told r = record { number = number_of r.reason; source = source_of r.source; place = r.place }

-- and of a fault in a file of such a source
abbrev pub told_at : ℕ → Fault → stored.Refusal
told_at source f = record { number = number_of f.reason; source = source; place = f.place }

-- what the code's result says of a judged thing
abbrev pub judged : {A : Type 0} → Result A Refusal → Judged A
judged (Ok x) = good x
judged (Err r) = refused (told r)

-- and of a judged file of such a source
abbrev pub judged_at : {A : Type 0} → ℕ → Result A Fault → Judged A
judged_at source (Ok x) = good x
judged_at source (Err f) = refused (told_at source f)

-- what the code hands on of a judged thing
abbrev pub seen : {A B : Type 0} → (B → A) → Judged B → Judged A
seen f (refused r) = refused r
seen f (good x) = good (f x)
