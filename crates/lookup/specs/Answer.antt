-- The code's answer of a lookup: a row's number, or nothing.
use Rattle.std.specs.Prelude.{ℕ, Option, Some, None}
use Rattle.std.proofs.Math.Option.{none, some}
use Rattle.std.proofs.Math.Option as listed

abbrev pub found : listed.Option ℕ → Option ℕ
found none = None
found (some i) = Some i
