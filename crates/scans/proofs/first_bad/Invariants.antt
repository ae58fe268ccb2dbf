-- No record that was passed has a fault. Assumes nothing.
use Rattle.std.proofs.Common.{ℕ, ◌+◌, ◌*◌, ◌<◌}
use Rattle.std.specs.declared.option.Option.TheVariants.{None}
use Rattle.scans.proofs.first_bad.Given as goal

abbrev pub invariant-loop-i : goal.invariant-loop-i
invariant-loop-i g l = (j : ℕ) → j < l.i → goal.F-post g l.fault (l.records.at + j * l.records.size) None
