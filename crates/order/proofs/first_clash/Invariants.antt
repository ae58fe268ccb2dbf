-- The records passed, and those of the rest that fit, come to those that fit of all. Assumes nothing.
use Rattle.std.proofs.Common.{◌≡◌, ◌+◌}
use Rattle.order.proofs.PassLaws.{start, unfit_from}
use Rattle.order.proofs.first_clash.Given as goal

abbrev pub invariant-loop-i : goal.invariant-loop-i
invariant-loop-i l =
    l.i + unfit_from l.s l.records.at l.records.size l.records.count l.i l.run
    ≡ unfit_from l.s l.records.at l.records.size l.records.count 0 start
