-- `lines::line::put_fields` meets its contract. The loop's invariant: i fields are at the front, in at most four bytes each. Assumes nothing.
use Rattle.lines.proofs.Fields.{Listing}
use Rattle.lines.proofs.line.put_fields.Given as goal

abbrev pub invariant-loop-number : goal.invariant-loop-number
invariant-loop-number l =
    Listing l.numbers l.initial.out l.out l.number-index l.at
