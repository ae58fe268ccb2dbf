-- The block goes to the slot whose turn it is, where it moves no other. Assumes nothing.
use Rattle.remembering.proofs.KeepLaws.{keeps-memory}
use Rattle.remembering.proofs.Slots.keep.Goals as goal

pub returns-clause-memory : goal.returns-clause-memory
returns-clause-memory c =
    let s = c.next-k.ensures.others in
    let q = c.put.ensures in
    λ low good rising e f memory says.
    rw (q.sizes.count, q.seen, c.cell.ensures, s.sizes.count, s.seen)
    (keeps-memory low good rising e f c.requires.0 c.next-k.ensures.slot (rw (s.kept, s.rows) at q.cells) memory says)
