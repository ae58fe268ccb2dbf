-- Each field is the number at its place, the first two as the reader gives them. Assumes nothing.
use Rattle.records.specs.Read.{key_read, tr_read}
use Rattle.records.proofs.tr_at.Goals as goal

pub returns : goal.returns
unfolding key_read tr_read
returns c =
    simp (c.u16_at-right.ensures, c.u16_at-left.ensures, c.key_at-state.ensures)
