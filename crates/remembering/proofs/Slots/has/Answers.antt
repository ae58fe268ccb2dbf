-- The slot's bytes and marks stand in its part of the rows and of the planes. Assumes nothing.
use borrow.Author.Rules.{rules}
use Rattle.remembering.proofs.CopyLaws.{cells-equal}
use Rattle.remembering.proofs.SlotLaws.{same_slot}
use Rattle.remembering.proofs.Slots.has.Goals as goal

pub returns : goal.returns
returns c =
    λ e. same_slot c.args.block.now.wide c.args.block.now.room c.args.block.now.cells c.args.k (cells-equal c.args.block.now.from c.args.block.now.to _ c.args.block.now.row.now c.args.self.now.rows.now (search rules)) (c.equal_planes.ensures e)
