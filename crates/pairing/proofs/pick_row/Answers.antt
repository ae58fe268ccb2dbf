-- `pairing::pick_row` meets its contract: the row that the scan finds is the one picked. Assumes nothing.
use Rattle.pairing.proofs.Rows.{pick-found}
use Rattle.pairing.proofs.pick_row.Goals as goal

pub returns : goal.returns
returns c =
    rw (c.unwrap_or.ensures, c.find_row.ensures) (pick-found c.args.masks.now c.args.choice c.args.from c.args.to c.requires.0)
