-- `moving::grow_row` meets its contract: the record that `grow` adds has the row's mask and the keys of the row's two children. Assumes nothing.
use Rattle.moving.proofs.grow_row.Goals as goal

pub returns : goal.returns
returns c =
    record {
      grew = rw c.single_kids-kids.ensures at c.grow.ensures.grew;
      kept = c.grow.ensures.kept;
    }
