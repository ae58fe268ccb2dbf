-- Both marks are read. Assumes nothing.
use mathlib.Core.Path.{ap₂}
use mathlib.Core.Bool.{◌&&◌}
use Rattle.hinting.proofs.kids_marked.Goals as goal

pub returns : goal.returns
returns c =
    ap₂ ◌&&◌ c.is_met-left.ensures c.is_met-right.ensures
