-- The first level's states stand in the counts. Assumes nothing.
use native.Mathlib.Omega.{arith}
use Rattle.matching.proofs.Grounds.{level-there}
use Rattle.foreseeing.proofs.Grounds.{first-level, all-levels}
use Rattle.foreseeing.proofs.foresee.Goals as goal

pub bounds-sides-0 : goal.bounds-sides-0
bounds-sides-0 c =
    level-there c.requires.image 0 (omega arith)

pub bounds-sides-0-2 : goal.bounds-sides-0-2
bounds-sides-0-2 c =
    level-there c.requires.ends 0 (omega arith)

pub foresee_from-requires : goal.foresee_from-requires
foresee_from-requires c =
    first-level c.requires

pub returns : goal.returns
returns c =
    all-levels c.foresee_from.ensures
