-- Only the root is reached on the first level, its relations are to end roots, and the walk goes on from there. Assumes nothing.
use mathlib.Core.Path.{ap, ◌∙◌}
use native.Mathlib.Omega.{arith}
use Rattle.walking.specs.On.{passes_on}
use Rattle.walking.specs.Tallied.{tallied}
use Rattle.walking.proofs.Branches.{root_members}
use Rattle.walking.proofs.Rooms.{roots-celled}
use Rattle.blocks.proofs.Starts.{begin_asked, entered-first}
use Rattle.entering.proofs.visit_root.Goals as goal

pub reach_none-requires : goal.reach_none-requires
reach_none-requires c =
    roots-celled c.requires.started.both

pub reach-requires : goal.reach-requires
reach-requires c =
    omega (arith, roots-celled c.requires.started.both, c.requires.rooted, c.reach_none.auto.reached)

pub begin_from-start-requires : goal.begin_from-start-requires
begin_from-start-requires c =
    (begin_asked c.requires.started c.args.root c.requires.rooted, c.requires.started.sized.planes, c.requires.started.sized.spare, omega arith)

pub visit-r-requires : goal.visit-r-requires
visit-r-requires c =
    entered-first c.requires.started c.args.root c.requires.rooted c.begin_from-start.ensures.few c.begin_from-start.ensures.sound c.begin_from-start.auto.stack (c.reach.auto.reached ∙ c.reach_none.auto.reached) c.begin_from-start.auto.scratch

pub returns-clause-tally : goal.returns-clause-tally
returns-clause-tally c =
    c.visit-r.ensures.tally ∙ ap (tallied (passes_on c.args.task.now) c.args.task.now.allowance c.args.t) (root_members c.args.task.now.sides.image.rows.now c.args.task.now.sides.image.masks.now c.args.task.now.sides.image.coefs.now c.args.task.now.sides.image.first.now c.args.task.now.n c.args.root _ _ _ _ c.requires.rooted c.reach_none.ensures c.reach.ensures)
