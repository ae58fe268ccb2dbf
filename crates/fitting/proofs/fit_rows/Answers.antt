-- Both leaves are read and compared across k. Assumes nothing.
use mathlib.Core.Path.{ap₂, ◌∙◌}
use Rattle.amplitude.specs.Leaf.{same}
use Rattle.fitting.proofs.Leaves.{leaf-is}
use Rattle.fitting.proofs.fit_rows.Goals as goal

pub returns : goal.returns
returns c =
    c.same.ensures
    ∙ ap₂ same (leaf-is c.args.sides.now.image.rows.now c.args.sides.now.image.coefs.now c.args.i c.scale_at-k.ensures c.leaf_at-x.ensures.0)
    (leaf-is c.args.sides.now.end.rows.now c.args.sides.now.end.coefs.now c.args.j c.scale_at-m.ensures c.leaf_at-y.ensures.0)
