-- The part of the stack that is lent is the plane. Assumes nothing.
use Rattle.relating.proofs.Cells.{plane_lent, plane_long}
use Rattle.relating.proofs.Relations.{last_found}
use Rattle.relating.proofs.plane_leads.Goals as goal

pub fit_any-requires : goal.fit_any-requires
fit_any-requires c =
    let lent = plane_lent c.args.plane c.args.stack.now c.args.j c.cell-start.ensures c.cell-stop.ensures in
    (rw (lent, plane_long c.args.plane c.args.stack.now c.args.j c.requires.2) c.requires.0, c.requires.1)

pub returns : goal.returns
returns c =
    last_found c.args.sides.now.image.rows.now c.args.sides.now.image.masks.now c.args.sides.now.image.coefs.now c.args.sides.now.image.first.now c.args.sides.now.end.rows.now c.args.sides.now.end.masks.now c.args.sides.now.end.coefs.now c.args.sides.now.end.first.now c.args.c c.args.sides.now.wide c.args.level
    (plane_lent c.args.plane c.args.stack.now c.args.j c.cell-start.ensures c.cell-stop.ensures) c.fit_any.ensures
