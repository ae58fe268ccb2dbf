-- Each leaf's coefficients are stored at its number, and the earlier rows stay. Assumes nothing.
use native.Mathlib.Omega.{arith}
use Rattle.fields.proofs.Kept.{bits_kept}
use Rattle.tables.proofs.Fill.{leaved_more}
use Rattle.tables.proofs.fill_coefs.Goals as goal

pub loop-i-preserved : goal.loop-i-preserved
loop-i-preserved c =
    let l = c.lf_at-leaf.result in
    let e = rw (bits_kept l.a (record { sfits = omega arith }), bits_kept l.b (record { sfits = omega arith }), bits_kept l.c (record { sfits = omega arith }), bits_kept l.d (record { sfits = omega arith })) at c.put_leaf.ensures in
    (omega arith, rw e (leaved_more c.loop-i.coefs (omega (arith, c.requires.1)) c.loop-i.invariant.1 c.lf_at-leaf.ensures))
