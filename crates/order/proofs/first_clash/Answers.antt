-- What is left of the pass, from here, comes to the whole pass, which finds the first clash. Assumes nothing.
use mathlib.Core.Path.{◌≡◌, sym, ◌∙◌, subst}
use Prim.Native.Nat.{ℕ, ◌+◌}
use native.Mathlib.Omega.{arith}
use Rattle.order.proofs.PassLaws.{start, unfit_from, fits_turn, clash_here, no_clash}
use Rattle.order.proofs.first_clash.Goals as goal

pub returns-then-not-fits-clause-first : goal.returns-then-not-fits-clause-first
returns-then-not-fits-clause-first c =
    let r = c.args.records in
    clash_here c.args.s.now r.at r.size r.count c.loop-i.i c.loop-i.run c.key_at-key.result c.loop-i-test.true c.key_at-key.ensures (sym c.fits.ensures ∙ c.if-not-fits.true) c.loop-i.invariant

pub loop-i-preserved : goal.loop-i-preserved
loop-i-preserved c =
    let r = c.args.records in
    fits_turn c.args.s.now r.at r.size r.count c.loop-i.i c.loop-i.run c.key_at-key.result c.after-run.result c.loop-i-test.true c.key_at-key.ensures (sym c.fits.ensures ∙ c.if-not-fits.false) c.after-run.ensures c.loop-i.invariant

pub returns-clause-first : goal.returns-clause-first
returns-clause-first c =
    let r = c.args.records in
    let end : c.loop-i.i ≡ r.count = omega arith in
    no_clash c.args.s.now r.at r.size r.count c.loop-i.run
    (subst (λ (i : ℕ). i + unfit_from c.args.s.now r.at r.size r.count i c.loop-i.run ≡ unfit_from c.args.s.now r.at r.size r.count 0 start) end c.loop-i.invariant)
