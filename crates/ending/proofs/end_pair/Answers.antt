-- The loop's invariant: the choices left give the records left to add; and both states have rows where a choice is left. Assumes nothing.
use mathlib.Core.Path.{◌≡◌}
use mathlib.Core.Logic.{inl, inr}
use Prim.Native.Nat.{◌+◌, ◌-◌}
use native.Mathlib.Omega.{arith}
use Rattle.pairing.proofs.Rows.{shared-rows}
use Rattle.ending.proofs.Steps.{way_begin, way_lent}
use Rattle.ending.proofs.Pairs.{pair-begin, pair_on, pair-over, pair_end_lem}
use Rattle.ending.proofs.end_pair.Goals as goal

pub loop-step-init : goal.loop-step-init
loop-step-init c = (
  shared-rows _ c.args.qfrom c.args.qto c.args.pfrom c.args.pto c.union_of.ensures c.union_of-2.ensures,
  rw (c.union_of.ensures, c.union_of-2.ensures, pair-begin c.args.old.now.rows.now c.args.old.now.masks.now c.args.old.now.coefs.now c.args.qfrom c.args.qto c.args.pfrom c.args.pto c.args.side c.args.state c.requires.distinct.0 c.requires.distinct.1) (way_begin c.requires.lent),
)

pub joined_leaves-x-requires : goal.joined_leaves-x-requires
joined_leaves-x-requires c =
    let met = c.pick_both-m.ensures in
    (c.requires.source.0.each c.pick_both-m.result.i met.one.after met.one.before, c.requires.source.1.each c.pick_both-m.result.j met.other.after met.other.before)

pub put-requires : goal.put-requires
put-requires c = way_lent c.loop-step.invariant.1

pub returns-in_err-put : goal.returns-in_err-put
returns-in_err-put c =
    rw c.from_residual.ensures
    (pair-over c.args.old.now.rows.now c.args.old.now.masks.now c.args.old.now.coefs.now c.args.qfrom c.args.qto c.args.pfrom c.args.pto c.args.side c.args.state c.requires.source.0 c.requires.source.1 (32 - c.loop-step._step) c.loop-step.left c.loop-step.invariant.1 c.if-left-eq0.false (omega arith) c.pick_both-m.ensures c.joined_leaves-x.ensures (rw c.grown-up.ensures at c.in_err-put.ensures))

pub loop-step-preserved : goal.loop-step-preserved
loop-step-preserved c =
    let fewer : 32 - c.loop-step._step - 1 ≡ 32 - (c.loop-step._step + 1) = omega arith in (
      λ some. c.loop-step.invariant.0 c.if-left-eq0.false,
      rw fewer at (pair_on c.args.old.now.rows.now c.args.old.now.masks.now c.args.old.now.coefs.now c.args.qfrom c.args.qto c.args.pfrom c.args.pto c.args.side c.args.state c.requires.source.0 c.requires.source.1 (32 - c.loop-step._step) c.loop-step.left c.loop-step.invariant.1 c.if-left-eq0.false (omega arith) c.pick_both-m.ensures c.joined_leaves-x.ensures (rw c.grown-up.ensures at c.in_ok-put.ensures)),
    )

pub returns-after-loop-step : goal.returns-after-loop-step
returns-after-loop-step c = pair_end_lem c.args.old.now.rows.now c.args.old.now.masks.now c.args.old.now.coefs.now c.args.qfrom c.args.qto c.args.pfrom c.args.pto c.args.side c.args.state c.requires.source.0 c.requires.source.1 (32 - c.loop-step._step) c.loop-step.left c.loop-step.invariant.1 (inr (omega arith))

pub returns-then-left-eq0 : goal.returns-then-left-eq0
returns-then-left-eq0 c = pair_end_lem c.args.old.now.rows.now c.args.old.now.masks.now c.args.old.now.coefs.now c.args.qfrom c.args.qto c.args.pfrom c.args.pto c.args.side c.args.state c.requires.source.0 c.requires.source.1 (32 - c.loop-step._step) c.loop-step.left c.loop-step.invariant.1 (inl c.if-left-eq0.true)
