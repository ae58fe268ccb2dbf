-- The mask has the choices that all reached states so far have. Assumes nothing.
-- state s has choice d if it is reached
use mathlib.Core.Path.{ap, ◌∙◌}
use mathlib.Core.Bool.{Bool, ◌&&◌}
use Prim.Native.Nat.{◌-◌}
use native.Mathlib.Omega.{arith}
use Rattle.automata.specs.Choice.{has}
use Rattle.meeting.specs.All.{all_in}
use Rattle.sharing.proofs.Shares.{share_none, share_more, share_all, full}
use Rattle.reaching.specs.Reached.{all_reached}
use Rattle.reaching.proofs.reached_choices.Invariants.{F}
use Rattle.reaching.proofs.reached_choices.Goals as goal

pub loop-s-init : goal.loop-s-init
loop-s-init c =
    (omega arith, λ d. share_none (F c.args.table.now.masks.now c.args.table.now.first.now c.args.reached.now d) (has 4294967295 d) c.args.from)

pub reached_state-left-requires : goal.reached_state-left-requires
reached_state-left-requires c =
    (c.requires.0 c.loop-s.s c.loop-s.auto.s c.loop-s-test.true, omega (arith, c.loop-s-test.true, c.requires.1))

pub loop-s-preserved : goal.loop-s-preserved
loop-s-preserved c =
    (omega (arith, c.loop-s-test.true), λ d. share_more (F c.args.table.now.masks.now c.args.table.now.first.now c.args.reached.now d) (has 4294967295 d) c.args.from c.loop-s.s c.loop-s.auto.s (c.loop-s.invariant.1 d) (c.reached_state-left.ensures d))

pub returns : goal.returns
unfolding all_reached
returns c =
    λ d lt.
    share_all (F c.args.table.now.masks.now c.args.table.now.first.now c.args.reached.now d) (has 4294967295 d) c.args.from c.args.to c.loop-s.s c.loop-s-test.false c.loop-s.invariant.0 (c.loop-s.invariant.1 d)
    ∙ ap (λ (b : Bool). b && all_in (F c.args.table.now.masks.now c.args.table.now.first.now c.args.reached.now d) c.args.from (c.args.to - c.args.from)) (full d lt)
