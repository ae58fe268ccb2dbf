-- The states so far have their transitions. Assumes nothing.
use mathlib.Core.Path.{sym, ◌∙◌}
use Prim.Native.Nat.{ℕ, ◌-◌}
use native.Mathlib.Omega.{arith}
use Rattle.lookup.specs.Lookup.{transition_row, is_some}
use Rattle.meeting.proofs.AllLaws.{all_none, all_on, all-stops, all_done}
use Rattle.reaching.specs.Reached.{if_reached, all_reached}
use Rattle.reaching.proofs.ends_all.Goals as goal

pub loop-s-init : goal.loop-s-init
loop-s-init c =
    (all_none (if_reached (λ (q : ℕ). is_some (transition_row c.args.table.now.masks.now c.args.table.now.first.now q c.args.c)) c.args.reached.now) c.args.from (c.args.from - c.args.from) (omega arith))

pub ends-requires : goal.ends-requires
ends-requires c =
    (c.requires.0 c.loop-s.s c.loop-s.auto.s c.loop-s-test.true, omega (arith, c.loop-s-test.true, c.requires.1), c.requires.2)

pub returns-then-not-ends : goal.returns-then-not-ends
unfolding all_reached
returns-then-not-ends c =
    all-stops (if_reached (λ (q : ℕ). is_some (transition_row c.args.table.now.masks.now c.args.table.now.first.now q c.args.c)) c.args.reached.now) c.args.from c.loop-s.s c.args.to c.loop-s.auto.s c.loop-s-test.true (sym c.ends.ensures ∙ c.if-not-ends.true)

pub loop-s-preserved : goal.loop-s-preserved
loop-s-preserved c =
    (all_on (if_reached (λ (q : ℕ). is_some (transition_row c.args.table.now.masks.now c.args.table.now.first.now q c.args.c)) c.args.reached.now) c.args.from c.loop-s.s c.loop-s.auto.s c.loop-s.invariant (sym c.ends.ensures ∙ c.if-not-ends.false))

pub returns : goal.returns
unfolding all_reached
returns c =
    all_done (if_reached (λ (q : ℕ). is_some (transition_row c.args.table.now.masks.now c.args.table.now.first.now q c.args.c)) c.args.reached.now) c.args.from c.loop-s.s c.args.to c.loop-s-test.false c.loop-s.auto.s-end c.loop-s.invariant
