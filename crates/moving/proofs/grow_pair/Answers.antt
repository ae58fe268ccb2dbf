-- `moving::grow_pair` meets its contract: the meetings left, from the level held, give what all meetings give from the level at the start. A choice
-- is left only where both states have rows. Assumes nothing.
use mathlib.Core.Path.{◌≡◌, ap}
use mathlib.Core.Logic.{inl, inr}
use mathlib.Core.List.{List}
use Prim.Native.Nat.{◌+◌, ◌-◌}
use native.Mathlib.Omega.{arith}
use lib.Bits.{bit_xor}
use Rattle.automata.specs.Choice.{Alt, alt}
use Rattle.gates.specs.Roles.{Two, pair_kids}
use Rattle.lookup.specs.Lookup.{pair_row}
use Rattle.roles.specs.Kept.{role_is, side_is}
use Rattle.growing.specs.Growing.{level_in}
use Rattle.growing.proofs.Growth.{over_state}
use Rattle.growing.proofs.Going.{going_on, gone_over, going_last, kept-all, kept_on}
use Rattle.pairing.proofs.Rows.{shared-rows}
use Rattle.moving.specs.Moves.{grow_alt, grow_alts}
use Rattle.moving.proofs.Meetings.{meetings, meetings_first, meetings_turn, meetings_end}
use Rattle.moving.proofs.grow_pair.Goals as goal

pub loop-step-init : goal.loop-step-init
loop-step-init c = (
  record {
    held = ap (λ (ws : List (Alt Two)). grow_alts c.args.level.now.most c.args.state ws (level_in c.args.level.now))
        (meetings_first _ _ _ c.args.qfrom c.args.qto c.args.pfrom c.args.pto c.union_of.ensures c.union_of-2.ensures c.requires.state.0 c.requires.state.1);
    growing = c.requires.growing;
  },
  kept-all,
  shared-rows _ c.args.qfrom c.args.qto c.args.pfrom c.args.pto c.union_of.ensures c.union_of-2.ensures,
)

pub pick_both-m-requires : goal.pick_both-m-requires
pick_both-m-requires c =
    let rows = c.loop-step.invariant.2 c.if-left-eq0.false in
    (c.if-left-eq0.false, rows.0, rows.1, c.requires.state.0.masks_there, c.requires.state.1.masks_there)

pub returns-in_err-grow_two-clause-grew : goal.returns-in_err-grow_two-clause-grew
returns-in_err-grow_two-clause-grew c =
    let f = pair_kids (role_is c.args.role) (side_is c.args.side) in
    let m = c.pick_both-m.result in
    rw c.from_residual.ensures
    (gone_over c.loop-step.invariant.0 c.args.level.now.most (grow_alt c.args.level.now.most c.args.state (alt m.mask (f (pair_row c.args.old.now.rows.now m.i) (pair_row c.args.old.now.rows.now m.j))))
    (grow_alts c.args.level.now.most c.args.state (meetings f c.args.old.now.rows.now c.args.old.now.masks.now c.args.qfrom c.args.qto c.args.pfrom c.args.pto (32 - c.loop-step._step - 1) (bit_xor c.loop-step.left m.mask)))
    (meetings_turn f c.args.old.now.rows.now c.args.old.now.masks.now c.args.qfrom c.args.qto c.args.pfrom c.args.pto c.args.level.now.most c.args.state (32 - c.loop-step._step) c.loop-step.left m c.if-left-eq0.false (λ z. omega arith) c.pick_both-m.ensures) (over_state c.args.level.now.most c.args.state _) (rw c.loop-step.invariant.1.same_most at c.in_err-grow_two.ensures.grew))

pub loop-step-preserved : goal.loop-step-preserved
loop-step-preserved c =
    let f = pair_kids (role_is c.args.role) (side_is c.args.side) in
    let m = c.pick_both-m.result in
    let fewer : 32 - c.loop-step._step - 1 ≡ 32 - (c.loop-step._step + 1) = omega arith in (
      rw fewer at (going_on c.loop-step.invariant.0 c.args.level.now.most (grow_alt c.args.level.now.most c.args.state (alt m.mask (f (pair_row c.args.old.now.rows.now m.i) (pair_row c.args.old.now.rows.now m.j))))
          (grow_alts c.args.level.now.most c.args.state (meetings f c.args.old.now.rows.now c.args.old.now.masks.now c.args.qfrom c.args.qto c.args.pfrom c.args.pto (32 - c.loop-step._step - 1) (bit_xor c.loop-step.left m.mask)))
          (meetings_turn f c.args.old.now.rows.now c.args.old.now.masks.now c.args.qfrom c.args.qto c.args.pfrom c.args.pto c.args.level.now.most c.args.state (32 - c.loop-step._step) c.loop-step.left m c.if-left-eq0.false (λ z. omega arith) c.pick_both-m.ensures) (rw c.loop-step.invariant.1.same_most at c.in_ok-grow_two.ensures.grew)),
      kept_on c.loop-step.invariant.1 c.grow_two.ensures.kept,
      λ some. c.loop-step.invariant.2 c.if-left-eq0.false,
    )

pub returns-after-loop-step-clause-grew : goal.returns-after-loop-step-clause-grew
returns-after-loop-step-clause-grew c =
    going_last c.loop-step.invariant.0 c.args.level.now.most (meetings_end (pair_kids (role_is c.args.role) (side_is c.args.side)) c.args.old.now.rows.now c.args.old.now.masks.now c.args.qfrom c.args.qto c.args.pfrom c.args.pto c.args.level.now.most c.args.state (32 - c.loop-step._step) c.loop-step.left (inr (omega arith)))

pub returns-then-left-eq0-clause-grew : goal.returns-then-left-eq0-clause-grew
returns-then-left-eq0-clause-grew c =
    going_last c.loop-step.invariant.0 c.args.level.now.most (meetings_end (pair_kids (role_is c.args.role) (side_is c.args.side)) c.args.old.now.rows.now c.args.old.now.masks.now c.args.qfrom c.args.qto c.args.pfrom c.args.pto c.args.level.now.most c.args.state (32 - c.loop-step._step) c.loop-step.left (inl c.if-left-eq0.true))
