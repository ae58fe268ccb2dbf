-- The mask has the choices that the end states of all image states so far have. Assumes nothing.
use mathlib.Core.Path.{ap, ◌∙◌}
use mathlib.Core.Bool.{Bool, ◌&&◌}
use mathlib.Core.List.{List}
use Prim.Native.Nat.{ℕ, ◌-◌}
use native.Mathlib.Omega.{arith}
use Rattle.automata.specs.Choice.{has}
use Rattle.meeting.specs.All.{met_by, met_in, all_met}
use Rattle.sharing.specs.Shared.{has_choice, has_choice_on}
use Rattle.sharing.proofs.Shares.{share_none, share_more, share_all, full}
use Rattle.sharing.proofs.shared_choices.Goals as goal

-- all end states that image state s meets have choice d
abbrev F : List ℕ → List ℕ → List ℕ → ℕ → ℕ → ℕ → ℕ → ℕ → Bool
F endmasks endfirst met wide start stop d s = met_by (has_choice endmasks endfirst d) wide met s start (stop - start)

pub loop-s-init : goal.loop-s-init
unfolding met_in
loop-s-init c =
    (omega arith, λ d. share_none (F c.args.sides.now.end.masks.now c.args.sides.now.end.first.now c.args.met.now c.args.sides.now.wide c.args.level.start c.args.level.stop d) (has 4294967295 d) c.args.level.from)

pub shared_state-left-requires : goal.shared_state-left-requires
shared_state-left-requires c =
    record { each = λ e lo hi. c.requires.each c.loop-s.s e c.loop-s.auto.s c.loop-s-test.true lo hi }

pub loop-s-preserved : goal.loop-s-preserved
unfolding met_in
loop-s-preserved c =
    (omega (arith, c.loop-s-test.true), λ d. share_more (F c.args.sides.now.end.masks.now c.args.sides.now.end.first.now c.args.met.now c.args.sides.now.wide c.args.level.start c.args.level.stop d) (has 4294967295 d) c.args.level.from c.loop-s.s c.loop-s.auto.s (c.loop-s.invariant.1 d) (c.shared_state-left.ensures d))

pub returns : goal.returns
unfolding met_in
returns c =
    λ d lt.
    share_all (F c.args.sides.now.end.masks.now c.args.sides.now.end.first.now c.args.met.now c.args.sides.now.wide c.args.level.start c.args.level.stop d) (has 4294967295 d) c.args.level.from c.args.level.to c.loop-s.s c.loop-s-test.false c.loop-s.invariant.0 (c.loop-s.invariant.1 d)
    ∙ ap (λ (b : Bool). b && all_met (has_choice_on c.args.sides.now d) c.args.sides.now.wide c.args.met.now c.args.level) (full d lt)
