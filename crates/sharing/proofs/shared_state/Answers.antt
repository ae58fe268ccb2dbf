-- The mask has the choices that all end states so far have. Assumes nothing.
use mathlib.Core.Path.{◌≡◌, sym, ap, ◌∙◌}
use mathlib.Core.Bool.{Bool, ◌&&◌}
use Prim.Native.Nat.{ℕ, ◌+◌, ◌-◌, ◌≤◌, ◌<◌}
use native.Mathlib.Omega.{arith}
use Rattle.automata.specs.Choice.{has}
use Rattle.automata.proofs.Masks.{has-and}
use Rattle.meeting.specs.All.{if_met, met_by}
use Rattle.meeting.proofs.NextLaws.{met_on, met_end}
use Rattle.sharing.specs.Shared.{has_choice_on}
use Rattle.sharing.proofs.Shares.{share_none, and_assoc}
use Rattle.sharing.proofs.shared_state.Goals as goal

pub loop-e-init : goal.loop-e-init
unfolding met_by
loop-e-init c =
    (omega arith, omega arith, λ d. share_none (if_met (has_choice_on c.args.sides.now d) c.args.sides.now.wide c.args.met.now c.args.s) (has c.args.mask d) c.args.start)

pub next_met-requires : goal.next_met-requires
next_met-requires c =
    λ e lo hi. (c.requires.each e (omega arith) hi).there

pub choices_of-left-requires : goal.choices_of-left-requires
choices_of-left-requires c =
    let from : c.loop-e.from ≤ c.in-Some.e = c.in-Some.ensures.after in
    let o = c.requires.each c.in-Some.e (omega arith) c.in-Some.ensures.before in
    (o.begun, o.long)

pub loop-e-smaller : goal.loop-e-smaller
loop-e-smaller c =
    let from : c.loop-e.from ≤ c.in-Some.e = c.in-Some.ensures.after in
    let to : c.in-Some.e < c.args.stop = c.in-Some.ensures.before in
    omega arith

pub loop-e-preserved : goal.loop-e-preserved
loop-e-preserved c =
    let from : c.loop-e.from ≤ c.in-Some.e = c.in-Some.ensures.after in
    let to : c.in-Some.e < c.args.stop = c.in-Some.ensures.before in (
      omega arith,
      omega arith,
      λ d.
          let g : ℕ → ℕ → Bool = has_choice_on c.args.sides.now d in
          let so_far : Bool = met_by g c.args.sides.now.wide c.args.met.now c.args.s c.args.start (c.loop-e.from - c.args.start) in
          has-and c.loop-e.left c.choices_of-left.result d
          ∙ ap (λ (x : ℕ). has c.loop-e.left d && has x d) c.choices_of-left.ensures
          ∙ ap (λ (b : Bool). b && g c.args.s c.in-Some.e) (c.loop-e.invariant.2 d)
          ∙ and_assoc (has c.args.mask d) so_far (g c.args.s c.in-Some.e)
          ∙ ap (λ (b : Bool). has c.args.mask d && b) (sym (met_on g c.args.sides.now.wide c.args.met.now c.args.s c.args.start c.args.stop c.loop-e.invariant.0 c.in-Some.ensures)),
    )

pub returns : goal.returns
returns c =
    λ d. c.loop-e.invariant.2 d
    ∙ ap (λ (b : Bool). has c.args.mask d && b) (sym (met_end (has_choice_on c.args.sides.now d) c.args.sides.now.wide c.args.met.now c.args.s c.args.start c.args.stop c.loop-e.invariant.0 c.loop-e.invariant.1 c.in_default.ensures))
