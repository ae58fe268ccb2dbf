-- The end states so far were walked over. Assumes nothing.
use mathlib.Core.Path.{◌≡◌, refl, sym, ◌∙◌}
use mathlib.Core.Bool.{Bool}
use Prim.Native.Nat.{ℕ, ◌+◌, ◌≤◌, ◌<◌}
use native.Mathlib.Omega.{arith}
use borrow.Author.Rules.{rules}
use Rattle.meeting.specs.Met.{is_met, FirstMet}
use Rattle.meeting.specs.All.{if_met, met_by}
use Rattle.meeting.proofs.NextLaws.{first-as, none_as, if_met_lem, met_up_to, met_end}
use Rattle.stepping.specs.Step.{kids_on}
use Rattle.stepping.proofs.Walks.{walk_none, walk_as, walk_more, walk_stops, own-place, ready-again}
use Rattle.stepping.proofs.step_state.Goals as goal

pub loop-e-init : goal.loop-e-init
unfolding met_by
loop-e-init c =
    let f : (ℕ → ℕ → Bool) → ℕ → ℕ → Bool = kids_on c.args.sides.now c.args.c c.args.d in
    (omega arith, omega arith, refl, λ next ready. walk_none (λ g. if_met (f g) c.args.sides.now.wide c.args.met.now c.args.s) c.args.sides.now.wide c.args.met.now next c.args.start)

pub next_met-requires : goal.next_met-requires
next_met-requires c =
    λ e lo hi. own-place (ready-again c.loop-e.invariant.2 (c.requires.0.1.each e (omega arith) hi))

pub step_kids-requires : goal.step_kids-requires
step_kids-requires c =
    let from : c.loop-e.from ≤ c.in-Some.e = c.in-Some.ensures.after in
    ((c.requires.0.0, ready-again c.loop-e.invariant.2 (c.requires.0.1.each c.in-Some.e (omega arith) c.in-Some.ensures.before)), c.requires.1, c.requires.2)

pub returns-then-not-step_kids : goal.returns-then-not-step_kids
unfolding met_by
returns-then-not-step_kids c =
    let from : c.loop-e.from ≤ c.in-Some.e = c.in-Some.ensures.after in
    let lo : c.args.start ≤ c.in-Some.e = omega arith in
    let f : (ℕ → ℕ → Bool) → ℕ → ℕ → Bool = kids_on c.args.sides.now c.args.c c.args.d in
    λ next ready.
    let w = c.loop-e.invariant.3 next ready in
    let n = first-as (λ e after hi.
    let r = ready.each e (omega arith) hi in
    w.kept.each c.args.s e r.before r.small) c.in-Some.ensures in
    let r = ready.each c.in-Some.e lo c.in-Some.ensures.before in
    walk_stops (λ g. if_met (f g) c.args.sides.now.wide c.args.met.now c.args.s) c.args.sides.now.wide c.args.met.now next c.args.start c.in-Some.e lo
    (walk_as (λ g. if_met (f g) c.args.sides.now.wide c.args.met.now c.args.s) c.args.sides.now.wide c.args.met.now next c.args.start c.loop-e.from c.in-Some.e (λ g. met_up_to (f g) c.args.sides.now.wide c.args.met.now c.args.s c.args.start c.args.stop c.loop-e.invariant.0 n) w)
    (λ g. f g c.args.s c.in-Some.e)
    (λ g. sym (if_met_lem (f g) c.args.sides.now.wide c.args.met.now c.args.s c.in-Some.e n.here)) (c.step_kids.ensures next (ready-again c.loop-e.invariant.2 r)) c.args.stop c.in-Some.ensures.before
    c.if-not-step_kids.true

pub loop-e-smaller : goal.loop-e-smaller
loop-e-smaller c =
    let from : c.loop-e.from ≤ c.in-Some.e = c.in-Some.ensures.after in
    let to : c.in-Some.e < c.args.stop = c.in-Some.ensures.before in
    omega arith

pub loop-e-preserved : goal.loop-e-preserved
unfolding met_by
loop-e-preserved c =
    let from : c.loop-e.from ≤ c.in-Some.e = c.in-Some.ensures.after in
    let to : c.in-Some.e < c.args.stop = c.in-Some.ensures.before in
    let lo : c.args.start ≤ c.in-Some.e = omega arith in
    let f : (ℕ → ℕ → Bool) → ℕ → ℕ → Bool = kids_on c.args.sides.now c.args.c c.args.d in (
      omega arith,
      omega arith,
      search rules,
      λ next ready.
          let w = c.loop-e.invariant.3 next ready in
          let n = first-as (λ e after hi.
          let r = ready.each e (omega arith) hi in
          w.kept.each c.args.s e r.before r.small) c.in-Some.ensures in
          let r = ready.each c.in-Some.e lo c.in-Some.ensures.before in
          walk_more (λ g. if_met (f g) c.args.sides.now.wide c.args.met.now c.args.s) c.args.sides.now.wide c.args.met.now next c.args.start c.in-Some.e lo
          (walk_as (λ g. if_met (f g) c.args.sides.now.wide c.args.met.now c.args.s) c.args.sides.now.wide c.args.met.now next c.args.start c.loop-e.from c.in-Some.e (λ g. met_up_to (f g) c.args.sides.now.wide c.args.met.now c.args.s c.args.start c.args.stop c.loop-e.invariant.0 n) w)
          (λ g. f g c.args.s c.in-Some.e)
          (λ g. sym (if_met_lem (f g) c.args.sides.now.wide c.args.met.now c.args.s c.in-Some.e n.here)) (c.step_kids.ensures next (ready-again c.loop-e.invariant.2 r)) c.if-not-step_kids.false,
    )

pub returns : goal.returns
unfolding met_by
returns c =
    let f : (ℕ → ℕ → Bool) → ℕ → ℕ → Bool = kids_on c.args.sides.now c.args.c c.args.d in
    λ next ready.
    let w = c.loop-e.invariant.3 next ready in
    let n = none_as (λ e after hi.
    let r = ready.each e (omega arith) hi in
    w.kept.each c.args.s e r.before r.small) c.in_default.ensures in
    walk_as (λ g. if_met (f g) c.args.sides.now.wide c.args.met.now c.args.s) c.args.sides.now.wide c.args.met.now next c.args.start c.loop-e.from c.args.stop
    (λ g. met_end (f g) c.args.sides.now.wide c.args.met.now c.args.s c.args.start c.args.stop c.loop-e.invariant.0 c.loop-e.invariant.1 n) w
