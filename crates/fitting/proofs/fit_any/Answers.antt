-- The choices left to try come to all of them: one that not all end states met have cannot fit. Assumes nothing.
use mathlib.Core.Path.{◌≡◌, refl, sym, ◌∙◌}
use mathlib.Core.Bool.{Bool, false}
use Prim.Native.Nat.{ℕ, ◌+◌, ◌≤◌, ◌<◌}
use native.Mathlib.Omega.{arith}
use Rattle.automata.specs.Choice.{has}
use Rattle.meeting.specs.All.{all_met}
use Rattle.fitting.specs.Fit.{leaves_on}
use Rattle.fitting.proofs.Leaves.{no_choice, level_open}
use Rattle.fitting.proofs.Tries.{try_here, try_on, try_next, try_end}
use Rattle.fitting.proofs.fit_any.Goals as goal

pub shared_choices-shared-requires : goal.shared_choices-shared-requires
shared_choices-shared-requires c =
    level_open c.requires.0

pub loop-d-init : goal.loop-d-init
loop-d-init c =
    (omega arith, refl)

pub all_fit-requires : goal.all_fit-requires
all_fit-requires c =
    (c.requires.0, c.requires.1, c.in-Some.ensures.below)

pub returns-then-all_fit : goal.returns-then-all_fit
returns-then-all_fit c =
    let f : ℕ → Bool = (λ (d : ℕ). all_met (leaves_on c.args.sides.now c.args.c d) c.args.sides.now.wide c.args.met.now c.args.level) in
    sym (try_here f 32 c.in-Some.d c.in-Some.ensures.below (sym c.all_fit.ensures ∙ c.if-all_fit.true))
    ∙ try_next f (λ b small none. no_choice c.args.sides.now.image.rows.now c.args.sides.now.image.masks.now c.args.sides.now.image.coefs.now c.args.sides.now.image.first.now c.args.sides.now.end.rows.now c.args.sides.now.end.masks.now c.args.sides.now.end.coefs.now c.args.sides.now.end.first.now c.args.c b c.args.sides.now.wide c.args.met.now c.args.level (sym (c.shared_choices-shared.ensures b small) ∙ none)) c.in-Some.ensures
    ∙ c.loop-d.invariant.1

pub loop-d-smaller : goal.loop-d-smaller
loop-d-smaller c =
    let after : c.loop-d.from ≤ c.in-Some.d = c.in-Some.ensures.after in
    let below : c.in-Some.d < 32 = c.in-Some.ensures.below in
    omega arith

pub loop-d-preserved : goal.loop-d-preserved
loop-d-preserved c =
    let below : c.in-Some.d < 32 = c.in-Some.ensures.below in
    let f : ℕ → Bool = (λ (d : ℕ). all_met (leaves_on c.args.sides.now c.args.c d) c.args.sides.now.wide c.args.met.now c.args.level) in (
      omega arith,
      try_on f 32 c.in-Some.d below (sym c.all_fit.ensures ∙ c.if-all_fit.false)
          ∙ try_next f (λ b small none. no_choice c.args.sides.now.image.rows.now c.args.sides.now.image.masks.now c.args.sides.now.image.coefs.now c.args.sides.now.image.first.now c.args.sides.now.end.rows.now c.args.sides.now.end.masks.now c.args.sides.now.end.coefs.now c.args.sides.now.end.first.now c.args.c b c.args.sides.now.wide c.args.met.now c.args.level (sym (c.shared_choices-shared.ensures b small) ∙ none)) c.in-Some.ensures
          ∙ c.loop-d.invariant.1,
    )

pub returns : goal.returns
returns c =
    let f : ℕ → Bool = (λ (d : ℕ). all_met (leaves_on c.args.sides.now c.args.c d) c.args.sides.now.wide c.args.met.now c.args.level) in
    try_end f (λ b small none. no_choice c.args.sides.now.image.rows.now c.args.sides.now.image.masks.now c.args.sides.now.image.coefs.now c.args.sides.now.image.first.now c.args.sides.now.end.rows.now c.args.sides.now.end.masks.now c.args.sides.now.end.coefs.now c.args.sides.now.end.first.now c.args.c b c.args.sides.now.wide c.args.met.now c.args.level (sym (c.shared_choices-shared.ensures b small) ∙ none))
    c.loop-d.invariant.0 c.in_default.ensures
    ∙ c.loop-d.invariant.1
