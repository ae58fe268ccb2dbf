-- The relation one level down is added where the step goes and its pairs could match; else it leads to no word. Assumes nothing.
use mathlib.Core.Path.{sym, ◌∙◌}
use Prim.Native.Nat.{◌+◌}
use native.Mathlib.Omega.{arith}
use Rattle.matching.proofs.Turns.{kept_less}
use Rattle.batching.proofs.Grounds.{ground-again, step_ground, may_ground, next-room}
use Rattle.batching.proofs.Grows.{grown-none, grown-step}
use Rattle.batching.proofs.Wholes.{whole-failed, whole_unmarked, whole-joined}
use Rattle.batching.proofs.take_choice.Goals as goal

pub step_down-goes-requires : goal.step_down-goes-requires
step_down-goes-requires c =
    (step_ground c.requires.0, c.requires.3, c.requires.4)

pub returns-then-not-goes : goal.returns-then-not-goes
returns-then-not-goes c =
    (grown-none (c.args.q + 1) (omega arith), kept_less c.requires.0.stage.below c.step_down-goes.ensures.kept, whole-failed c.args.d c.step_down-goes.ensures c.if-not-goes.true)

pub all_may-apt-requires : goal.all_may-apt-requires
all_may-apt-requires c =
    may_ground (ground-again c.requires.0 c.step_down-goes.auto.met)

pub returns-then-not-apt : goal.returns-then-not-apt
returns-then-not-apt c = (
  grown-none (c.args.q + 1) (omega arith),
  kept_less c.requires.0.stage.below c.step_down-goes.ensures.kept,
  whole_unmarked c.args.d c.step_down-goes.ensures c.if-not-goes.false (sym c.all_may-apt.ensures ∙ c.if-not-apt.true),
)

pub join-requires : goal.join-requires
join-requires c =
    (next-room (ground-again c.requires.0 c.step_down-goes.auto.met) c.requires.1, c.requires.2)

pub returns : goal.returns
returns c =
    let goes = c.if-not-goes.false in
    (grown-step c.requires.0 c.step_down-goes.ensures goes c.requires.4 c.join.ensures.added, kept_less c.requires.0.stage.below c.step_down-goes.ensures.kept, whole-joined c.args.d c.step_down-goes.ensures c.requires.0.stage.narrow c.requires.0.stage.long goes c.join.ensures)
