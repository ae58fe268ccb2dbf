-- The spare row has the relation of plane k. Assumes nothing.
use native.Mathlib.Omega.{arith}
use Rattle.meeting.proofs.Places.{words-before}
use Rattle.batching.proofs.Grounds.{ground-again, level-long, level-room}
use Rattle.batching.proofs.Grows.{out_marks}
use Rattle.batching.proofs.Batches.{took_from}
use Rattle.batching.proofs.take_from.Goals as goal

pub copy_out-requires : goal.copy_out-requires
copy_out-requires c =
    let w = words-before c.args.step.now.plane c.args.k c.args.step.now.room c.requires.5 in
    level-room c.requires.0 (omega (arith, c.requires.1))

pub take_choices-requires : goal.take_choices-requires
take_choices-requires c =
    (ground-again c.requires.0 c.copy_out.auto.row, c.requires.1, c.requires.2, c.requires.3, c.requires.4)

pub returns : goal.returns
returns c =
    took_from (out_marks c.args.stack.now _ c.args.k c.requires.0.stage.small (level-long c.requires.0) c.copy_out.ensures) c.take_choices.ensures
