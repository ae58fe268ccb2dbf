-- `lines::input::divide` meets its contract: the numbers that it reads are those that the definition tests. Assumes nothing.
use mathlib.Core.Path.{refl, ◌∙◌}
use Rattle.lines.proofs.Divided.{too_short, judged, first_within, second_within, divided}
use Rattle.lines.proofs.input.divide.Goals as goal
use Rattle.lines.proofs.input.divide.Goals.{then-not-mark_at-via-then-not-mark_at, then-not-mark_at-via-else-not-mark_at+then-not-lengths_fit}

pub returns-then-input-lt-FIXED_SIZE : goal.returns-then-input-lt-FIXED_SIZE
returns-then-input-lt-FIXED_SIZE c =
    too_short c.args.input.now c.if-input-lt-FIXED_SIZE.true

pub returns-then-not-mark_at : goal.returns-then-not-mark_at
returns-then-not-mark_at c =
    elim c.then-not-mark_at.branch [
      | then-not-mark_at-via-then-not-mark_at w ↦
          judged c.args.input.now c.if-input-lt-FIXED_SIZE.false c.u32_at-start.ensures c.u32_at-circuit.ensures c.u32_at-end.ensures c.mark_at.ensures refl ∙ rw w.if-not-mark_at.true
      | then-not-mark_at-via-else-not-mark_at+then-not-lengths_fit w ↦
          judged c.args.input.now c.if-input-lt-FIXED_SIZE.false c.u32_at-start.ensures c.u32_at-circuit.ensures c.u32_at-end.ensures c.mark_at.ensures w.lengths_fit.ensures ∙ rw (w.if-not-mark_at.false, w.if-not-lengths_fit.true)
    ]

pub split_at-requires : goal.split_at-requires
split_at-requires c =
    first_within c.args.input.now c.if-input-lt-FIXED_SIZE.false c.u32_at-start.ensures c.u32_at-circuit.ensures c.u32_at-end.ensures
    c.mark_at.ensures c.lengths_fit.ensures c.if-not-mark_at.false c.if-not-lengths_fit.false

pub split_at-requires-2 : goal.split_at-requires-2
split_at-requires-2 c =
    second_within c.args.input.now c.if-input-lt-FIXED_SIZE.false c.u32_at-start.ensures c.u32_at-circuit.ensures c.u32_at-end.ensures
    c.mark_at.ensures c.lengths_fit.ensures c.if-not-mark_at.false c.if-not-lengths_fit.false c.split_at.ensures.back

pub returns : goal.returns
returns c =
    divided c.args.input.now c.if-input-lt-FIXED_SIZE.false c.u32_at-start.ensures c.u32_at-circuit.ensures c.u32_at-end.ensures
    c.mark_at.ensures c.lengths_fit.ensures c.if-not-mark_at.false c.if-not-lengths_fit.false
    c.u32_at.ensures c.split_at.ensures.back c.split_at.ensures.front c.split_at-2.ensures.front c.split_at-2.ensures.back
