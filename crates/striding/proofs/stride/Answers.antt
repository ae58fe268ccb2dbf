-- The buffers are shared out by the numbers of states. Assumes nothing.
use mathlib.Core.Path.{◌∙◌}
use native.Mathlib.Omega.{arith}
use Rattle.striding.proofs.Rooms.{plane_small, shared_out, states_are, ends_are}
use Rattle.striding.proofs.stride.Goals as goal

pub states-requires : goal.states-requires
states-requires c =
    rw c.from-last.ensures (omega (arith, ends_are c.requires, c.requires.narrow))

pub states-requires-2 : goal.states-requires-2
states-requires-2 c =
    rw c.from-last.ensures (omega (arith, states_are c.requires, c.requires.small))

pub overflow_mul-plane : goal.overflow_mul-plane
overflow_mul-plane c =
    omega (arith, plane_small (rw c.from-last.ensures at c.states-2.ensures ∙ states_are c.requires) (rw c.from-last.ensures at c.states.ensures ∙ ends_are c.requires) c.div_ceil-wide.ensures c.requires.narrow c.requires.small)

pub lodge-requires : goal.lodge-requires
lodge-requires c =
    (c.requires, shared_out (rw c.from-last.ensures at c.states-2.ensures ∙ states_are c.requires) (rw c.from-last.ensures at c.states.ensures ∙ ends_are c.requires) c.div_ceil-wide.ensures c.requires.narrow c.requires.small c.share-room.ensures.2 c.share-room.ensures.1 c.share-slots.ensures.0 c.share-slots.ensures.1)
