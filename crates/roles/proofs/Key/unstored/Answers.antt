-- `roles::Key::unstored` meets its contract: the tag says which of the definition's cases it is. Assumes nothing.
use native.Mathlib.Omega.{arith}
use Rattle.stepwise.specs.Code.{unstored}
use Rattle.roles.proofs.KeyMoves.{no-pair}
use Rattle.roles.proofs.Key.unstored.Goals as goal

pub returns-in-2 : goal.returns-in-2
unfolding unstored
returns-in-2 c = rw c.in-2.is

pub returns-in-3 : goal.returns-in-3
unfolding unstored
returns-in-3 c = rw c.in-3.is

pub returns-in_default : goal.returns-in_default
returns-in_default c = rw c.of.ensures (no-pair c.args.x c.requires (λ z. omega arith) (λ z. omega arith))
