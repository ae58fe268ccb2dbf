-- `lines::line::put_field` meets its contract: a space, then the number in the tail. Assumes nothing.
use mathlib.Core.List.{[], ◌∷◌}
use native.Mathlib.Omega.{arith}
use Rattle.lines.proofs.Putting.{put_whole, put_on}
use Rattle.lines.proofs.line.put_field.Goals as goal

pub returns : goal.returns
returns c =
    put_on (put_whole (32 ∷ []) c.args.out.now c.put_bytes.ensures) (omega arith) c.put_decimal.ensures
