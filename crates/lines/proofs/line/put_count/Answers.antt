-- `lines::line::put_count` meets its contract: the word, then the count's field in the tail. Assumes nothing.
use mathlib.Core.List.{[], ◌++◌, List}
use mathlib.Core.Path.{ap}
use Prim.Native.Nat.{ℕ}
use native.Mathlib.Omega.{arith}
use Rattle.lines.proofs.Putting.{put_whole, put_on, put_as}
use Rattle.lines.proofs.Fields.{fields_snoc}
use Rattle.lines.proofs.line.put_count.Goals as goal

pub returns : goal.returns
returns c =
    put_as (put_on (put_whole c.args.name.now c.args.out.now c.put_bytes.ensures) (omega arith) c.put_field.ensures)
    (ap (λ (l : List ℕ). c.args.name.now ++ l) (fields_snoc [] c.args.count))
