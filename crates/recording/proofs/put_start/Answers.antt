-- `recording::put_start` meets its contract: the mark, then the state in the tail, then the mask in the tail of that. Assumes nothing.
use mathlib.Core.Path.{refl}
use mathlib.Core.List.{[], ◌∷◌, ◌++◌}
use native.Mathlib.Omega.{arith}
use Rattle.stored.specs.Fields.{bytes16, bytes32}
use Rattle.putting.proofs.Front.{lent_on}
use Rattle.recording.proofs.put_start.Goals as goal

pub returns : goal.returns
returns c =
    let mark = c.args.first ∷ c.args.second ∷ [] in
    let marked = lent_on c.args.out.now mark (bytes16 c.args.state) refl (omega arith) c.put_mark.ensures c.put_u16.ensures in
    lent_on c.args.out.now (mark ++ bytes16 c.args.state) (bytes32 c.args.mask) refl (omega arith) marked c.put_u32.ensures
