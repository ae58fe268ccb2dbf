-- `recording::put_lv` meets its contract: the mark, then the count in the tail. Assumes nothing.
use mathlib.Core.Path.{refl}
use mathlib.Core.List.{[], ◌∷◌}
use native.Mathlib.Omega.{arith}
use Rattle.stored.specs.Fields.{bytes16}
use Rattle.putting.proofs.Front.{lent_on}
use Rattle.recording.proofs.put_lv.Goals as goal

pub returns : goal.returns
returns c =
    lent_on c.args.out.now (76 ∷ 86 ∷ []) (bytes16 c.args.count) refl (omega arith) c.put_mark.ensures c.put_u16.ensures
