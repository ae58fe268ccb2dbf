-- `packing::put_hd` meets its contract: the first six bytes, then three counts, each in the tail that the one before it left. Assumes nothing.
use mathlib.Core.Path.{refl}
use mathlib.Core.List.{[], List, ◌∷◌, ◌++◌}
use Prim.Native.Nat.{ℕ}
use native.Mathlib.Omega.{arith}
use Rattle.stored.specs.Fields.{bytes16}
use Rattle.putting.proofs.Front.{lent_on}
use Rattle.packing.proofs.put_hd.Goals as goal

pub returns : goal.returns
returns c =
    let six : List ℕ = 72 ∷ 68 ∷ 1 ∷ c.args.form.n ∷ c.args.form.k ∷ 0 ∷ [] in
    let eight = six ++ bytes16 c.args.form.states in
    let ten = eight ++ bytes16 c.args.form.inner in
    let states = lent_on c.args.out.now six (bytes16 c.args.form.states) refl (omega arith) c.put_version.ensures c.put_u16.ensures in
    let inner = lent_on c.args.out.now eight (bytes16 c.args.form.inner) refl (omega arith) states c.put_u16-2.ensures in
    lent_on c.args.out.now ten (bytes16 c.args.form.leaves) refl (omega arith) inner c.put_u16-3.ensures
