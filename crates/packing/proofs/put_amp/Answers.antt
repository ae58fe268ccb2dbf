-- `packing::put_amp` meets its contract: four numbers, each in the tail that the one before it left. Assumes nothing.
use mathlib.Core.Path.{refl}
use mathlib.Core.List.{List, ◌++◌}
use Prim.Native.Nat.{ℕ, ◌+◌}
use native.Mathlib.Omega.{arith}
use Rattle.packing.specs.Written.{coef_bytes}
use Rattle.putting.proofs.Front.{lent_on}
use Rattle.packing.proofs.put_amp.Goals as goal

pub returns : goal.returns
returns c =
    let coef : ℕ → List ℕ = coef_bytes c.args.coefs.now in
    let ab = coef c.args.at ++ coef (c.args.at + 1) in
    let abc = ab ++ coef (c.args.at + 2) in
    let two = lent_on c.args.out.now (coef c.args.at) (coef (c.args.at + 1)) refl (omega arith) c.put_coef.ensures c.put_coef-2.ensures in
    let three = lent_on c.args.out.now ab (coef (c.args.at + 2)) refl (omega arith) two c.put_coef-3.ensures in
    lent_on c.args.out.now abc (coef (c.args.at + 3)) refl (omega arith) three c.put_coef-4.ensures
