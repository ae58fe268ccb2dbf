-- Four bytes, of which the last two are a number of their own. Assumes nothing.
use mathlib.Core.Path.{◌≡◌, ap}
use Prim.Native.Nat.{ℕ, ◌+◌}
use native.Mathlib.Omega.{arith}
use lib.ListN.{get_or}
use Rattle.stored.specs.Fields.{u16_at, u32_at}
use Rattle.fields.proofs.u32_at.Goals as goal

pub returns : goal.returns
unfolding u32_at u16_at
returns c =
    omega (arith, ap (λ (i : ℕ). get_or c.args.s.now i 0) (let e : c.args.at + 2 + 1 ≡ c.args.at + 3 = omega arith in e))
