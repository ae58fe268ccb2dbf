-- The four bytes as an unsigned number, read as signed. Assumes nothing.
use mathlib.Core.Path.{◌≡◌, ap, ◌∙◌}
use Prim.Native.Nat.{ℕ, ◌+◌, ◌*◌}
use native.Mathlib.Omega.{arith}
use lib.ListN.{get_or}
use mir.Facts.{to_z-of_z}
use mir.Syntax.{w32}
use borrow.Author.Rules.{sfits_of}
use Rattle.stored.specs.Fields.{u16_at, u32_at, signed32, i32_at}
use Rattle.fields.proofs.i32_at.Goals as goal

pub returns : goal.returns
unfolding i32_at u32_at u16_at
returns c =
    let s = c.args.s.now in
    let at = c.args.at in
    let three : at + 2 + 1 ≡ at + 3 = omega arith in
    let same : get_or s at 0 + get_or s (at + 1) 0 * 256 + get_or s (at + 2) 0 * 65536 + get_or s (at + 3) 0 * 16777216
    ≡ get_or s at 0 + get_or s (at + 1) 0 * 256 + (get_or s (at + 2) 0 + get_or s (at + 2 + 1) 0 * 256) * 65536 = omega (arith, ap (λ (i : ℕ). get_or s i 0) three) in
    to_z-of_z {w = w32} (sfits_of c.from_le_bytes.type_inv) ∙ c.from_le_bytes.ensures ∙ ap signed32 same
