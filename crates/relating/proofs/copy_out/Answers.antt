-- The level's words stand within a plane. Assumes nothing.
use native.Mathlib.Nat.{mul-le-mul_right}
use native.Mathlib.Omega.{arith}
use Rattle.relating.proofs.Copies.{copied_out}
use Rattle.relating.proofs.copy_out.Goals as goal

pub overflow_sub-count : goal.overflow_sub-count
overflow_sub-count c =
    omega (arith, c.words.ensures, c.words-from.ensures, mul-le-mul_right c.args.wide c.requires.levels)

pub cell-requires : goal.cell-requires
cell-requires c =
    omega (arith, c.words-from.ensures, c.requires.long, mul-le-mul_right c.args.wide c.requires.levels, c.well_formed.1.0)

pub copy_words-requires : goal.copy_words-requires
copy_words-requires c =
    let le = mul-le-mul_right c.args.wide c.requires.levels in
    (omega (arith, c.cell.ensures, c.requires.high, c.requires.long), omega (arith, c.requires.fits))

pub returns : goal.returns
returns c =
    copied_out c.args.plane c.args.wide c.args.k c.args.level (rw (c.cell.ensures, c.words-from.ensures, c.words.ensures) at c.copy_words.ensures)
