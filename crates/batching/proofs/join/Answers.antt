-- The level's words stand within a plane. Assumes nothing.
use native.Mathlib.Nat.{mul-le-mul_right}
use native.Mathlib.Omega.{arith}
use Rattle.batching.proofs.Wholes.{joined_old, joined_new}
use Rattle.batching.proofs.join.Goals as goal

pub overflow_sub-count : goal.overflow_sub-count
overflow_sub-count c =
    omega (arith, c.words.ensures, c.words-from.ensures, mul-le-mul_right c.args.wide c.requires.0.levels)

pub stands-requires : goal.stands-requires
stands-requires c =
    let le = mul-le-mul_right c.args.wide c.requires.0.levels in
    (omega (arith, c.requires.0.high), omega (arith, c.requires.0.long), omega (arith, c.requires.0.fits))

pub returns-then-stands : goal.returns-then-stands
returns-then-stands c =
    joined_old (mul-le-mul_right c.args.wide c.requires.0.levels) (rw (← c.words.ensures, ← c.words-from.ensures) (c.stands.ensures c.if-stands.true))

pub cell-requires : goal.cell-requires
cell-requires c =
    omega (arith, c.words-from.ensures, c.requires.0.long, mul-le-mul_right c.args.wide c.requires.0.levels, c.well_formed.1.0)

pub copy_words-requires : goal.copy_words-requires
copy_words-requires c =
    let le = mul-le-mul_right c.args.wide c.requires.0.levels in
    (omega (arith, c.requires.0.fits), omega (arith, c.cell.ensures, c.requires.0.high, c.requires.0.long))

pub returns : goal.returns
returns c =
    joined_new c.requires.0 (rw (← c.words.ensures, ← c.words-from.ensures, ← c.cell.ensures) c.copy_words.ensures)
