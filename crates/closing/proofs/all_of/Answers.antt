-- `closing::all_of` meets its contract: the product so far, then the numbers left, comes to all of them. Assumes nothing.
use native.Mathlib.Omega.{arith}
use Rattle.closing.proofs.Loops.{play_begin, play_number, play_on, play_end}
use Rattle.closing.proofs.all_of.Goals as goal

pub product-all-requires : goal.product-all-requires
product-all-requires c =
    (c.loop-e.invariant.below, play_number c.loop-e.invariant c.loop-e-test.true)

pub loop-e-preserved : goal.loop-e-preserved
loop-e-preserved c =
    play_on c.loop-e.invariant c.loop-e-test.true c.product-all.ensures

pub loop-e-init : goal.loop-e-init
loop-e-init c = play_begin c.args.seq.now c.requires

pub returns : goal.returns
returns c = play_end c.loop-e.invariant (omega arith)
