-- The sum so far and that of the levels left come to the sum of all. Assumes nothing.
use mathlib.Core.Path.{ap}
use native.Mathlib.Omega.{arith}
use Rattle.automata.specs.Sets.{sum}
use Rattle.levels.proofs.LevelLaws.{whole, sum_on, sum-end}
use Rattle.levels.proofs.level_sum.Goals as goal

pub loop-above-init : goal.loop-above-init
loop-above-init c = (omega arith, omega (arith, ap sum (whole c.args.s.now c.args.n c.requires)))

pub loop-above-preserved : goal.loop-above-preserved
loop-above-preserved c =
    let e = sum_on c.args.s.now c.args.n c.loop-above.above c.count_at.result (omega arith) c.count_at.ensures in
    (omega arith, omega (arith, e))

pub returns : goal.returns
returns c = omega (arith, sum-end c.args.s.now c.args.n c.loop-above.above (omega arith))
