-- The next level begins where this one ends. Assumes nothing.
use native.Mathlib.Omega.{arith}
use Rattle.matching.proofs.LevelLaws.{next-sum, next_start, next-stop}
use Rattle.matching.proofs.next_level.Goals as goal

pub overflow_add-result : goal.overflow_add-result
overflow_add-result c =
    omega (arith, next-sum c.args.sides.now.image.counts.now c.args.at c.args.level.to c.requires.0.to, c.requires.1.small)

pub overflow_add-result-2 : goal.overflow_add-result-2
overflow_add-result-2 c =
    omega (arith, next-sum c.args.sides.now.end.counts.now c.args.at c.args.level.stop c.requires.0.stop, c.requires.1.end_small)

pub returns : goal.returns
returns c =
    record {
      from = next_start c.args.sides.now.image.counts.now c.args.at c.args.level.to c.requires.0.to;
      to = next-stop c.args.sides.now.image.counts.now c.args.at c.args.level.to c.requires.0.to;
      start = next_start c.args.sides.now.end.counts.now c.args.at c.args.level.stop c.requires.0.stop;
      stop = next-stop c.args.sides.now.end.counts.now c.args.at c.args.level.stop c.requires.0.stop;
    }
