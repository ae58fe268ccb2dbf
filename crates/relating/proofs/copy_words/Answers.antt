-- Word after word is copied. Assumes nothing.
use Rattle.relating.proofs.Copies.{begin, next, all}
use Rattle.relating.proofs.copy_words.Goals as goal

pub loop-i-init : goal.loop-i-init
loop-i-init c =
    begin c.args.source.now c.args.at c.args.words.now c.args.there c.args.count

pub loop-i-preserved : goal.loop-i-preserved
loop-i-preserved c =
    next c.loop-i.invariant c.requires.1 c.loop-i-test.true

pub returns : goal.returns
returns c =
    all c.loop-i.invariant c.loop-i-test.false
