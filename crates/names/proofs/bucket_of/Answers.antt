-- `names::bucket_of` meets its contract: its parts are too small for a sum to wrap, and a remainder is below its divisor. Assumes nothing.
use mathlib.Core.Path.{◌≡◌, refl}
use native.Mathlib.Omega.{arith}
use Rattle.names.specs.Chain.{bucket_of}
use Rattle.names.proofs.ChainLaws.{bucket_below}
use Rattle.names.proofs.bucket_of.Goals as goal

pub returns-then-size-eq-OFTEN : goal.returns-then-size-eq-OFTEN
unfolding bucket_of
returns-then-size-eq-OFTEN c =
    let e : c.args.size ≡ 1024 = c.if-size-eq-OFTEN.true in
    rw e (refl, bucket_below 1024 c.args.key (omega arith))

pub returns : goal.returns
unfolding bucket_of
returns c =
    (refl, bucket_below c.args.size c.args.key c.requires)
