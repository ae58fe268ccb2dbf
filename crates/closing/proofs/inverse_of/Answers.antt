-- `closing::inverse_of` meets its contract: the first column in which the identity stands. Assumes nothing.
use native.Mathlib.Omega.{arith}
use Rattle.closing.proofs.Loops.{search_begin, search_found, search_on, search_end}
use Rattle.closing.proofs.inverse_of.Goals as goal

pub returns-then-product-eq-IDENTITY : goal.returns-then-product-eq-IDENTITY
returns-then-product-eq-IDENTITY c =
    search_found c.loop-q.invariant (omega arith) c.product.ensures c.if-product-eq-IDENTITY.true

pub loop-q-preserved : goal.loop-q-preserved
loop-q-preserved c =
    search_on c.loop-q.invariant (omega arith) c.product.ensures c.if-product-eq-IDENTITY.false

pub loop-q-init : goal.loop-q-init
loop-q-init c = search_begin c.args.p

pub returns : goal.returns
returns c = search_end c.loop-q.invariant (omega arith)
