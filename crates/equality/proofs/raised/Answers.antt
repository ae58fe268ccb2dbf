-- After so many doublings the product is √2 to twice that power times what it was at first, since a doubling is two units. What is left of d is
-- then nothing, or the one unit of the single step. Assumes nothing.
use mathlib.Core.Path.{sym, ap, ◌∙◌, subst}
use Prim.Native.Nat.{suc, ◌+◌}
use native.Mathlib.Omega.{arith}
use Rattle.amplitude.specs.Amp.{Amp, times√2, ◌⊕◌}
use Rattle.leafrows.specs.Value.{amp_is, Within}
use Rattle.leafrows.proofs.Ranges.{range-within}
use Rattle.equality.specs.Wide.{wide_most}
use Rattle.equality.proofs.Growth.{two_steps, within-√2^, as-often}
use Rattle.equality.proofs.raised.Goals as goal

pub doubled-product-requires : goal.doubled-product-requires
doubled-product-requires c =
    let n = c.loop.counter + c.loop.counter in
    let x = amp_is c.args.x in
    subst (λ (y : Amp). Within wide_most (y ⊕ y)) (sym c.loop.invariant) (subst (Within wide_most) (two_steps n x) (within-√2^ (suc (suc n)) x (omega arith) (range-within x c.requires.0)))

pub loop-preserved : goal.loop-preserved
loop-preserved c =
    let n = c.loop.counter + c.loop.counter in
    let x = amp_is c.args.x in
    c.doubled-product.ensures ∙ ap (λ (y : Amp). y ⊕ y) c.loop.invariant ∙ sym (two_steps n x) ∙ as-often x (suc (suc n)) (c.loop.counter + 1 + (c.loop.counter + 1)) (omega arith)

pub times_root-requires : goal.times_root-requires
times_root-requires c =
    let n = c.loop.counter + c.loop.counter in
    let x = amp_is c.args.x in
    subst (λ (y : Amp). Within wide_most (times√2 y)) (sym c.loop.invariant) (within-√2^ (suc n) x (omega arith) (range-within x c.requires.0))

-- d is odd: the single step
pub returns-then-d-eq1 : goal.returns-then-d-eq1
returns-then-d-eq1 c =
    c.times_root.ensures ∙ ap times√2 c.loop.invariant ∙ as-often (amp_is c.args.x) (suc (c.loop.counter + c.loop.counter)) c.args.d (omega arith)

-- d is even
pub returns-else-d-eq1 : goal.returns-else-d-eq1
returns-else-d-eq1 c =
    c.loop.invariant ∙ as-often (amp_is c.args.x) (c.loop.counter + c.loop.counter) c.args.d (omega arith)
