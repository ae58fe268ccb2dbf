-- Each coefficient of the sum is the sum of both coefficients. Assumes nothing.
use mathlib.Core.Path.{◌≡◌, ◌∙◌, subst}
use native.Mathlib.Omega.{arith}
use mir.Syntax.{w32, w64}
use Rattle.amplitude.specs.Amp.{Amp, amp, ◌⊕◌}
use Rattle.leafrows.specs.Value.{amp_is, Tested}
use Rattle.leafrows.proofs.Signed.{told, amp-told}
use Rattle.leafrows.proofs.sum.Goals as goal

pub returns : goal.returns
returns c =
    let x = c.args.x in
    let y = c.args.y in
    let e : amp c.plus.result c.plus-2.result c.plus-3.result c.plus-4.result ≡ amp_is x ⊕ amp_is y =
    rw (c.plus.ensures, c.plus-2.ensures, c.plus-3.ensures, c.plus-4.ensures, told w32 x.a (omega arith), told w32 x.b (omega arith), told w32 x.c (omega arith), told w32 x.d (omega arith), told w32 y.a (omega arith), told w32 y.b (omega arith), told w32 y.c (omega arith), told w32 y.d (omega arith)) in
    subst (λ (z : Amp). Tested z c.tested.result) (amp-told w64 _ _ _ _ (omega arith) (omega arith) (omega arith) (omega arith) ∙ e) c.tested.ensures
