-- The scan stops at the first record with a fault, and says which it is. Assumes nothing.
use mathlib.Core.Path.{ap, ◌∙◌}
use borrow.Author.Rules.{rules}
use Rattle.refusals.specs.Refused.{judged_at}
use Rattle.setfile.proofs.Body.{inner_are}
use Rattle.setfile.proofs.WholeFile.inner.Goals as goal

pub returns : goal.returns
returns c source =
    ap (judged_at source) c.fault_at.ensures
    ∙ inner_are c.args.self.bytes.now c.args.self.form c.args.self.whole source _ (λ i r e. search rules) _ c.trs.ensures _ c.first_tr.ensures _ c.first_bad-bad.ensures
