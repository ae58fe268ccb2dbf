-- The scan stops at the first record that breaks the rule. Assumes nothing.
use mathlib.Core.Path.{ap, ◌∙◌}
use borrow.Author.Rules.{rules}
use Rattle.refusals.specs.Refused.{judged_at}
use Rattle.setfile.proofs.Body.{leaves_are}
use Rattle.setfile.proofs.WholeFile.leaves.Goals as goal

pub returns : goal.returns
returns c source =
    ap (judged_at source) c.fault_at.ensures
    ∙ leaves_are c.args.self.bytes.now c.args.self.form c.args.self.whole source _ (λ i r e. search rules) _ c.lfs.ensures _ c.first_lf.ensures _ c.first_bad.ensures
