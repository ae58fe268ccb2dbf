-- The first part that refuses decides; a file that none refuses holds a set. Assumes nothing.
use mathlib.Core.Path.{◌≡◌, refl, sym, ap, ◌∙◌}
use borrow.Author.Rules.{rules}
use Rattle.std.specs.declared.result.Result.TheVariants.{Err}
use Rattle.stored.specs.Refusal.{good}
use Rattle.setfile.specs.Answer.{bounds_of}
use Rattle.setfile.proofs.Parts.{in_parts, form-read, levels-is}
use Rattle.setfile.proofs.read_set.Goals as goal

pub returns-in_err-form : goal.returns-in_err-form
returns-in_err-form c source =
    let e : c.from_residual.result ≡ Err c.in_err-form.field-0.0 = search rules in
    rw e (rw (in_parts (bounds_of c.args.bounds) source c.args.file.now, (sym (c.in_err-form.ensures.value source))) refl)

pub returns-in_err-marks : goal.returns-in_err-marks
returns-in_err-marks c source =
    let e : c.from_residual-in_err-marks.result ≡ Err c.in_err-marks.field-0.0 = search rules in
    rw e (rw (in_parts (bounds_of c.args.bounds) source c.args.file.now, (sym (c.in_ok-form.ensures.value source)), (sym (c.in_err-marks.ensures source))) refl)

pub returns-in_err-need : goal.returns-in_err-need
returns-in_err-need c source =
    let e : c.from_residual-in_err-need.result ≡ Err c.in_err-need.field-0.0 = search rules in
    rw e (rw (in_parts (bounds_of c.args.bounds) source c.args.file.now, (sym (c.in_ok-form.ensures.value source)), (sym (c.in_ok-marks.ensures source)), (sym (c.in_err-need.ensures source ∙ levels-is c.args.file.now source _ _ c.in_ok-form.ensures.whole c.levels_ok.ensures))) refl)

pub returns-in_err-inner : goal.returns-in_err-inner
returns-in_err-inner c source =
    let e : c.from_residual-in_err-inner.result ≡ Err c.in_err-inner.field-0.0 = search rules in
    rw e (rw (in_parts (bounds_of c.args.bounds) source c.args.file.now, (sym (c.in_ok-form.ensures.value source)), (sym (c.in_ok-marks.ensures source)), (sym (c.in_ok-need.ensures source ∙ levels-is c.args.file.now source _ _ c.in_ok-form.ensures.whole c.levels_ok.ensures)), (sym (c.in_err-inner.ensures source))) refl)

pub returns-in_err-leaves : goal.returns-in_err-leaves
returns-in_err-leaves c source =
    let e : c.from_residual-in_err-leaves.result ≡ Err c.in_err-leaves.field-0.0 = search rules in
    rw e (rw (in_parts (bounds_of c.args.bounds) source c.args.file.now, (sym (c.in_ok-form.ensures.value source)), (sym (c.in_ok-marks.ensures source)), (sym (c.in_ok-need.ensures source ∙ levels-is c.args.file.now source _ _ c.in_ok-form.ensures.whole c.levels_ok.ensures)), (sym (c.in_ok-inner.ensures source)), (sym (c.in_err-leaves.ensures source))) refl)

pub returns-in_err-order : goal.returns-in_err-order
returns-in_err-order c source =
    let e : c.from_residual-in_err-order.result ≡ Err c.in_err-order.field-0.0 = search rules in
    rw e (rw (in_parts (bounds_of c.args.bounds) source c.args.file.now, (sym (c.in_ok-form.ensures.value source)), (sym (c.in_ok-marks.ensures source)), (sym (c.in_ok-need.ensures source ∙ levels-is c.args.file.now source _ _ c.in_ok-form.ensures.whole c.levels_ok.ensures)), (sym (c.in_ok-inner.ensures source)), (sym (c.in_ok-leaves.ensures source)), (sym (c.in_err-order.ensures source))) refl)

pub returns : goal.returns
returns c source =
    rw (in_parts (bounds_of c.args.bounds) source c.args.file.now, (sym (c.in_ok-form.ensures.value source)), (sym (c.in_ok-marks.ensures source)), (sym (c.in_ok-need.ensures source ∙ levels-is c.args.file.now source _ _ c.in_ok-form.ensures.whole c.levels_ok.ensures)), (sym (c.in_ok-inner.ensures source)), (sym (c.in_ok-leaves.ensures source)), (sym (c.in_ok-order.ensures source))) (ap good (form-read c.args.file.now (c.in_ok-form.ensures.whole)))
