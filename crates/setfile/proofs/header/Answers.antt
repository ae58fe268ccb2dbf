-- Each test is its rule's, of the header that was read. Assumes nothing.
use mathlib.Core.Path.{◌≡◌, refl, sym, ap, ◌∙◌, subst}
use native.Mathlib.Omega.{arith}
use borrow.Author.Rules.{rules}
use Rattle.std.proofs.lemmas.Grind.{common_steps}
use Rattle.std.specs.declared.result.Result.TheVariants.{Err}
use Rattle.stored.specs.Rules.{head_ok, ranges_ok, counts_ok}
use Rattle.setfile.specs.Answer.{bounds_of, Whole}
use Rattle.setfile.specs.Judged.{header_judged}
use Rattle.setfile.proofs.Parts.{need_err, need_ok, form-is, head-is, version-is, length-is, header_is, whole, kept_true}
use Rattle.setfile.proofs.header.Goals as goal

pub returns-then-s-lt-HD_SIZE-clause-value : goal.returns-then-s-lt-HD_SIZE-clause-value
unfolding header_judged head_ok
returns-then-s-lt-HD_SIZE-clause-value c source = grind (arith, common_steps)

pub returns-in_err-need-clause-value : goal.returns-in_err-need-clause-value
returns-in_err-need-clause-value c source =
    let s = c.args.s.now in
    let b = bounds_of c.args.bounds in
    let e : c.from_residual.result ≡ Err c.in_err-need.field-0.0 = search rules in
    rw e (need_err _ _ _ _ (c.in_err-need.ensures source) ∙ header_is b source s (head-is s c.if-s-lt-HD_SIZE.false c.mark_at.ensures) refl refl refl refl)

pub returns-in_err-need-2-clause-value : goal.returns-in_err-need-2-clause-value
returns-in_err-need-2-clause-value c source =
    let s = c.args.s.now in
    let b = bounds_of c.args.bounds in
    let e : c.from_residual-in_err-need-2.result ≡ Err c.in_err-need-2.field-0.0 = search rules in
    rw e (need_err _ _ _ _ (c.in_err-need-2.ensures source) ∙ need_ok _ _ _ (c.in_ok-need.ensures source) ∙ header_is b source s (head-is s c.if-s-lt-HD_SIZE.false c.mark_at.ensures) (version-is s) refl refl refl)

pub returns-in_err-need-3-clause-value : goal.returns-in_err-need-3-clause-value
returns-in_err-need-3-clause-value c source =
    let s = c.args.s.now in
    let b = bounds_of c.args.bounds in
    let form = form-is s c.read-form.result c.read-form.ensures in
    let e : c.from_residual-in_err-need-3.result ≡ Err c.in_err-need-3.field-0.0 = search rules in
    rw e (need_err _ _ _ _ (c.in_err-need-3.ensures source) ∙ need_ok _ _ _ (c.in_ok-need-2.ensures source) ∙ need_ok _ _ _ (c.in_ok-need.ensures source) ∙ header_is b source s (head-is s c.if-s-lt-HD_SIZE.false c.mark_at.ensures) (version-is s) (c.ranges_ok.ensures ∙ ap (ranges_ok s) form) refl refl)

pub returns-in_err-need-4-clause-value : goal.returns-in_err-need-4-clause-value
returns-in_err-need-4-clause-value c source =
    let s = c.args.s.now in
    let b = bounds_of c.args.bounds in
    let form = form-is s c.read-form.result c.read-form.ensures in
    let e : c.from_residual-in_err-need-4.result ≡ Err c.in_err-need-4.field-0.0 = search rules in
    rw e (need_err _ _ _ _ (c.in_err-need-4.ensures source) ∙ need_ok _ _ _ (c.in_ok-need-3.ensures source) ∙ need_ok _ _ _ (c.in_ok-need-2.ensures source) ∙ need_ok _ _ _ (c.in_ok-need.ensures source) ∙ header_is b source s (head-is s c.if-s-lt-HD_SIZE.false c.mark_at.ensures) (version-is s) (c.ranges_ok.ensures ∙ ap (ranges_ok s) form) (c.counts_ok.ensures ∙ ap (counts_ok b) form) refl)

pub returns-in_err-need-5-clause-value : goal.returns-in_err-need-5-clause-value
returns-in_err-need-5-clause-value c source =
    let s = c.args.s.now in
    let b = bounds_of c.args.bounds in
    let form = form-is s c.read-form.result c.read-form.ensures in
    let e : c.from_residual-in_err-need-5.result ≡ Err c.in_err-need-5.field-0.0 = search rules in
    rw e (need_err _ _ _ _ (c.in_err-need-5.ensures source) ∙ need_ok _ _ _ (c.in_ok-need-4.ensures source) ∙ need_ok _ _ _ (c.in_ok-need-3.ensures source) ∙ need_ok _ _ _ (c.in_ok-need-2.ensures source) ∙ need_ok _ _ _ (c.in_ok-need.ensures source) ∙ header_is b source s (head-is s c.if-s-lt-HD_SIZE.false c.mark_at.ensures) (version-is s) (c.ranges_ok.ensures ∙ ap (ranges_ok s) form) (c.counts_ok.ensures ∙ ap (counts_ok b) form) (length-is s c.file_size.result c.read-form.result c.read-form.ensures c.file_size.ensures))

pub returns-clause-value : goal.returns-clause-value
returns-clause-value c source =
    let s = c.args.s.now in
    let b = bounds_of c.args.bounds in
    let form = form-is s c.read-form.result c.read-form.ensures in
    rw c.read-form.ensures (need_ok _ _ _ (c.in_ok-need-5.ensures source) ∙ need_ok _ _ _ (c.in_ok-need-4.ensures source) ∙ need_ok _ _ _ (c.in_ok-need-3.ensures source) ∙ need_ok _ _ _ (c.in_ok-need-2.ensures source) ∙ need_ok _ _ _ (c.in_ok-need.ensures source) ∙ header_is b source s (head-is s c.if-s-lt-HD_SIZE.false c.mark_at.ensures) (version-is s) (c.ranges_ok.ensures ∙ ap (ranges_ok s) form) (c.counts_ok.ensures ∙ ap (counts_ok b) form) (length-is s c.file_size.result c.read-form.result c.read-form.ensures c.file_size.ensures))

pub returns-clause-whole : goal.returns-clause-whole
returns-clause-whole c =
    let s = c.args.s.now in
    subst (Whole s) (sym c.read-form.ensures) (whole s (sym (length-is s c.file_size.result c.read-form.result c.read-form.ensures c.file_size.ensures) ∙ kept_true _ _ (c.in_ok-need-5.ensures 0)))
