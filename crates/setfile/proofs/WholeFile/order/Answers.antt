-- Each pass stops at the first record of its kind that clashes, and TR records stand before LF records. Assumes nothing.
use mathlib.Core.Path.{◌≡◌, refl, sym, ap, ◌∙◌}
use borrow.Author.Rules.{rules}
use Rattle.std.specs.declared.result.Result.TheVariants.{Err}
use Rattle.refusals.specs.Refused.{judged_at}
use Rattle.setfile.specs.Judged.{fault_from}
use Rattle.setfile.proofs.Body.{inner_order, leaves_order, orders_are}
use Rattle.setfile.proofs.WholeFile.order.Goals as goal

pub returns-in_err-fault_at : goal.returns-in_err-fault_at
returns-in_err-fault_at c source =
    let s = c.args.self.bytes.now in
    let f = c.args.self.form in
    let w = c.args.self.whole in
    let e : c.from_residual.result ≡ Err c.in_err-fault_at.field-0.0 = search rules in
    let inner = ap (judged_at source) (c.in_err-fault_at.ensures ∙ ap (fault_from c.first_tr.result) c.clash.ensures.first) ∙ inner_order s f w source c.trs.result c.trs.ensures c.first_tr.result c.first_tr.ensures in
    rw e (rw (sym (orders_are s f w source), sym inner) refl)

pub returns : goal.returns
returns c source =
    let s = c.args.self.bytes.now in
    let f = c.args.self.form in
    let w = c.args.self.whole in
    let inner = ap (judged_at source) (c.in_ok-fault_at.ensures ∙ ap (fault_from c.first_tr.result) c.clash.ensures.first) ∙ inner_order s f w source c.trs.result c.trs.ensures c.first_tr.result c.first_tr.ensures in
    let leaves = ap (judged_at source) (c.fault_at-2.ensures ∙ ap (fault_from c.first_lf.result) c.clash-2.ensures.first) ∙ leaves_order s f w source c.lfs.result c.lfs.ensures c.first_lf.result c.first_lf.ensures in
    rw (sym (orders_are s f w source), sym inner, sym leaves) refl
