-- The three scans come one after the other, as the marks do in the one list. Assumes nothing.
use mathlib.Core.Path.{◌≡◌, refl, sym}
use borrow.Author.Rules.{rules}
use Rattle.std.specs.declared.result.Result.TheVariants.{Err}
use Rattle.setfile.proofs.Body.{lv_marked, tr_marked, lf_marked, marks_are}
use Rattle.setfile.proofs.WholeFile.marks.Goals as goal

pub returns-in_err-fault_at : goal.returns-in_err-fault_at
returns-in_err-fault_at c source =
    let s = c.args.self.bytes.now in
    let f = c.args.self.form in
    let w = c.args.self.whole in
    let e : c.from_residual.result ≡ Err c.in_err-fault_at.field-0.0 = search rules in
    let lv = lv_marked s f w source _ (λ i r e. search rules) _ c.lvs.ensures _ c.first_bad.ensures _ c.in_err-fault_at.ensures in
    rw e (rw (sym (marks_are s f w source), sym lv) refl)

pub returns-in_err-fault_at-2 : goal.returns-in_err-fault_at-2
returns-in_err-fault_at-2 c source =
    let s = c.args.self.bytes.now in
    let f = c.args.self.form in
    let w = c.args.self.whole in
    let e : c.from_residual-in_err-fault_at-2.result ≡ Err c.in_err-fault_at-2.field-0.0 = search rules in
    let lv = lv_marked s f w source _ (λ i r e. search rules) _ c.lvs.ensures _ c.first_bad.ensures _ c.in_ok-fault_at.ensures in
    let tr = tr_marked s f w source _ (λ i r e. search rules) _ c.trs.ensures _ c.first_tr.ensures _ c.first_bad-2.ensures _ c.in_err-fault_at-2.ensures in
    rw e (rw (sym (marks_are s f w source), sym lv, sym tr) refl)

pub returns : goal.returns
returns c source =
    let s = c.args.self.bytes.now in
    let f = c.args.self.form in
    let w = c.args.self.whole in
    let lv = lv_marked s f w source _ (λ i r e. search rules) _ c.lvs.ensures _ c.first_bad.ensures _ c.in_ok-fault_at.ensures in
    let tr = tr_marked s f w source _ (λ i r e. search rules) _ c.trs.ensures _ c.first_tr.ensures _ c.first_bad-2.ensures _ c.in_ok-fault_at-2.ensures in
    let lf = lf_marked s f w source _ (λ i r e. search rules) _ c.lfs.ensures _ c.first_lf.ensures _ c.first_bad-3.ensures _ c.fault_at-3.ensures in
    rw (sym (marks_are s f w source), sym lv, sym tr, sym lf) refl
