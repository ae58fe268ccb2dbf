-- `settling::settle` meets its contract: what one function picks is what the definitions pick, and rows are looked up where nothing is refused. Assumes
-- nothing.
use borrow.Author.Rules.{rules}
use Prim.Native.Nat.{◌+◌}
use native.Mathlib.Omega.{arith}
use lib.Dec.{leb}
use mathlib.Core.Path.{◌≡◌}
use Rattle.std.specs.Prelude.{Err}
use Rattle.settling.proofs.Order.{fitting_is, leaves-fit, passed, picked_out}
use Rattle.settling.proofs.settle.Goals as goal

pub returns-in_err-judge-clause-value : goal.returns-in_err-judge-clause-value
returns-in_err-judge-clause-value c =
    let e : c.from_residual.result ≡ Err c.in_err-judge.field-0.0 = search rules in
    let fits = fitting_is c.args.built {fits = c.is_some_and-fits.result} (search rules) in
    rw e (picked_out c.args.place c.args.form.n (c.args.form.k + c.args.grown) c.in_err-judge.field-0.0 (leb (c.args.form.k + c.args.grown) 64) c.args.built
    (rw (c.is_some.ensures, fits) at c.in_err-judge.ensures))

pub overflow_add-made : goal.overflow_add-made
overflow_add-made c =
    let p = passed (leb (c.args.form.k + c.args.grown) 64) c.is_some.result c.is_some_and-fits.result c.args.place c.in_ok-judge.ensures in
    let rows = c.requires.indexable p.small c.unwrap-r.result c.unwrap-r.ensures (leaves-fit c.args.built {fits = c.is_some_and-fits.result} (search rules) c.unwrap-r.ensures p.fit) in
    omega (arith, rows.few)

pub fill_first-requires : goal.fill_first-requires
fill_first-requires c =
    let p = passed (leb (c.args.form.k + c.args.grown) 64) c.is_some.result c.is_some_and-fits.result c.args.place c.in_ok-judge.ensures in
    let rows = c.requires.indexable p.small c.unwrap-r.result c.unwrap-r.ensures (leaves-fit c.args.built {fits = c.is_some_and-fits.result} (search rules) c.unwrap-r.ensures p.fit) in
    (rows.wide, rows.begins, rows.rises)
