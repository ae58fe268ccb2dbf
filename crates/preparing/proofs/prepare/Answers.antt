-- `preparing::prepare` meets its contract: each stage's answer is that of the definition. Assumes nothing.
use mathlib.Core.Path.{ap}
use borrow.Author.Rules.{rules}
use Rattle.std.specs.declared.result.Result.TheVariants.{Err}
use Rattle.refusals.specs.declared.Source.TheVariants.{Start, End}
use Rattle.setfile.specs.Answer.{bounds_of}
use Rattle.preparing.proofs.Preparations.{as_long, as_lent, never, handed-on, staged, start_refused, circuit_refused, end_refused, other-qubits, prepared, held}
use Rattle.preparing.proofs.prepare.Goals as goal

pub returns-in_err-form : goal.returns-in_err-form
returns-in_err-form c =
    let k = start_refused (bounds_of c.args.bounds) (bounds_of c.args.endbounds) c.args.start.now c.args.circuit.now c.args.end.now _ (staged c.load.result c.map_err.result Start c.in_err-form.was (search rules) (c.load.ensures.value 1)) in
    record { value = handed-on (search rules) k; holding = λ J g. absurd (never k J g); long = (c.load.ensures.long, as_long); same_slices = (c.load.ensures.same_slices, as_lent) }

pub returns-in_err-count : goal.returns-in_err-count
returns-in_err-count c =
    let k = circuit_refused (bounds_of c.args.bounds) (bounds_of c.args.endbounds) c.args.start.now c.args.circuit.now c.args.end.now c.in_ok-form.form (staged c.load.result c.map_err.result Start c.in_ok-form.was (search rules) (c.load.ensures.value 1)) _ c.in_err-count.ensures in
    record { value = handed-on (search rules) k; holding = λ J g. absurd (never k J g); long = (c.load.ensures.long, as_long); same_slices = (c.load.ensures.same_slices, as_lent) }

pub returns-in_err-endform : goal.returns-in_err-endform
returns-in_err-endform c =
    let k = end_refused (bounds_of c.args.bounds) (bounds_of c.args.endbounds) c.args.start.now c.args.circuit.now c.args.end.now c.in_ok-form.form (staged c.load.result c.map_err.result Start c.in_ok-form.was (search rules) (c.load.ensures.value 1)) c.in_ok-count.count c.in_ok-count.ensures _ (staged c.load-2.result c.map_err-2.result End c.in_err-endform.was (search rules) (c.load-2.ensures.value 3)) in
    record { value = handed-on (search rules) k; holding = λ J g. absurd (never k J g); long = (c.load.ensures.long, c.load-2.ensures.long); same_slices = (c.load.ensures.same_slices, c.load-2.ensures.same_slices) }

pub returns-then-endform-form : goal.returns-then-endform-form
returns-then-endform-form c =
    let k = other-qubits (bounds_of c.args.bounds) (bounds_of c.args.endbounds) c.args.start.now c.args.circuit.now c.args.end.now c.in_ok-form.form (staged c.load.result c.map_err.result Start c.in_ok-form.was (search rules) (c.load.ensures.value 1)) c.in_ok-count.count c.in_ok-count.ensures c.in_ok-endform.endform (staged c.load-2.result c.map_err-2.result End c.in_ok-endform.was (search rules) (c.load-2.ensures.value 3)) c.if-endform-form.true in
    record { value = handed-on (ap Err c.alone.ensures) k; holding = λ J g. absurd (never k J g); long = (c.load.ensures.long, c.load-2.ensures.long); same_slices = (c.load.ensures.same_slices, c.load-2.ensures.same_slices) }

pub returns : goal.returns
returns c =
    let x = staged c.load.result c.map_err.result Start c.in_ok-form.was (search rules) (c.load.ensures.value 1) in
    let z = staged c.load-2.result c.map_err-2.result End c.in_ok-endform.was (search rules) (c.load-2.ensures.value 3) in
    record {
      value = prepared (bounds_of c.args.bounds) (bounds_of c.args.endbounds) c.args.start.now c.args.circuit.now c.args.end.now c.in_ok-form.form x c.in_ok-count.count c.in_ok-count.ensures c.in_ok-endform.endform z c.if-endform-form.false;
      holding = held (bounds_of c.args.bounds) (bounds_of c.args.endbounds) c.args.start.now c.args.circuit.now c.args.end.now c.in_ok-form.form x c.in_ok-count.count c.in_ok-count.ensures c.in_ok-endform.endform z c.if-endform-form.false (c.load.ensures.holding 1) (c.load-2.ensures.holding 3);
      long = (c.load.ensures.long, c.load-2.ensures.long);
      same_slices = (c.load.ensures.same_slices, c.load-2.ensures.same_slices);
    }
