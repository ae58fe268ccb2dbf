-- `onegate::one_gate` meets its contract: 17 comes before all else. Assumes nothing.
use native.Mathlib.Omega.{arith}
use mathlib.Core.Path.{refl, ap}
use Rattle.refusals.specs.Refused.{told}
use Rattle.replies.proofs.Makers.{is-refused}
use Rattle.onegate.proofs.Judged.{the_reply, the_output, too_short, long_enough}
use Rattle.onegate.proofs.one_gate.Goals as goal

pub returns-then-output-lt-OUTPUT : goal.returns-then-output-lt-OUTPUT
returns-then-output-lt-OUTPUT c =
    let e = too_short c.args.set.now c.args.circuit.now c.args.output.now c.if-output-lt-OUTPUT.true in
    record {
      value = the_reply c.args.set.now c.args.circuit.now c.args.output.now e (is-refused c.alone.result (ap told c.alone.ensures));
      output_after = the_output c.args.set.now c.args.circuit.now c.args.output.now e refl;
    }

pub returns : goal.returns
returns c =
    let e = long_enough c.args.set.now c.args.circuit.now c.args.output.now (omega (arith, c.if-output-lt-OUTPUT.false)) in
    record {
      value = the_reply c.args.set.now c.args.circuit.now c.args.output.now e c.gate_own.ensures.value;
      output_after = the_output c.args.set.now c.args.circuit.now c.args.output.now e c.gate_own.ensures.output_after;
    }
