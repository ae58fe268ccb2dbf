-- The loop's invariant: the set so far, carried through the gates that are left, comes to what all gates make of the first set. Assumes nothing.
use mathlib.Core.Path.{◌≡◌, refl, sym, ap, ◌∙◌}
use borrow.Author.Rules.{rules}
use Rattle.std.specs.Prelude.{Err}
use Rattle.std.proofs.Math.Option.{some}
use Prim.Native.Nat.{◌+◌, ◌-◌, ◌*◌}
use native.Mathlib.Omega.{arith}
use Rattle.gates.specs.Circuit.{gt_size, gate_at}
use Rattle.circuits.specs.Answer.{gate_is, gate_told}
use Rattle.refusals.specs.Refused.{judged}
use Rattle.settling.proofs.Results.{after-made, after-refused}
use Rattle.carrying.proofs.Turns.{long_on, same_on, names_on, at_spot, ends, turned, turned_down}
use Rattle.carrying.proofs.run_gates.Goals as goal

pub loop-i-preserved : goal.loop-i-preserved
loop-i-preserved c =
    let e : gate_at c.args.form.n c.args.circuit.now (c.loop-i.i * gt_size) ≡ some (gate_is c.unwrap-g.result) = sym c.gate_at.ensures ∙ ap gate_told c.unwrap-g.ensures in
    let t = after-made c.loop-i.image c.in_ok-image.image c.turn.result c.in_ok-image.ensures in
    let long = c.turn.ensures.long in (
      at_spot (c.args.count - c.loop-i.i - 1) (c.loop-i.i * gt_size + gt_size) (c.loop-i.i + 1 + 1) (c.args.count - (c.loop-i.i + 1)) ((c.loop-i.i + 1) * gt_size) (c.loop-i.i + 1 + 1) (omega arith) (omega arith) refl
          (turned c.loop-i.invariant.0 (omega arith) (gate_is c.unwrap-g.result) e t.form (ap judged (sym t.made) ∙ c.turn.ensures.value) c.turn.ensures.holding_on long.0 long.1 c.turn.auto.cur long.2 t.then),
      long_on c.loop-i.invariant.1 long.0,
      long_on c.loop-i.invariant.2 long.1,
      names_on c.loop-i.invariant.3 long.2,
      same_on c.loop-i.invariant.4 c.turn.ensures.same_slices.0,
      same_on c.loop-i.invariant.5 c.turn.ensures.same_slices.1,
    )

pub returns-in_err-image-clause-carried : goal.returns-in_err-image-clause-carried
returns-in_err-image-clause-carried c =
    let e : gate_at c.args.form.n c.args.circuit.now (c.loop-i.i * gt_size) ≡ some (gate_is c.unwrap-g.result) = sym c.gate_at.ensures ∙ ap gate_told c.unwrap-g.ensures in
    let k : c.from_residual.result ≡ Err c.in_err-image.field-0.0 = search rules in
    let t = after-refused c.loop-i.image c.turn.result c.in_err-image.ensures in
    rw k (turned_down c.loop-i.invariant.0 (omega arith) (gate_is c.unwrap-g.result) e c.in_err-image.field-0.0 (ap judged (sym t) ∙ c.turn.ensures.value))

pub returns-clause-carried : goal.returns-clause-carried
returns-clause-carried c = ends c.loop-i.invariant.0 (omega arith)
