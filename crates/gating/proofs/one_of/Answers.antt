-- `gating::one_of` meets its contract: a circuit that was read has one gate. Assumes nothing.
use native.Mathlib.Omega.{arith}
use mathlib.Core.Path.{ap, sym, ◌≡◌, ◌∙◌}
use borrow.Author.Rules.{rules}
use Rattle.std.specs.Prelude.{Err}
use Rattle.gating.proofs.OneRead.{bad-one, good-one, told-one}
use Rattle.gating.proofs.one_of.Goals as goal

pub gate_at-requires : goal.gate_at-requires
gate_at-requires c =
    omega (arith, (good-one c.args.n c.args.circuit.now _ c.in_ok-read_one.ensures).long)

pub returns-in_err-read_one : goal.returns-in_err-read_one
returns-in_err-read_one c =
    let e : c.from_residual.result ≡ Err c.in_err-read_one.field-0.0 = search rules in
    rw e (sym (bad-one c.args.n c.args.circuit.now _ c.in_err-read_one.ensures))

pub returns : goal.returns
returns c =
    rw c.ok_or.ensures.value (told-one (good-one c.args.n c.args.circuit.now _ c.in_ok-read_one.ensures) _ _ c.gate_at.ensures)
