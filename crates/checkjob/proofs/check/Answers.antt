-- `checkjob::check` meets its contract: 17 comes before all else and leaves the buffers. Assumes nothing.
use mathlib.Core.Bool.{false}
use mathlib.Core.Path.{◌≡◌, ap, ◌∙◌}
use native.Mathlib.Omega.{arith}
use Rattle.std.proofs.lemmas.Bool.Decides.{nat_tests}
use Rattle.refusals.specs.Refused.{told}
use Rattle.replies.proofs.Makers.{is-refused}
use Rattle.checkjob.specs.Sizes.{check_lent, Long}
use Rattle.checkjob.proofs.Tested.{all_long, all-long-is, long-is, short_reply, short_work, long_reply, long_work}
use Rattle.checkjob.proofs.check.Goals as goal

pub returns-then-met-lt-MARKS : goal.returns-then-met-lt-MARKS
returns-then-met-lt-MARKS c =
    let lent = check_lent c.args.met.now c.args.stack.now c.args.kept.now c.args.hints.now in
    let none : false ≡ all_long c.args.met.now c.args.stack.now c.args.kept.now c.args.hints.now = grind (arith, nat_tests) in
    let short = none ∙ long-is c.args.met.now c.args.stack.now c.args.kept.now c.args.hints.now in
    record {
      value = short_reply c.args.start.now c.args.circuit.now c.args.end.now c.args.terms.most lent short (is-refused c.alone.result (ap told c.alone.ensures));
      hints_after = short_work c.args.start.now c.args.circuit.now c.args.end.now c.args.terms.most lent short;
    }

pub lend-requires : goal.lend-requires
lend-requires c =
    record { met_long = omega arith; stack_long = omega arith; kept_long = omega arith; hints_long = omega arith }

pub returns : goal.returns
returns c =
    let lent = check_lent c.args.met.now c.args.stack.now c.args.kept.now c.args.hints.now in
    let all : Long c.args.met.now c.args.stack.now c.args.kept.now c.args.hints.now = record { met_long = omega arith; stack_long = omega arith; kept_long = omega arith; hints_long = omega arith } in
    let long = all-long-is c.args.met.now c.args.stack.now c.args.kept.now c.args.hints.now all ∙ long-is c.args.met.now c.args.stack.now c.args.kept.now c.args.hints.now in
    record {
      value = long_reply c.args.start.now c.args.circuit.now c.args.end.now c.args.terms.most lent long c.lend.ensures.value;
      hints_after = long_work c.args.start.now c.args.circuit.now c.args.end.now c.args.terms.most lent long c.lend.ensures.hints_after;
    }
