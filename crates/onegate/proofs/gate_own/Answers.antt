-- `onegate::gate_own` meets its contract: arrays of the named sizes have room for every set, and its bounds are those of every set. Assumes nothing.
use mathlib.Core.Path.{ap, ◌∙◌}
use Rattle.replies.specs.Replied.{reply_from}
use Rattle.gating.specs.Gated.{length_reply}
use Rattle.jobs.specs.OneGate.{with_file}
use Rattle.onegate.proofs.Judged.{new_set_lem}
use Rattle.onegate.proofs.gate_own.Goals as goal

pub returns : goal.returns
returns c =
    let e = new_set_lem c.args.set.now c.args.circuit.now in
    record {
      value = c.gate_file.ensures.value ∙ ap (λ j. reply_from (length_reply j)) e;
      output_after = c.gate_file.ensures.output_after ∙ ap (with_file c.args.output.now) e;
    }
