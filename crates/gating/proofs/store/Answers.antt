-- `gating::store` meets its contract. Assumes nothing.
use mathlib.Core.Path.{ap, ◌∙◌}
use native.Mathlib.Omega.{arith}
use Prim.Native.Nat.{ℕ}
use Rattle.jobs.specs.Reply.{made}
use Rattle.replies.specs.Replied.{reply_from}
use Rattle.replies.proofs.Makers.{is_made}
use Rattle.gating.proofs.Storing.{states-sum, has-rows, file_fits, file_short}
use Rattle.gating.proofs.store.Goals as goal

pub pack-requires : goal.pack-requires
pack-requires c =
    record {
      n_in_bounds = (c.requires.stands.roomy.levels, states-sum c.requires.stands);
      has_rows = has-rows c.requires.stands;
      leaves_in_bounds = file_fits c.requires.stands c.args.output.now c.requires.narrow.1;
    }

pub overflow_cast-result : goal.overflow_cast-result
overflow_cast-result c =
    omega (arith, c.pack.ensures.value, file_short c.requires.stands c.requires.narrow.0)

pub returns : goal.returns
returns c =
    record {
      value = is_made _ ∙ ap (λ (n : ℕ). reply_from (made n)) c.pack.ensures.value;
      output_after = c.pack.ensures.out_after;
    }
