-- `gating::gate_file` meets its contract: a set that was made is stored, and a refusal is replied. Assumes nothing.
use mathlib.Core.Path.{ap, sym, ◌∙◌, subst}
use lib.ListN.{length}
use Rattle.stored.specs.Pack.{file_of}
use Rattle.jobs.specs.Reply.{made}
use Rattle.packing.specs.Written.{at_front}
use Rattle.tables.specs.Slices.{Table, set_on}
use Rattle.replies.specs.Replied.{reply_from}
use Rattle.standing.specs.Tables.{StandsOn}
use Rattle.refusals.proofs.Told.{turned_down, good_seen}
use Rattle.replies.proofs.Makers.{is-refusal}
use Rattle.standing.specs.Standing.{form_of}
use Rattle.settling.specs.Result.{bounds_from}
use Rattle.gating.specs.Gated.{new_set_by}
use Rattle.gating.proofs.Storing.{target-narrow, made-stands, made_reply, made_output}
use Rattle.gating.proofs.gate_file.Goals as goal

pub new_set-requires : goal.new_set-requires
new_set-requires c =
    record { roomy = c.requires.roomy; lists = c.requires.target.lists; lent = c.requires.target.lent }

pub store-requires : goal.store-requires
store-requires c =
    let k = good_seen form_of (new_set_by (bounds_from c.args.room) c.args.set.now c.args.circuit.now) _ c.in-Ok.ensures.value in
    record {
      stands = subst (λ (T : Table). StandsOn T c.in-Ok.form (bounds_from c.args.room)) (sym c.view-table.ensures) (made-stands (c.new_set.ensures.holding k.thing k.good) k.value);
      narrow = (target-narrow c.requires.target, c.requires.target.long);
    }

pub returns-in-Err : goal.returns-in-Err
returns-in-Err c =
    let k = turned_down form_of (new_set_by (bounds_from c.args.room) c.args.set.now c.args.circuit.now) _ c.in-Err.ensures.value in
    record { value = rw k (is-refusal _); output_after = rw k; long = c.new_set.ensures.long; same_slices = c.new_set.ensures.same_slices }

pub returns-in-Ok : goal.returns-in-Ok
returns-in-Ok c =
    let j = new_set_by (bounds_from c.args.room) c.args.set.now c.args.circuit.now in
    let k = good_seen form_of j _ c.in-Ok.ensures.value in
    let h = c.new_set.ensures.holding k.thing k.good in
    record {
      value = made_reply h k.value j k.good (c.store.ensures.value ∙ ap (λ (T : Table). reply_from (made (length (file_of (set_on c.in-Ok.form T))))) c.view-table.ensures);
      output_after = made_output h k.value j k.good c.args.output.now (c.store.ensures.output_after ∙ ap (λ (T : Table). at_front (file_of (set_on c.in-Ok.form T)) c.args.output.now) c.view-table.ensures);
      long = c.new_set.ensures.long;
      same_slices = c.new_set.ensures.same_slices;
    }
