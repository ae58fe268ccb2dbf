-- `checking::check_files` meets its contract: both tables have room for every set within the bounds, and what the files leave there is what the gates
-- ask. Assumes nothing.
use mathlib.Core.Path.{ap, sym, ◌∙◌, subst}
use native.Mathlib.Omega.{arith}
use Rattle.setfile.specs.Answer.{bounds_of}
use Rattle.refusals.proofs.Told.{turned_down, good_seen}
use Rattle.jobs.specs.Check.{ready}
use Rattle.replies.specs.Replied.{reply_from}
use Rattle.replies.proofs.Makers.{is-refusal}
use Rattle.buffers.proofs.Own.{own-table, sized-kept}
use Rattle.tables.specs.Slices.{Table, lent_is, table_of, set_on}
use Rattle.applying.specs.Result.{bounds_from}
use Rattle.carrying.specs.Carried.{gates_from}
use Rattle.preparing.specs.Prepared.{files_judged, files_of}
use Rattle.deciding.specs.Decided.{decided, Deciding}
use Rattle.deciding.proofs.Walkable.{own-lent}
use Rattle.checking.proofs.Steps.{own-roomy, roomy-by, to_decide, is_checked, not_checked}
use Rattle.checking.proofs.check_files.Goals as goal

pub prepare-requires : goal.prepare-requires
prepare-requires c =
    record {
      roomy = roomy-by (table_of _ _ _ _ _) _ c.args.room c.bounds_of.ensures (own-roomy own-table c.requires.start);
      roomy_2 = roomy-by (table_of _ _ _ _ _) _ c.args.endroom c.bounds_of-2.ensures (own-roomy own-table c.requires.end);
    }

pub decide-requires : goal.decide-requires
decide-requires c =
    let h = good_seen files_of (files_judged (bounds_of c.bounds_of.result) (bounds_of c.bounds_of-2.result) c.args.start.now c.args.circuit.now c.args.end.now) _ c.in-Ok.ensures.value in
    let long = c.prepare.ensures.long.0 in
    let may = to_decide c.bounds_of.result c.bounds_of-2.result c.args.room c.args.endroom c.bounds_of.ensures c.bounds_of-2.ensures c.args.start.now c.args.circuit.now c.args.end.now _ h (c.prepare.ensures.holding h.thing h.good) c.requires
    (own-lent (sized-kept own-table long.rows long.masks long.coefs long.counts long.first) (omega arith) c.requires.start) in
    subst (λ (E : Table). Deciding c.args.circuit.now c.in-Ok.files (lent_is c.prepare.new.table) E c.args.met.now c.args.stack.now c.args.kept.now c.args.hints.now c.args.room)
    (sym c.view-ends.ensures) may

pub returns-in-Err : goal.returns-in-Err
returns-in-Err c =
    let j = turned_down files_of (files_judged (bounds_of c.bounds_of.result) (bounds_of c.bounds_of-2.result) c.args.start.now c.args.circuit.now c.args.end.now) _ c.in-Err.ensures.value in
    is-refusal _ ∙ ap reply_from (not_checked c.bounds_of.result c.bounds_of-2.result c.args.room c.args.endroom c.bounds_of.ensures c.bounds_of-2.ensures c.args.start.now c.args.circuit.now c.args.end.now c.args.terms.most _ j)

pub returns-in-Ok : goal.returns-in-Ok
returns-in-Ok c =
    let h = good_seen files_of (files_judged (bounds_of c.bounds_of.result) (bounds_of c.bounds_of-2.result) c.args.start.now c.args.circuit.now c.args.end.now) _ c.in-Ok.ensures.value in
    let f = c.in-Ok.files in
    c.decide.ensures.value
    ∙ ap (λ (E : Table). reply_from (decided (bounds_from c.args.room) (ready (set_on f.form (lent_is c.prepare.new.table)) (gates_from f.form.n c.args.circuit.now 0 f.count) (set_on f.endform E)) c.args.terms.most)) c.view-ends.ensures
    ∙ ap reply_from (is_checked c.bounds_of.result c.bounds_of-2.result c.args.room c.args.endroom c.bounds_of.ensures c.bounds_of-2.ensures c.args.start.now c.args.circuit.now c.args.end.now _ h (c.prepare.ensures.holding h.thing h.good) c.args.terms.most)
