-- `deciding::decide` meets its contract: the gates leave the image in one of two tables, and the walk over that table gives the verdict by the
-- matrices. Assumes nothing.
use mathlib.Core.Path.{refl, ap, ◌∙◌}
use Rattle.replies.specs.Replied.{reply_from}
use Rattle.replies.proofs.Makers.{is-refusal}
use Rattle.applying.specs.Result.{bounds_from}
use Rattle.buffers.proofs.Own.{own-table, own-lists}
use Rattle.tables.specs.Slices.{table_is, lent_is, set_on}
use Rattle.carrying.specs.Carried.{gates_from}
use Rattle.carrying.proofs.Told.{in_first, in_second, first-refusal}
use Rattle.deciding.proofs.Walkable.{walkable, viewed_on, walked_on, own-lent, own_keys, few-qubits}
use Rattle.deciding.proofs.Outcomes.{gate-refused, all-gates_on}
use Rattle.deciding.proofs.decide.Goals as goal

pub run_gates-requires : goal.run_gates-requires
run_gates-requires c =
    record {
      readable = c.requires.readable;
      stands_on = c.requires.start;
      lists = own_keys own-lists c.requires.roomed;
      lent_on = (c.requires.one, own-lent own-table (few-qubits c.requires.start) c.requires.roomed);
    }

pub returns-in-Err : goal.returns-in-Err
returns-in-Err c = record {
  value = is-refusal _ ∙ ap reply_from (gate-refused (bounds_from c.args.room) (set_on c.args.files.form (lent_is c.args.table.now)) (gates_from c.args.files.form.n c.args.circuit.now 0 c.args.files.count) (set_on c.args.files.endform (table_is c.args.end.now)) c.args.terms.most _ (first-refusal c.in-Err.ensures.carried _ refl));
  long = c.in-Err.ensures.long.0;
  same_slices = c.in-Err.ensures.same_slices.0;
}

pub stride-requires : goal.stride-requires
stride-requires c =
    viewed_on c.view-made.ensures (walkable c.requires ((c.in-Ok.ensures.carried.stands c.in-Ok.image refl).two c.if-image.true) (c.in-Ok.ensures.carried.qubits c.in-Ok.image refl))

pub returns-then-image : goal.returns-then-image
returns-then-image c = record {
  value =
      walked_on c.view-made.ensures c.args.terms.most c.stride.ensures (walkable c.requires ((c.in-Ok.ensures.carried.stands c.in-Ok.image refl).two c.if-image.true) (c.in-Ok.ensures.carried.qubits c.in-Ok.image refl))
      ∙ ap reply_from (all-gates_on c.args.room c.args.files.form (lent_is c.args.table.now) (gates_from c.args.files.form.n c.args.circuit.now 0 c.args.files.count) (set_on c.args.files.endform (table_is c.args.end.now)) c.args.terms.most _ c.requires.start c.requires.fit (in_second c.in-Ok.ensures.carried c.in-Ok.image refl c.if-image.true));
  long = c.in-Ok.ensures.long.0;
  same_slices = c.in-Ok.ensures.same_slices.0;
}

pub stride-requires-2 : goal.stride-requires-2
stride-requires-2 c =
    viewed_on c.view-made-2.ensures (walkable c.requires ((c.in-Ok.ensures.carried.stands c.in-Ok.image refl).one c.if-image.false) (c.in-Ok.ensures.carried.qubits c.in-Ok.image refl))

pub returns : goal.returns
returns c = record {
  value =
      walked_on c.view-made-2.ensures c.args.terms.most c.stride-2.ensures (walkable c.requires ((c.in-Ok.ensures.carried.stands c.in-Ok.image refl).one c.if-image.false) (c.in-Ok.ensures.carried.qubits c.in-Ok.image refl))
      ∙ ap reply_from (all-gates_on c.args.room c.args.files.form (lent_is c.args.table.now) (gates_from c.args.files.form.n c.args.circuit.now 0 c.args.files.count) (set_on c.args.files.endform (table_is c.args.end.now)) c.args.terms.most _ c.requires.start c.requires.fit (in_first c.in-Ok.ensures.carried c.in-Ok.image refl c.if-image.false));
  long = c.in-Ok.ensures.long.0;
  same_slices = c.in-Ok.ensures.same_slices.0;
}
