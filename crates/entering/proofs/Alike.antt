-- Rows and slots that are the same slices, as long as they were, stay so over two calls. Assumes nothing.
use mathlib.Core.Path.{◌∙◌}
use Rattle.remembering.specs.declared.Slots.{Slots}
use Rattle.remembering.specs.Slots.{SameSizes}
use Rattle.outcomes.specs.declared.Walk.{Walk}
use Rattle.outcomes.specs.On.{SameRows}

pub rows-on : {a b c : Walk} → SameRows a b → SameRows b c → SameRows a c
rows-on e f = record {
  may_same = f.may_same ∙ e.may_same;
  met_same = f.met_same ∙ e.met_same;
  stack_same = f.stack_same ∙ e.stack_same;
  reached_same = f.reached_same ∙ e.reached_same;
  may = f.may ∙ e.may;
  met = f.met ∙ e.met;
  stack = f.stack ∙ e.stack;
  reached = f.reached ∙ e.reached;
}

pub sizes-on : {a b c : Slots} → SameSizes a b → SameSizes b c → SameSizes a c
sizes-on e f = record {
  count = f.count ∙ e.count;
  rows_same = f.rows_same ∙ e.rows_same;
  kept_same = f.kept_same ∙ e.kept_same;
  seen_same = f.seen_same ∙ e.seen_same;
  turn_same = f.turn_same ∙ e.turn_same;
  rows = f.rows ∙ e.rows;
  kept = f.kept ∙ e.kept;
  seen = f.seen ∙ e.seen;
  turn = f.turn ∙ e.turn;
}
