-- The slot's bytes and marks stand in its part of the rows and of the planes. Assumes nothing.
use mathlib.Core.Path.{refl}
use borrow.Author.Rules.{rules}
use Rattle.remembering.proofs.SlotLaws.{in_slot}
use Rattle.remembering.proofs.Slots.put.Goals as goal

pub copy_bytes-requires : goal.copy_bytes-requires
copy_bytes-requires c = in_slot c.requires

pub returns : goal.returns
returns c = record {
  sizes = record {
    count = refl;
    rows_same = refl;
    kept_same = refl;
    seen_same = refl;
    turn_same = refl;
    rows = search rules;
    kept = c.copy_planes.auto.kept;
    seen = refl;
    turn = refl;
  };
  cells = record {
    states = c.copy_bytes.ensures;
    marks = c.copy_planes.ensures;
  };
  seen = refl;
}
