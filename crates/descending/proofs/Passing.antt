-- What a level hands on to the levels below it: lists of keys, and the rest of the slices. Assumes nothing.
use mathlib.Core.Path.{◌≡◌, subst}
use mathlib.Core.List.{List}
use Prim.Native.Nat.{ℕ, ◌+◌, ◌-◌, ◌*◌, ◌<◌, ◌≤◌}
use native.Mathlib.Omega.{arith}
use lib.IntN.{ℤ}
use lib.ListN.{length, take, drop, set, length-set}
use Rattle.std.specs.Prelude.{Option}
use Rattle.gates.specs.Numbering.{Built}
use Rattle.building.specs.Fresh.{Kept}
use Rattle.building.specs.Whole.{Whole}
use Rattle.building.specs.Going.{Lists, Rest, Past}
use Rattle.building.specs.declared.Room.{Room}
use Rattle.building.specs.declared.Outcome.{Outcome}
use Rattle.building.proofs.Steps.{less_room}
use Rattle.building.proofs.Tails.{tail_long}

module _ {rows masks next link heads rows' masks' next' link' heads' : List ℕ} (kept : Kept rows masks next link heads rows' masks' next' link' heads') where
  -- this level's keys give way to those of the level after the next
  pub lists_on : {cur : List ℕ} {states start count : ℕ} → Lists cur next link heads states start → count ≤ states → Lists next' cur link' heads' (states - count) (start + count)
  lists_on l few = record {
    here = omega (arith, l.there, kept.keys_long);
    there = omega (arith, l.here);
    links = omega (arith, l.links, kept.link_long);
    buckets = omega (arith, l.buckets, kept.heads_long);
    small = omega (arith, l.small);
  }

  -- past the rows of this level
  pub rest_on : {coefs : List ℤ} {counts : List ℕ} {left count keys w : ℕ} {room : Room} → Rest rows masks coefs counts left count room → 0 < left → w ≤ room.inner → keys ≤ room.states - count
      → Past rows' masks' coefs (set counts 0 count) (left - 1) keys w (less_room room w count)
  rest_on {counts = counts} {count = count} r some few few_keys = record {
    wide = omega (arith, r.wide.wide, kept.rows_long);
    long = omega (arith, r.wide.long, kept.masks_long);
    deep = r.wide.deep;
    counted = omega (arith, r.counted, length-set counts 0 count);
    few = few_keys;
  }

-- the rest of the slices, as the levels below are lent it
pub rest-lent : {rows masks : List ℕ} {coefs : List ℤ} {counts : List ℕ} {left count w : ℕ} {room : Room} → Past rows masks coefs counts left count w room
    → Rest (take (length rows - w * 3) (drop (w * 3) rows)) (take (length masks - w) (drop w masks)) coefs (take (length counts - 1) (drop 1 counts)) left count room
rest-lent {rows} {masks} {coefs} {counts} {left} {count} {w} p = record {
  wide =
      record {
        wide = omega (arith, p.wide, tail_long rows (w * 3));
        long = omega (arith, p.long, tail_long masks w);
        deep = p.deep;
      };
  counted = omega (arith, p.counted, tail_long counts 1);
  few = p.few;
}

pub same-built : {rows masks : List ℕ} {coefs : List ℤ} {counts : List ℕ} {room : Room} {r : Option Outcome} {B C : Built} → B ≡ C → Whole rows masks coefs counts room r B
    → Whole rows masks coefs counts room r C
same-built {rows} {masks} {coefs} {counts} {room} {r} e w = subst (λ (B : Built). Whole rows masks coefs counts room r B) e w
