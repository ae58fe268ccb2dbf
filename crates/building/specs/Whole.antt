-- Document 01, "What each gate builds": the levels of a gate's result from one level on, in lent slices whose rest is still to be written.
use Rattle.std.specs.Prelude.{◌≡◌, true, ◌⊎◌, List, ℕ, ◌+◌, ◌-◌, ◌*◌, ◌<◌, ◌≤◌, ℤ, length, get_or, take, Option, Some, None}
use borrow.Rule.Slice.PartMut.{put_mid}
use Rattle.automata.specs.Sets.{sum}
use Rattle.stored.specs.Rules.{passes}
use Rattle.gates.specs.Numbering.{Built}
use Rattle.gates.specs.Refuse.{leaf_fits}
use Rattle.tables.specs.Table.{row_width, leaf_width, tr_rows, lf_rows}
use Rattle.building.specs.declared.Room.{Room}
use Rattle.building.specs.declared.Outcome.{Outcome}

-- levels that are over what may still be written
abbrev pub TooMany : Room → Built → Type 0
TooMany room B = (room.inner < length B.inner) ⊎ ((room.leaves < length B.leaves) ⊎ (room.states < sum B.counts))

-- the slices have room for that
pub record Wide (rows masks : List ℕ) (coefs : List ℤ) (room : Room) : Type 0 where
  pub wide : (room.inner + room.leaves) * row_width ≤ length rows
  pub long : room.inner + room.leaves ≤ length masks
  pub deep : room.leaves * leaf_width ≤ length coefs

-- levels that were built: they stand at the front of the slices, within the room. Leaves with a coefficient out of its range are counted, and what
-- stands in the slices then does not matter
pub record Made (rows masks : List ℕ) (coefs : List ℤ) (counts : List ℕ) (room : Room) (r : Outcome) (B : Built) : Type 0 where
  pub inner : tr_rows rows masks 0 r.inner ≡ B.inner
  pub many_leaves : r.leaves ≡ length B.leaves
  pub levels : take (length B.counts) counts ≡ B.counts
  pub states : r.states ≡ sum B.counts
  pub fitting : r.fits ≡ passes leaf_fits B.leaves
  pub leaves : r.fits ≡ true → lf_rows rows masks coefs r.inner r.leaves ≡ B.leaves
  pub numbered : (i : ℕ) → i < r.leaves → get_or rows ((r.inner + i) * row_width + 1) 0 ≡ i
  pub inner_few : r.inner ≤ room.inner
  pub leaves_few : r.leaves ≤ room.leaves
  pub states_few : r.states ≤ room.states

-- after the levels were to be built: they were, or they are too many
pub record Whole (rows masks : List ℕ) (coefs : List ℤ) (counts : List ℕ) (room : Room) (r : Option Outcome) (B : Built) : Type 0 where
  pub made : (o : Outcome) → r ≡ Some o → Made rows masks coefs counts room o B
  pub over : r ≡ None → TooMany room B

-- after the levels below were to be built into the rest of the slices, past w rows and one count: the rest is as `Whole` says, and what stands
-- before it is as it was
pub record Below (rows masks counts rows' masks' : List ℕ) (coefs' : List ℤ) (counts' : List ℕ) (w : ℕ) (room : Room) (r : Option Outcome) (B : Built) : Type 0 where
  pub rest : List ℕ
  pub mrest : List ℕ
  pub crest : List ℕ
  pub rows_are : rows' ≡ put_mid (w * row_width) (length rows - w * row_width) rows rest
  pub masks_are : masks' ≡ put_mid w (length masks - w) masks mrest
  pub counts_are : counts' ≡ put_mid 1 (length counts - 1) counts crest
  pub whole : Whole rest mrest coefs' crest room r B

-- a level of w rows and `count` states on top of the levels below it
abbrev pub on_levels : ℕ → ℕ → Outcome → Outcome
on_levels w count r = record { inner = w + r.inner; leaves = r.leaves; states = count + r.states; fits = r.fits }
