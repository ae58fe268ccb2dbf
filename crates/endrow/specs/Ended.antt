-- Document 01, "Replies" 14 and 16 at the leaves: LF records written one after the other into lent slices, and what is so after a step that is to add some.
use Rattle.std.specs.Prelude.{◌≡◌, true, ◌&&◌, List, ◌++◌, ℕ, ◌+◌, ◌*◌, ◌<◌, ◌≤◌, ℤ, length, get_or, Option, Some, None}
use Rattle.automata.specs.Sets.{LF}
use Rattle.stored.specs.Rules.{passes}
use Rattle.gates.specs.Refuse.{leaf_fits}
use Rattle.tables.specs.Table.{row_width, leaf_width, lf_rows}
use Rattle.endrow.specs.declared.Ending.{Ending}
use Rattle.endrow.specs.declared.NewLeaves.{NewLeaves}

-- the slices have room for `most` leaves, no more than those are written, and each names the row of coefficients of its own number
pub record Lent (rows masks : List ℕ) (coefs : List ℤ) (most : ℕ) (done : Ending) : Type 0 where
  pub wide : most * row_width ≤ length rows
  pub long : most ≤ length masks
  pub deep : most * leaf_width ≤ length coefs
  pub within : done.rows ≤ most
  pub named : (i : ℕ) → i < done.rows → get_or rows (i * row_width + 1) 0 ≡ i

-- a step has added the records E: all of them are there. Records with a coefficient out of its range are counted, and what stands in the slices
-- then does not matter
pub record Added (rows masks : List ℕ) (coefs : List ℤ) (done : Ending) (most : ℕ) (E : List LF) (rows' masks' : List ℕ) (coefs' : List ℤ) (d : Ending) : Type 0 where
  pub lent : Lent rows' masks' coefs' most d
  pub many : d.rows ≡ done.rows + length E
  pub fitting : d.fits ≡ done.fits && passes leaf_fits E
  pub are : d.fits ≡ true → lf_rows rows' masks' coefs' 0 d.rows ≡ lf_rows rows masks coefs 0 done.rows ++ E

-- the leaves under construction are such
abbrev pub LentIn : NewLeaves → Type 0
LentIn v = Lent v.rows.now v.masks.now v.coefs.now v.most v.done

-- after a step that is to add the records E: it did, or they are more than may be
pub record EndedIn (v : NewLeaves) (E : List LF) (v' : NewLeaves) (r : Option Unit) : Type 0 where
  pub added : r ≡ Some tt → Added v.rows.now v.masks.now v.coefs.now v.done v.most E v'.rows.now v'.masks.now v'.coefs.now v'.done
  pub over : r ≡ None → v.most < v.done.rows + length E
  pub rows_long : length v'.rows.now ≡ length v.rows.now
  pub masks_long : length v'.masks.now ≡ length v.masks.now
  pub coefs_long : length v'.coefs.now ≡ length v.coefs.now
  pub rows_same : v'.rows.ghost_name ≡ v.rows.ghost_name
  pub masks_same : v'.masks.ghost_name ≡ v.masks.ghost_name
  pub coefs_same : v'.coefs.ghost_name ≡ v.coefs.ghost_name
  pub same_most : v'.most ≡ v.most
