-- Steps follow one another: a step that is to add E and then one that is to add F are a step that is to add E and F, since all that a step says is
-- of sums, of tests of each record and of lists put together. Assumes nothing.
use mathlib.Core.Path.{◌≡◌, refl, sym, ap, ◌∙◌}
use mathlib.Core.Bool.{Bool, ◌&&◌, and-true, and_assoc}
use mathlib.Core.List.{List, [], ◌++◌, append_assoc, append-nil}
use native.Mathlib.Omega.{arith}
use lib.ListN.{length, length-append}
use Rattle.std.specs.Prelude.{Option, Some, None}
use Rattle.amplitude.proofs.Equal.{both}
use Rattle.automata.specs.Sets.{LF}
use Rattle.stored.specs.Rules.{passes}
use Rattle.gates.specs.Refuse.{leaf_fits}
use Rattle.tables.specs.Table.{lf_rows}
use Rattle.endrow.specs.declared.NewLeaves.{NewLeaves}
use Rattle.endrow.proofs.Passing.{passes_append}
use Rattle.endrow.specs.Ended.{LentIn, EndedIn}
use Rattle.endrow.proofs.Putting.{ended-some}

-- ---- steps
-- nothing to add
pub end_none : {v : NewLeaves} → LentIn v → EndedIn v [] v (Some tt)
end_none {v} l =
    ended-some (record { lent = l; many = omega arith; fitting = sym (and-true v.done.fits); are = λ f. sym (append-nil _) }) refl refl refl refl refl refl refl

-- one step and then another
pub end-both : {v w x : NewLeaves} {E F : List LF} {r : Option Unit} → EndedIn v E w (Some tt) → EndedIn w F x r → EndedIn v (E ++ F) x r
end-both {v} {w} {x} {E} {F} {r} h k = record {
  added = λ s.
      (let a = h.added refl in
      let b = k.added s in
      record {
        lent = rw h.same_most at b.lent;
        many = omega (arith, a.many, b.many, length-append E F);
        fitting = b.fitting ∙ ap (λ (t : Bool). t && passes leaf_fits F) a.fitting ∙ and_assoc v.done.fits (passes leaf_fits E) (passes leaf_fits F)
            ∙ ap (λ (t : Bool). v.done.fits && t) (sym (passes_append leaf_fits E F));
        are = λ f. b.are f ∙ ap (λ (l : List LF). l ++ F) (a.are (both w.done.fits (passes leaf_fits F) (sym b.fitting ∙ f)).0)
            ∙ append_assoc (lf_rows v.rows.now v.masks.now v.coefs.now 0 v.done.rows) E F;
      });
  over = λ e. (let a = h.added refl in omega (arith, a.many, k.over e, h.same_most, length-append E F));
  rows_long = k.rows_long ∙ h.rows_long;
  masks_long = k.masks_long ∙ h.masks_long;
  coefs_long = k.coefs_long ∙ h.coefs_long;
  rows_same = k.rows_same ∙ h.rows_same;
  masks_same = k.masks_same ∙ h.masks_same;
  coefs_same = k.coefs_same ∙ h.coefs_same;
  same_most = k.same_most ∙ h.same_most;
}

-- on the way: of the records E the step has added a part, and the rest is to come
pub record OnTheWay (v : NewLeaves) (E rest : List LF) (w : NewLeaves) : Type 0 where
  pub part : List LF
  pub whole : part ++ rest ≡ E
  pub ended : EndedIn v part w (Some tt)

-- what is there on the way is such
pub way_lent : {v w : NewLeaves} {E rest : List LF} → OnTheWay v E rest w → LentIn w
way_lent {w = w} o = let a = o.ended.added refl in rw (← o.ended.same_most) at a.lent

module _ {v : NewLeaves} {E : List LF} where
  pub way_begin : LentIn v → OnTheWay v E E v
  way_begin l = record { part = []; whole = refl; ended = end_none l }

  pub way_on : {F rest : List LF} {w x : NewLeaves} → OnTheWay v E (F ++ rest) w → EndedIn w F x (Some tt) → OnTheWay v E rest x
  way_on {F} {rest} o k = record { part = o.part ++ F; whole = append_assoc o.part F rest ∙ o.whole; ended = end-both o.ended k }

  -- there are too many
  pub way_over : {F : List LF} (rest : List LF) {w x : NewLeaves} → OnTheWay v E (F ++ rest) w → EndedIn w F x None → EndedIn v E x None
  way_over {F} rest o k =
      let over = end-both o.ended k in
      record {
        added = λ s. cc;
        over = λ e. omega (arith, over.over refl, length-append o.part F, length-append o.part (F ++ rest), length-append F rest, ap length o.whole);
        rows_long = over.rows_long;
        masks_long = over.masks_long;
        coefs_long = over.coefs_long;
        rows_same = over.rows_same;
        masks_same = over.masks_same;
        coefs_same = over.coefs_same;
        same_most = over.same_most;
      }

  -- nothing is left
  pub way_end : {w : NewLeaves} → OnTheWay v E [] w → EndedIn v E w (Some tt)
  way_end o = rw (← o.whole, append-nil) o.ended
