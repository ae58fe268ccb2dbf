-- A record written behind the others is read back, and the others stay, since each has a row of coefficients of its own. Assumes nothing.
use mathlib.Core.Path.{◌≡◌, refl, sym, ap, ap₂, ◌∙◌}
use mathlib.Core.Bool.{Bool, true, ◌&&◌, false≢true}
use mathlib.Core.List.{List, [], ◌∷◌, ◌++◌}
use Prim.Native.Nat.{ℕ, ◌+◌, ◌*◌, ◌<◌}
use native.Mathlib.Omega.{arith}
use lib.IntN.{ℤ}
use lib.ListN.{length, get_or}
use borrow.Author.Count.{below_more}
use Rattle.std.specs.Prelude.{Option, Some, None, is_some, IfSome}
use Rattle.amplitude.specs.Amp.{Amp}
use Rattle.amplitude.specs.Leaf.{Leaf, leaf}
use Rattle.amplitude.proofs.Equal.{both}
use Rattle.automata.specs.Sets.{rec, tr, TR, LF}
use Rattle.stored.specs.Fields.{records_from}
use Rattle.gates.specs.Refuse.{leaf_fits}
use Rattle.tables.specs.Table.{row_width, tr_row, leaf_row, lf_row, lf_rows}
use Rattle.tables.specs.Unpack.{Put}
use Rattle.tables.proofs.Listed.{same-records, records_append}
use Rattle.tables.proofs.TableLaws.{map_rec, named, leaf-row}
use Rattle.leafrows.specs.declared.Amplitude.{Amplitude}
use Rattle.leafrows.specs.Value.{amp_is, Tested}
use Rattle.leafrows.specs.Row.{row_set}
use Rattle.leafrows.proofs.Rows.{set_here, set_other}
use Rattle.endrow.specs.declared.Ending.{Ending}
use Rattle.endrow.specs.declared.NewLeaves.{NewLeaves}
use Rattle.endrow.specs.Ended.{Lent, Added, EndedIn}
use Rattle.endrow.proofs.Passing.{passes-one}

-- a step that added its records
pub ended-some : {v w : NewLeaves} {E : List LF} → Added v.rows.now v.masks.now v.coefs.now v.done v.most E w.rows.now w.masks.now w.coefs.now w.done
    → length w.rows.now ≡ length v.rows.now → length w.masks.now ≡ length v.masks.now → length w.coefs.now ≡ length v.coefs.now
    → w.rows.ghost_name ≡ v.rows.ghost_name → w.masks.ghost_name ≡ v.masks.ghost_name → w.coefs.ghost_name ≡ v.coefs.ghost_name → w.most ≡ v.most → EndedIn v E w (Some tt)
ended-some h rl ml cl rs ms cs m = record { added = λ s. h; over = λ e. cc; rows_long = rl; masks_long = ml; coefs_long = cl; rows_same = rs; masks_same = ms; coefs_same = cs; same_most = m }

left_in : TR → ℕ
left_in (rec s m p) = p.0

module _ {rows masks : List ℕ} {coefs : List ℤ} {most : ℕ} {done : Ending} (l : Lent rows masks coefs most done) where
  module _ {rows' masks' : List ℕ} {coefs' : List ℤ} {state mask k : ℕ} (x : Option Amplitude) (more : done.rows ≡ most → ⊥)
      (put : Put rows masks rows' masks' done.rows (tr state mask done.rows k)) (set : (s : Amplitude) → x ≡ Some s → coefs' ≡ row_set coefs done.rows (amp_is s))
      (rl : length rows' ≡ length rows) (ml : length masks' ≡ length masks) (cl : length coefs' ≡ length coefs) where
    below : done.rows < most
    below = omega (arith, l.within)

    old_named : (i : ℕ) → i < done.rows → get_or rows' (i * row_width + 1) 0 ≡ i
    unfolding left_in tr_row
    old_named i h = ap left_in (put.others i (λ e. omega arith)) ∙ l.named i h

    new_named : get_or rows' (done.rows * row_width + 1) 0 ≡ done.rows
    unfolding left_in tr_row
    new_named = ap left_in put.here

    -- where an amplitude was stored
    module _ (s : Amplitude) (is : x ≡ Some s) where
      old_row : (i : ℕ) → i < done.rows → lf_row rows' masks' coefs' i ≡ lf_row rows masks coefs i
      unfolding tr_row
      old_row i h =
          leaf-row rows' masks' coefs' i
          ∙ ap (map_rec (named coefs')) (put.others i (λ e. omega arith))
          ∙ ap (λ (y : Leaf). rec (get_or rows (i * row_width) 0) (get_or masks i 0) y)
          (ap (λ (cs : List ℤ). leaf_row cs (get_or rows (i * row_width + 1) 0) (get_or rows (i * row_width + 2) 0)) (set s is)
          ∙ set_other coefs done.rows (amp_is s) (get_or rows (i * row_width + 1) 0) (get_or rows (i * row_width + 2) 0) (λ e. omega (arith, l.named i h)))
          ∙ sym (leaf-row rows masks coefs i)

      new_row : lf_row rows' masks' coefs' done.rows ≡ rec state mask (leaf k (amp_is s))
      new_row =
          leaf-row rows' masks' coefs' done.rows
          ∙ ap (map_rec (named coefs')) put.here
          ∙ ap (rec state mask)
          (ap (λ (cs : List ℤ). leaf_row cs done.rows k) (set s is) ∙ set_here coefs done.rows (amp_is s) k (omega (arith, l.deep, below)))

      rows_are : lf_rows rows' masks' coefs' 0 (done.rows + 1) ≡ lf_rows rows masks coefs 0 done.rows ++ (rec state mask (leaf k (amp_is s)) ∷ [])
      unfolding lf_rows records_from
      rows_are =
          let z : 0 + done.rows ≡ done.rows = omega arith in
          sym (records_append (lf_row rows' masks' coefs') 0 1 done.rows)
          ∙ ap₂ (λ (us vs : List LF). us ++ vs)
          (same-records (lf_row rows' masks' coefs') (lf_row rows masks coefs) 0 0 1 1 done.rows (λ i h. old_row _ (omega arith)))
          (ap (λ (y : LF). y ∷ []) (ap (lf_row rows' masks' coefs') z ∙ new_row))

    abbrev now_at : Ending
    now_at = record { rows = done.rows + 1; fits = done.fits && is_some x }

    pub put-more : (y : Amp) → Tested y x → Added rows masks coefs done most (rec state mask (leaf k y) ∷ []) rows' masks' coefs' now_at
    put-more y t =
        record {
          lent = record {
            wide = omega (arith, l.wide);
            long = omega (arith, l.long);
            deep = omega (arith, l.deep, cl);
            within = omega (arith, below);
            named = below_more (λ (i : ℕ). get_or rows' (i * row_width + 1) 0 ≡ i) done.rows old_named new_named;
          };
          many = refl;
          fitting = ap (λ (b : Bool). done.fits && b) (t.told ∙ sym (passes-one leaf_fits (rec state mask (leaf k y))));
          are = λ f. stored (both done.fits (is_some x) f).1;
        }
      where
        stored : is_some x ≡ true → lf_rows rows' masks' coefs' 0 (done.rows + 1) ≡ lf_rows rows masks coefs 0 done.rows ++ (rec state mask (leaf k y) ∷ [])
        stored some = go x refl some t.is
          where
            go : (o : Option Amplitude) → x ≡ o → is_some o ≡ true → IfSome o (λ (s : Amplitude). amp_is s ≡ y)
                → lf_rows rows' masks' coefs' 0 (done.rows + 1) ≡ lf_rows rows masks coefs 0 done.rows ++ (rec state mask (leaf k y) ∷ [])
            go None e h is = absurd (false≢true h)
            go (Some s) e h is = rows_are s e ∙ ap (λ (z : Amp). lf_rows rows masks coefs 0 done.rows ++ (rec state mask (leaf k z) ∷ [])) is
