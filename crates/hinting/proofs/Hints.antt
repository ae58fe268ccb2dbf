-- A pair that matches has rows whose leaves are equal or whose children are marked, so that a scan of the rows finds it. Assumes nothing.
use mathlib.Core.Path.{◌≡◌, refl, sym, ap, ap₂, ◌∙◌, subst}
use mathlib.Core.Bool.{Bool, true, false, ◌&&◌, false≢true}
use mathlib.Core.List.{List}
use mathlib.Core.Option.{Option, none, some}
use Prim.Native.Nat.{ℕ, ◌+◌, ◌-◌, ◌<◌, ◌≤◌}
use native.Mathlib.Omega.{arith}
use lib.IntN.{ℤ}
use lib.ListN.{get_or}
use lib.Dec.{eqb}
use borrow.Author.Tests.{eqb-true, eqb-false}
use Rattle.amplitude.specs.Leaf.{Leaf, same}
use Rattle.amplitude.proofs.Equal.{both}
use Rattle.automata.specs.Choice.{map_o, choose}
use Rattle.verdict.specs.Search.{same_leaves}
use Rattle.lookup.specs.Lookup.{transition_row, pair_row, leaf_of}
use Rattle.lookup.specs.Alts.{alts_from, leaf_alts, ends_in}
use Rattle.lookup.proofs.Finding.{scan_hits}
use Rattle.std.proofs.Common.{Bor}
use Rattle.meeting.specs.Met.{is_met, There}
use Rattle.meeting.specs.Where.{MetWhere}
use Rattle.stepping.specs.Step.{move_in, kids}
use Rattle.stepping.proofs.Answers.{choose-rows}
use Rattle.meeting.specs.declared.Level.{Level}
use Rattle.hinting.specs.Hint.{both_marked, EndFits, KidsMay, LeafHint, KidsHint, Hint, PairReady, RowReady, Hinted}

pub true_unless : (b : Bool) → (b ≡ false → ⊥) → b ≡ true
true_unless true h = refl
true_unless false h = absurd (h refl)

-- ---- the row of the end state that a choice takes
pub record Row {X : Type 0} (f : ℕ → X) (first : List ℕ) (e : ℕ) (x : X) : Type 0 where
  pub row : ℕ
  pub after : get_or first e 0 ≤ row
  pub before : row < get_or first (e + 1) 0
  pub is : f row ≡ x

row-taken : {X : Type 0} (f : ℕ → X) (masks first : List ℕ) (e d : ℕ) (x : X) → map_o f (transition_row masks first e d) ≡ some x → Row f first e x
row-taken {X} f masks first e d x h = go (transition_row masks first e d) refl h
  where
    go : (o : Option ℕ) → transition_row masks first e d ≡ o → map_o f o ≡ some x → Row f first e x
    go none g k = let z : ◌≡◌ {A = ℕ} 0 1 = cc in absurd (omega arith)
    go (some j) g k =
        let hit = scan_hits masks d (get_or first e 0) (get_or first (e + 1) 0 - get_or first e 0) j g in
        record { row = j; after = hit.after; before = omega (arith, hit.after, hit.before); is = cc }

pub leaf-taken : (rows masks : List ℕ) (coefs : List ℤ) (first : List ℕ) (e d : ℕ) (x : Leaf) → choose d (ends_in rows masks coefs first e) ≡ some x → Row (leaf_of rows coefs) first e x
unfolding leaf_alts
leaf-taken rows masks coefs first e d x h =
    row-taken (leaf_of rows coefs) masks first e d x (sym (choose-rows (leaf_of rows coefs) masks d (get_or first e 0) (get_or first (e + 1) 0 - get_or first e 0)) ∙ h)

pub kids-taken : (rows masks first : List ℕ) (e d : ℕ) (x : ℕ × ℕ) → move_in rows masks first d e ≡ some x → Row (pair_row rows) first e x
unfolding alts_from
kids-taken rows masks first e d x h =
    row-taken (pair_row rows) masks first e d x (sym (choose-rows (pair_row rows) masks d (get_or first e 0) (get_or first (e + 1) 0 - get_or first e 0)) ∙ h)

-- ---- the image state's row is row i
module _ (rows masks : List ℕ) (coefs : List ℤ) (first end_rows end_masks : List ℕ) (end_coefs : List ℤ) (end_first : List ℕ) (c s e i : ℕ) where
  pub leaf-fits : choose c (ends_in rows masks coefs first s) ≡ some (leaf_of rows coefs i) → LeafHint rows masks coefs first end_rows end_masks end_coefs end_first c s e
      → EndFits rows coefs end_rows end_coefs i (get_or end_first e 0) (get_or end_first (e + 1) 0)
  leaf-fits r h = go (choose h.choice (ends_in end_rows end_masks end_coefs end_first e)) refl (sym (ap (λ (o : Option Leaf). same_leaves o (choose h.choice (ends_in end_rows end_masks end_coefs end_first e))) r) ∙ h.fits)
    where
      go : (o : Option Leaf) → choose h.choice (ends_in end_rows end_masks end_coefs end_first e) ≡ o → same_leaves (some (leaf_of rows coefs i)) o ≡ true
          → EndFits rows coefs end_rows end_coefs i (get_or end_first e 0) (get_or end_first (e + 1) 0)
      go none g k = absurd (false≢true k)
      go (some y) g k =
          let t = leaf-taken end_rows end_masks end_coefs end_first e h.choice y g in
          record { row = t.row; after = t.after; before = t.before; fits = ap (same (leaf_of rows coefs i)) t.is ∙ k }

  pub kids-fit : (wide : ℕ) (may : List ℕ) → move_in rows masks first c s ≡ some (pair_row rows i) → KidsHint rows masks first end_rows end_masks end_first c wide may s e
      → KidsMay rows end_rows wide may i (get_or end_first e 0) (get_or end_first (e + 1) 0)
  kids-fit wide may r h = go (move_in end_rows end_masks end_first h.choice e) refl (sym (ap (λ (o : Option (ℕ × ℕ)). kids h.test o (move_in end_rows end_masks end_first h.choice e)) r) ∙ h.fits)
    where
      go : (o : Option (ℕ × ℕ)) → move_in end_rows end_masks end_first h.choice e ≡ o → kids h.test (some (pair_row rows i)) o ≡ true
          → KidsMay rows end_rows wide may i (get_or end_first e 0) (get_or end_first (e + 1) 0)
      go none g k = absurd (false≢true k)
      go (some y) g k =
          let t = kids-taken end_rows end_masks end_first e h.choice y g in
          let b = both (h.test (pair_row rows i).0 y.0) (h.test (pair_row rows i).1 y.1) k in
          record {
            row = t.row;
            after = t.after;
            before = t.before;
            marked =
                ap (λ (q : ℕ × ℕ). both_marked wide may (pair_row rows i) q) t.is
                ∙ ap₂ ◌&&◌ (h.marked (pair_row rows i).0 y.0 b.0) (h.marked (pair_row rows i).1 y.1 b.1);
          }

  -- a state without the choice matches none
  pub no_leaf_hint : choose c (ends_in rows masks coefs first s) ≡ none → LeafHint rows masks coefs first end_rows end_masks end_coefs end_first c s e → ⊥
  no_leaf_hint r h = false≢true (sym (ap (λ (o : Option Leaf). same_leaves o (choose h.choice (ends_in end_rows end_masks end_coefs end_first e))) r) ∙ h.fits)

  pub no_kids_hint : (wide : ℕ) (may : List ℕ) → move_in rows masks first c s ≡ none → KidsHint rows masks first end_rows end_masks end_first c wide may s e → ⊥
  no_kids_hint wide may r h = false≢true (sym (ap (λ (o : Option (ℕ × ℕ)). kids h.test o (move_in end_rows end_masks end_first h.choice e)) r) ∙ h.fits)

  -- what could match with fewer marks could with more
  pub hint_grows : (last : Bool) (wide : ℕ) (may may' : List ℕ) → ((q f : ℕ) → is_met wide may q f ≡ true → is_met wide may' q f ≡ true)
      → Hint last rows masks coefs first end_rows end_masks end_coefs end_first c wide may s e → Hint last rows masks coefs first end_rows end_masks end_coefs end_first c wide may' s e
  hint_grows true wide may may' g h = h
  hint_grows false wide may may' g h = record { choice = h.choice; test = h.test; marked = λ q f k. g q f (h.marked q f k); fits = h.fits }

-- ---- marked by a test of each pair
pub hinted : (last : Bool) (rows masks : List ℕ) (coefs : List ℤ) (first end_rows end_masks : List ℕ) (end_coefs : List ℤ) (end_first : List ℕ) (c wide : ℕ) (post : Bor (List ℕ) → ℕ → ℕ → Bool → Type 0) {may may' : List ℕ} {l : Level}
    → MetWhere post wide may l may' → ((p : Bor (List ℕ)) (s e : ℕ) → post p s e false → Hint last rows masks coefs first end_rows end_masks end_coefs end_first c wide p.now s e → ⊥)
    → Hinted last rows masks coefs first end_rows end_masks end_coefs end_first c wide may l may'
hinted last rows masks coefs first end_rows end_masks end_coefs end_first c wide post {may} {may'} {l} w sound = record {
  grows = w.grows.each;
  each = λ s e lo hi lo' hi' h. true_unless (is_met wide may' s e) (λ un.
      let r = w.each s e lo hi lo' hi' un in
      sound r.marks s e r.said (hint_grows rows masks coefs first end_rows end_masks end_coefs end_first c s e 0 last wide may r.marks.now r.grown.each h));
}

-- ---- what is asked stays asked in a row of marks as long
module _ {last : Bool} {rows masks : List ℕ} {coefs : List ℤ} {first end_rows end_masks : List ℕ} {end_coefs : List ℤ} {end_first : List ℕ} {wide size size' : ℕ} (same_size : size' ≡ size) where
  pub pair-again : {s e : ℕ} → PairReady last rows masks coefs first end_rows end_masks end_coefs end_first wide size s e → PairReady last rows masks coefs first end_rows end_masks end_coefs end_first wide size' s e
  pair-again p = rw same_size p

  pub row-again : {s start stop : ℕ} → RowReady last rows masks coefs first end_rows end_masks end_coefs end_first wide size s start stop → RowReady last rows masks coefs first end_rows end_masks end_coefs end_first wide size' s start stop
  row-again p = rw same_size p

pub there-again : {wide size size' s e : ℕ} → size' ≡ size → There wide size s e → There wide size' s e
there-again k p = rw k p
