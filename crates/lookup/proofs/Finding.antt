-- In slices that hold a well-formed set a lookup finds exactly what the definitions say: its rows are ordered by state, so the rows between two
-- beginnings are those of one state; a state is on one level, so it has TR records only or LF records only. Assumes nothing.
use mathlib.Core.Path.{◌≡◌, refl, sym, ap, ap₂, ◌∙◌}
use mathlib.Core.Bool.{Bool, true, false, cond}
use mathlib.Core.List.{List, [], ◌∷◌, ◌++◌, map, append-nil}
use mathlib.Core.Option.{Option, none, some}
use Prim.Native.Nat.{ℕ, zero, suc, ◌+◌, ◌-◌, ◌<◌, ◌≤◌}
use native.Mathlib.Omega.{arith}
use lib.IntN.{ℤ}
use lib.ListN.{length, get_or}
use Rattle.automata.specs.Choice.{has, Alt, alt, map_o, choose, map_alt}
use Rattle.automata.specs.Sets.{rec, TR, LF, QSet, sum, own}
use Rattle.automata.proofs.Choosing.{choose-map}
use Rattle.automata.proofs.Lists.{each_map}
use Rattle.stored.specs.Rules.{Bounds, level_of}
use Rattle.stored.proofs.WellFormed.{WellFormed, FineTR, FineLF, trs_fine, lfs_fine, state_small}
use Rattle.tables.specs.Table.{tr_row, lf_row, tr_rows, lf_rows, rows_below, table_set, Holds}
use Rattle.tables.specs.States.{state_in, state_at, state_row, Rising}
use Rattle.tables.proofs.Beginnings.{below_splits}
use Rattle.tables.proofs.Listed.{same-records, records_append, map-records}
use Rattle.tables.proofs.Ordered.{formed-rises}
use Rattle.tables.proofs.TableLaws.{map_rec, named, leaf-row, row-states-rise}
use Rattle.lookup.specs.Lookup.{row_with, transition_row, choices_of, pair_row, leaf_of, is_some}
use Rattle.lookup.proofs.OwnRows.{own_append, own-none, own-map, choose-rows}
use Rattle.lookup.proofs.Unions.{union-has, some-map}

-- ---- alternatives and answers through a map
pub none_mapped : {X Y : Type 0} (f : X → Y) (us : List (Alt X)) → map_alt f us ≡ [] → us ≡ []
none_mapped f [] e = refl
none_mapped f (alt m x ∷ us) e = let z : ◌≡◌ {A = ℕ} 0 1 = cc in absurd (omega arith)

map_twice : {X Y Z : Type 0} (f : Y → Z) (g : X → Y) (o : Option X) → map_o f (map_o g o) ≡ map_o (λ (x : X). f (g x)) o
map_twice f g none = refl
map_twice f g (some x) = refl

-- ---- a row that a scan finds
pub record Hit (masks : List ℕ) (c from count i : ℕ) : Type 0 where
  pub after : from ≤ i
  pub before : i < from + count
  pub having : has (get_or masks i 0) c ≡ true

pub scan_hits : (masks : List ℕ) (c from count i : ℕ) → row_with masks c from count ≡ some i → Hit masks c from count i
unfolding row_with
scan_hits masks c from zero i e = let z : ◌≡◌ {A = ℕ} 0 1 = cc in absurd (omega arith)
scan_hits masks c from (suc count) i e = go (has (get_or masks from 0) c) refl e (scan_hits masks c (suc from) count i)
  where
    go : (b : Bool) → has (get_or masks from 0) c ≡ b → cond b (some from) (row_with masks c (suc from) count) ≡ some i
        → (row_with masks c (suc from) count ≡ some i → Hit masks c (suc from) count i) → Hit masks c from (suc count) i
    go true h k ih = let same : from ≡ i = cc in record { after = omega arith; before = omega arith; having = ap (λ (j : ℕ). has (get_or masks j 0) c) (sym same) ∙ h }
    go false h k ih = let r = ih k in record { after = omega (arith, r.after); before = omega (arith, r.before); having = r.having }

-- a row of the table, of state s, whose mask has the choice c
pub record RowOf (rows masks : List ℕ) (total s c i : ℕ) : Type 0 where
  pub within : i < total
  pub state : state_row rows i ≡ s
  pub having : has (get_or masks i 0) c ≡ true

-- ---- slices that hold a set whose records stand by state
module _ {rows masks : List ℕ} {coefs : List ℤ} {counts first : List ℕ} {Q : QSet} (h : Holds rows masks coefs counts first Q)
    (r : Rising (state_at Q) (length Q.inner + length Q.leaves)) (s : ℕ) (there : s < sum Q.counts) where
  abbrev pub total : ℕ
  total = length Q.inner + length Q.leaves

  pub rising : Rising (state_row rows) total
  rising = row-states-rise Q.n Q.k rows masks coefs counts (length Q.inner) (length Q.leaves) h.is r

  pub begin : get_or first s 0 ≡ rows_below rows s total
  begin = h.begins s (omega arith)

  pub end : get_or first (s + 1) 0 ≡ rows_below rows (s + 1) total
  end = h.begins (s + 1) (omega arith)

  -- the rows of the state are rows of the table
  pub rows-there : get_or first (s + 1) 0 ≤ total
  rows-there = omega (arith, end, (below_splits rows (s + 1) total rising).within)

  inner-are : Q.inner ≡ tr_rows rows masks 0 (length Q.inner)
  unfolding table_set
  inner-are = ap (λ (T : QSet). T.inner) (sym h.is)

  leaves-are : Q.leaves ≡ map (map_rec (named coefs)) (tr_rows rows masks (length Q.inner) (length Q.leaves))
  unfolding table_set tr_rows lf_rows
  leaves-are =
      ap (λ (T : QSet). T.leaves) (sym h.is)
      ∙ same-records (lf_row rows masks coefs) (λ (i : ℕ). map_rec (named coefs) (tr_row rows masks i)) (length Q.inner) (length Q.inner) 1 1 (length Q.leaves) (λ i lt. leaf-row rows masks coefs _)
      ∙ sym (map-records (map_rec (named coefs)) (tr_row rows masks) (length Q.inner) 1 (length Q.leaves))

  -- the rows of all LF records
  abbrev pub lower : List TR
  lower = tr_rows rows masks (length Q.inner) (length Q.leaves)

  -- the records of the state among all rows: its TR records, then the rows of its LF records
  pub own-all : own s (tr_rows rows masks 0 total) ≡ own s Q.inner ++ own s lower
  unfolding tr_rows
  own-all =
      let z : 0 + length Q.inner ≡ length Q.inner = omega arith in
      ap (own s) (sym (records_append (tr_row rows masks) 0 (length Q.leaves) (length Q.inner)))
      ∙ own_append s (tr_rows rows masks 0 (length Q.inner)) (tr_rows rows masks (0 + length Q.inner) (length Q.leaves))
      ∙ ap₂ (λ (ts us : List TR). own s ts ++ own s us) (sym inner-are) (ap (λ (i : ℕ). tr_rows rows masks i (length Q.leaves)) z)

  pub own-leaves : own s Q.leaves ≡ map_alt (named coefs) (own s lower)
  own-leaves = ap (own s) leaves-are ∙ own-map s (named coefs) lower

  module _ (c : ℕ) where
    choose-all : choose c (own s (tr_rows rows masks 0 total)) ≡ map_o (pair_row rows) (transition_row masks first s c)
    choose-all = choose-rows rows masks s c total rising ∙ ap₂ (λ (f g : ℕ). map_o (pair_row rows) (row_with masks c f (g - f))) (sym begin) (sym end)

    -- a state with no LF records
    pub inner-row : own s Q.leaves ≡ [] → choose c (own s Q.inner) ≡ map_o (pair_row rows) (transition_row masks first s c)
    inner-row e =
        let none-lower : own s lower ≡ [] = none_mapped (named coefs) (own s lower) (sym own-leaves ∙ e) in
        ap (choose c) (sym (own-all ∙ ap (λ (us : List (Alt (ℕ × ℕ))). own s Q.inner ++ us) none-lower ∙ append-nil (own s Q.inner))) ∙ choose-all

    -- a state with no TR records
    pub leaf-row_of : own s Q.inner ≡ [] → choose c (own s Q.leaves) ≡ map_o (leaf_of rows coefs) (transition_row masks first s c)
    leaf-row_of e =
        let all-lower : own s (tr_rows rows masks 0 total) ≡ own s lower = own-all ∙ ap (λ (us : List (Alt (ℕ × ℕ))). us ++ own s lower) e in
        ap (choose c) own-leaves
        ∙ choose-map (named coefs) c (own s lower)
        ∙ ap (map_o (named coefs)) (ap (choose c) (sym all-lower) ∙ choose-all)
        ∙ map_twice (named coefs) (pair_row rows) (transition_row masks first s c)

    pub row_of : (i : ℕ) → transition_row masks first s c ≡ some i → RowOf rows masks total s c i
    row_of i e =
        let t = scan_hits masks c (get_or first s 0) (get_or first (s + 1) 0 - get_or first s 0) i e in
        let after = t.after in
        let before = t.before in
        let all = rows-there in
        let low = (below_splits rows s total rising).high i (omega (arith, begin)) (omega arith) in
        let high = (below_splits rows (s + 1) total rising).low i (omega (arith, end)) in
        record { within = omega arith; state = omega arith; having = t.having }

-- ---- a well-formed set
module _ {b : Bounds} {Q : QSet} (w : WellFormed b Q) {rows masks : List ℕ} {coefs : List ℤ} {counts first : List ℕ} (h : Holds rows masks coefs counts first Q) (s c : ℕ) where
  pub no_leaf : level_of Q s ≤ Q.n → (l : LF) → FineLF Q l → state_in l ≡ s → ⊥
  no_leaf at (rec q m x) f e = omega (arith, f.state, ap (level_of Q) e)

  pub no_inner : level_of Q s ≡ suc Q.n → (t : TR) → FineTR Q t → state_in t ≡ s → ⊥
  no_inner at (rec q m p) f e = omega (arith, f.state, ap (level_of Q) e)

  -- a state of levels 1 to n: left and right of the row found, or nothing exactly if the state has no transition with the choice
  pub inner-found : level_of Q s ≤ Q.n → choose c (own s Q.inner) ≡ map_o (pair_row rows) (transition_row masks first s c)
  inner-found at =
      inner-row h (formed-rises b Q w) s (state_small b Q w s (omega arith)) c
      (own-none s Q.leaves (each_map (FineLF Q) (λ l. state_in l ≡ s → ⊥) (no_leaf at) Q.leaves (lfs_fine b Q w)))

  -- a state of level n+1: the amplitude of the row found, or nothing exactly if the state has none with the choice
  pub leaf-found : level_of Q s ≡ suc Q.n → choose c (own s Q.leaves) ≡ map_o (leaf_of rows coefs) (transition_row masks first s c)
  leaf-found at =
      leaf-row_of h (formed-rises b Q w) s (state_small b Q w s (omega arith)) c
      (own-none s Q.inner (each_map (FineTR Q) (λ t. state_in t ≡ s → ⊥) (no_inner at) Q.inner (trs_fine b Q w)))

  -- the choices collected are those with which the state has a transition
  choices-found : {X : Type 0} (f : ℕ → X) (o : Option X) → o ≡ map_o f (transition_row masks first s c) → has (choices_of masks first s) c ≡ is_some o
  choices-found f o e = union-has masks c (get_or first s 0) (get_or first (s + 1) 0 - get_or first s 0) ∙ sym (ap is_some e ∙ some-map f (transition_row masks first s c))

  pub inner-choices : level_of Q s ≤ Q.n → has (choices_of masks first s) c ≡ is_some (choose c (own s Q.inner))
  inner-choices at = choices-found (pair_row rows) (choose c (own s Q.inner)) (inner-found at)

  pub leaf-choices : level_of Q s ≡ suc Q.n → has (choices_of masks first s) c ≡ is_some (choose c (own s Q.leaves))
  leaf-choices at = choices-found (leaf_of rows coefs) (choose c (own s Q.leaves)) (leaf-found at)

  -- what a lookup asks, and where its answer stands: within the table
  pub state_rows-there : s < sum Q.counts → get_or first (s + 1) 0 ≤ length Q.inner + length Q.leaves
  state_rows-there lt = rows-there h (formed-rises b Q w) s lt

  pub row-found : s < sum Q.counts → (i : ℕ) → transition_row masks first s c ≡ some i → RowOf rows masks (length Q.inner + length Q.leaves) s c i
  row-found lt i e = row_of h (formed-rises b Q w) s lt c i e
