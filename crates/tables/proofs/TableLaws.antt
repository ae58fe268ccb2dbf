-- A table's rows, read one by one: a leaf's row is a row whose two last numbers say where its amplitude stands, and a row's state is that of its
-- record. Assumes nothing.
use mathlib.Core.Path.{◌≡◌, refl, sym, ap, ap₂, ◌∙◌}
use mathlib.Core.List.{List, ◌++◌}
use Prim.Native.Nat.{ℕ, ◌+◌, ◌*◌, ◌<◌}
use native.Mathlib.Omega.{arith}
use lib.IntN.{ℤ}
use lib.ListN.{get_or}
use Rattle.amplitude.specs.Leaf.{Leaf}
use Rattle.automata.specs.Sets.{Rec, rec, QSet}
use Rattle.stored.specs.Fields.{records_from}
use Rattle.tables.specs.Table.{tr_row, leaf_row, lf_row, tr_rows, lf_rows, table_set}
use Rattle.tables.specs.States.{state_in, states_of, state_at, state_row, Rising}
use Rattle.tables.proofs.Listed.{record_at, records_append, map-records}

abbrev pub map_rec : {X Y : Type 0} → (X → Y) → Rec X → Rec Y
map_rec f (rec s m x) = rec s m (f x)

-- the amplitude that a leaf's row names
abbrev pub named : List ℤ → ℕ × ℕ → Leaf
named coefs p = leaf_row coefs p.0 p.1

pub leaf-row : (rows masks : List ℕ) (coefs : List ℤ) (i : ℕ) → lf_row rows masks coefs i ≡ map_rec (named coefs) (tr_row rows masks i)
unfolding lf_row tr_row
leaf-row rows masks coefs i = refl

module _ (n k : ℕ) (rows masks : List ℕ) (coefs : List ℤ) (counts : List ℕ) (inner leaves : ℕ) where
  states-are : states_of (table_set n k rows masks coefs counts inner leaves) ≡ records_from (state_row rows) 0 1 (inner + leaves)
  unfolding table_set tr_rows lf_rows tr_row lf_row
  states-are =
      let e : inner ≡ 0 + inner = omega arith in
      ap₂ (λ (xs ys : List ℕ). xs ++ ys) (map-records state_in (tr_row rows masks) 0 1 inner) (map-records state_in (lf_row rows masks coefs) inner 1 leaves)
      ∙ ap (λ (i : ℕ). records_from (state_row rows) 0 1 inner ++ records_from (state_row rows) i 1 leaves) e
      ∙ records_append (state_row rows) 0 leaves inner

  row_state : (i : ℕ) → i < inner + leaves → state_at (table_set n k rows masks coefs counts inner leaves) i ≡ state_row rows i
  row_state i h =
      let e : 0 + i * 1 ≡ i = omega arith in
      ap (λ (xs : List ℕ). get_or xs i 0) states-are ∙ record_at (state_row rows) 0 1 (inner + leaves) i 0 h ∙ ap (state_row rows) e

  -- the rows' states do not fall, where those of the records do not
  pub row-states-rise : {Q : QSet} → table_set n k rows masks coefs counts inner leaves ≡ Q → Rising (state_at Q) (inner + leaves) → Rising (state_row rows) (inner + leaves)
  row-states-rise {Q} e r =
      let state : (i : ℕ) → i < inner + leaves → state_at Q i ≡ state_row rows i = (λ i lt. ap (λ (T : QSet). state_at T i) (sym e) ∙ row_state i lt) in
      record { rises = λ i j le lt. omega (arith, r.rises i j le lt, state i (omega arith), state j lt) }
