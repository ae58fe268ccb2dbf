-- What slices say of the set in them, and that a well-formed set which slices with room for it hold stands in them. Assumes nothing.
use mathlib.Core.Path.{◌≡◌, refl, sym, ap, subst}
use mathlib.Core.List.{List}
use Prim.Native.Nat.{ℕ}
use lib.IntN.{ℤ}
use lib.ListN.{length}
use Rattle.automata.specs.Sets.{QSet, sum}
use Rattle.stored.specs.Rules.{Bounds}
use Rattle.stored.proofs.WellFormed.{WellFormed}
use Rattle.stored.proofs.Reading.{records-count}
use Rattle.setfile.specs.declared.Form.{Form}
use Rattle.tables.specs.Table.{tr_row, lf_row, tr_rows, lf_rows, table_set}
use Rattle.tables.specs.Ready.{Roomy, Unpacked}
use Rattle.standing.specs.Standing.{set_in, Holding}

-- the set's numbers are those that the code says of it
module _ (f : Form) (rows masks : List ℕ) (coefs : List ℤ) (counts : List ℕ) where
  pub set-n : (set_in f rows masks coefs counts).n ≡ f.n
  unfolding table_set
  set-n = refl

  pub set-k : (set_in f rows masks coefs counts).k ≡ f.k
  unfolding table_set
  set-k = refl

  pub set-inner : length (set_in f rows masks coefs counts).inner ≡ f.inner
  unfolding table_set tr_rows
  set-inner = records-count (tr_row rows masks) 0 1 f.inner

  pub set-leaves : length (set_in f rows masks coefs counts).leaves ≡ f.leaves
  unfolding table_set lf_rows
  set-leaves = records-count (lf_row rows masks coefs) f.inner 1 f.leaves

pub holding : {rows masks : List ℕ} {coefs : List ℤ} {counts first : List ℕ} {Q : QSet} {b : Bounds} → WellFormed b Q → Unpacked rows masks coefs counts first Q
    → Roomy rows masks coefs counts first Q.n (sum Q.counts) (length Q.inner) (length Q.leaves) → Holding rows masks coefs counts first Q b
holding {rows} {masks} {coefs} {counts} {first} {Q} {b} w u r =
    let is = u.holds.is in
    record {
      stands =
          record {
            formed = subst (WellFormed b) (sym is) w;
            unpacked = subst (Unpacked rows masks coefs counts first) (sym is) u;
            roomy = r;
            all = ap (λ (N : QSet). sum N.counts) (sym is);
          };
      is = is;
    }
