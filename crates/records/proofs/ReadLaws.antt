-- The code's records are the definitions', since both read the same fields at the same places. Assumes nothing.
use mathlib.Core.Path.{◌≡◌, refl}
use mathlib.Core.List.{List}
use Prim.Native.Nat.{ℕ}
use Rattle.stored.specs.Form.{tr_at, lf_at}
use Rattle.records.specs.Read.{tr_of, lf_of, tr_read, lf_read}

pub tr_read_lem : (s : List ℕ) (at : ℕ) → tr_of (tr_read s at) ≡ tr_at s at
unfolding tr_read tr_at
tr_read_lem s at = refl

pub lf_read_lem : (k : ℕ) (s : List ℕ) (at : ℕ) → lf_of k (lf_read s at) ≡ lf_at k s at
unfolding lf_read lf_at
lf_read_lem k s at = refl
