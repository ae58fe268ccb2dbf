-- Rules 8 and 9 of a record speak of n, of levels and of the record's own fields alone. Assumes nothing.
use mathlib.Core.Path.{◌≡◌, refl, sym}
use mathlib.Core.Bool.{◌&&◌, not}
use mathlib.Core.List.{List}
use Prim.Native.Nat.{ℕ, ◌+◌}
use native.Mathlib.Numerals.{add-one}
use native.Mathlib.Omega.{arith}
use lib.Dec.{eqb}
use borrow.Author.Tests.{ne_eqb}
use Rattle.std.specs.Prelude.{Option, unwrap_or}
use Rattle.std.specs.Option.{option_eq}
use Rattle.std.specs.declared.option.Option.TheVariants.{Some, None}
use Rattle.amplitude.specs.Amp.{in_range_a}
use Rattle.stored.specs.Form.{set_of}
use Rattle.stored.specs.Rules.{level_of, tr_fault, lf_ok}
use Rattle.records.specs.declared.Tr.{Tr}
use Rattle.records.specs.declared.Lf.{Lf}
use Rattle.records.specs.Read.{tr_of, amp_of, lf_of}
use Rattle.levels.specs.Levelled.{Levelled}
use Rattle.faults.specs.Fault.{fault_of}

module _ (s : List ℕ) (n : ℕ) (h : Levelled s n) where
  n-is : (set_of s).n ≡ n
  unfolding set_of
  n-is = sym h.is

  pub fault_is : (t : Tr) → fault_of n (level_of (set_of s) t.state) (level_of (set_of s) t.left) (level_of (set_of s) t.right) t.mask ≡ tr_fault (set_of s) (tr_of t)
  unfolding tr_fault
  fault_is t = rw n-is

  pub ok-is : (k : ℕ) (l : Lf) → eqb (level_of (set_of s) l.state) (n + 1) && (not (eqb l.mask 0) && in_range_a (amp_of l)) ≡ lf_ok (set_of s) (lf_of k l)
  unfolding lf_ok
  ok-is k l = rw (n-is, add-one)

-- a level is n + 1, for a state that may be on none
pub last-is : (n : ℕ) (own : Option ℕ) → option_eq eqb own (Some (n + 1)) ≡ eqb (unwrap_or own (n + 2)) (n + 1)
last-is n (Some level) = refl
last-is n None = sym (ne_eqb (n + 2) (n + 1) (λ z. omega arith))
