-- The record of a number stands so many records on. Assumes nothing.
use mathlib.Core.Path.{◌≡◌, ap, ◌∙◌}
use Prim.Native.Nat.{ℕ, zero, suc, ◌+◌, ◌*◌, ◌<◌}
use native.Mathlib.Nat.{suc-mul}
use native.Mathlib.Omega.{arith}
use lib.ListN.{get_or}
use Rattle.stored.specs.Fields.{records_from}

module _ {X : Type 0} (read : ℕ → X) (size : ℕ) where
  pub record_at : (at count i : ℕ) (d : X) → i < count → get_or (records_from read at size count) i d ≡ read (at + i * size)
  unfolding records_from
  record_at at zero i d h = absurd (omega arith)
  record_at at (suc count) zero d h = ap read (omega arith)
  record_at at (suc count) (suc i) d h =
      let far : at + size + i * size ≡ at + suc i * size = (let e = suc-mul i size in omega arith) in
      record_at (at + size) count i d (omega arith) ∙ ap read far
