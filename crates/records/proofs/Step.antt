-- A run of records is its first one and the rest, `size` bytes further on: the turn that every loop over records takes. Assumes nothing.
use mathlib.Core.Path.{◌≡◌, ap, ◌∙◌}
use mathlib.Core.List.{[], ◌∷◌}
use Prim.Native.Nat.{ℕ, suc, ◌+◌, ◌-◌, ◌*◌, ◌≤◌}
use native.Mathlib.Nat.{suc-mul}
use native.Mathlib.Omega.{arith}
use Rattle.stored.specs.Fields.{records_from}

-- a number that is not 0 is one more than what is left
counted : (n : ℕ) → (n ≡ 0 → ⊥) → n ≡ suc (n - 1)
counted n h = omega arith

-- `count` records are one, and one fewer
pub times : (count size : ℕ) → (count ≡ 0 → ⊥) → count * size ≡ size + (count - 1) * size
times count size h = ap (λ (m : ℕ). m * size) (counted count h) ∙ suc-mul (count - 1) size ∙ omega arith

-- a scan that counts down: the records passed and what the rest comes to are the whole, one record on
pub passed-one : (count left : ℕ) {here on whole : ℕ} → left ≤ count → (left ≡ 0 → ⊥) → here ≡ suc on → count - left + here ≡ whole → count - (left - 1) + on ≡ whole
passed-one count left few more e w = omega arith

module _ {X : Type 0} (read : ℕ → X) (at size count : ℕ) where
  pub records-step : (count ≡ 0 → ⊥) → records_from read at size count ≡ read at ∷ records_from read (at + size) size (count - 1)
  unfolding records_from
  records-step h = ap (records_from read at size) (counted count h)

  pub records-end : count ≡ 0 → records_from read at size count ≡ []
  unfolding records_from
  records-end e = ap (records_from read at size) e
