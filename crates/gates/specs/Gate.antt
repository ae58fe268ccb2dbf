-- Document 01, "Stored form": "Once read, a gate is plain with its kind, or controlled with its control and kind."
use Rattle.std.specs.Prelude.{ℕ}

-- phase j is Z for j = 4, S 2, S† 6, T 1, T† 7; flip j is X for j = 0 and Y for j = 2
pub data Kind : Type 0 where
  phase : ℕ → Kind
  flip : ℕ → Kind
  H : Kind

-- the last number is the target; in the second case the first is the control. Qubits count from 1.
pub data Gate : Type 0 where
  plain : Kind → ℕ → Gate
  controlled : ℕ → Kind → ℕ → Gate
