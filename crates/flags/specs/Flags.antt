-- Marks in a row of 32-bit words: mark i is bit i % 32 of word i / 32; and what setting one mark, and clearing some words, leaves.
use Rattle.std.specs.Prelude.{◌≡◌, Bool, true, false, List, ℕ, ◌/◌, ◌%◌, ◌^◌, ◌<◌, ◌≤◌, get_or}
use Rattle.std.specs.Int.Bits.{bit_or}
use Rattle.automata.specs.Choice.{has}

unfoldable pub flag_at : List ℕ → ℕ → Bool
flag_at words i = has (get_or words (i / 32) 0) (i % 32)

-- a word with its bit b set
abbrev pub with_bit : ℕ → ℕ → ℕ
with_bit word b = bit_or word (2 ^ b)

-- mark i is set now, and the other marks are what they were
pub record Flagged (words : List ℕ) (i : ℕ) (words' : List ℕ) : Type 0 where
  pub here : flag_at words' i ≡ true
  pub others : (j : ℕ) → (j ≡ i → ⊥) → flag_at words' j ≡ flag_at words j

-- the marks of the words from word `from` up to below word `to` are not set now, and the other marks are what they were
pub record Cleared (words : List ℕ) (from to : ℕ) (words' : List ℕ) : Type 0 where
  pub within : (j : ℕ) → from ≤ j / 32 → j / 32 < to → flag_at words' j ≡ false
  pub before : (j : ℕ) → j / 32 < from → flag_at words' j ≡ flag_at words j
  pub after : (j : ℕ) → to ≤ j / 32 → flag_at words' j ≡ flag_at words j
