-- What a function of the line leaves behind: its bytes at the front of what it was lent, and how many they are.
use Rattle.std.specs.Prelude.{◌≡◌, List, ℕ, ◌≤◌, length}
use Rattle.packing.specs.Written.{at_front}

-- `bytes`, at most `most` of them, were put at the front of `entry`, and r says how many
pub record Put (bytes : List ℕ) (most : ℕ) (entry exit : List ℕ) (r : ℕ) : Type 0 where
  pub count : r ≡ length bytes
  pub few : r ≤ most
  pub front : exit ≡ at_front bytes entry
