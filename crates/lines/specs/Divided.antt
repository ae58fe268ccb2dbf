-- Document 01, the program: "reads from standard input JB, B, then the lengths of start, circuit and end .. then the three".
use Rattle.std.specs.Prelude.{◌≡◌, Bool, true, ◌&&◌, List, ℕ, ◌+◌, eqb, leb, length}
use Rattle.stored.specs.Fields.{u32_at}
use Rattle.jobs.specs.Program.{fixed_size, part_most, start_part, circuit_part, end_part, allowance_of, input_ok}

-- "a length over 65,536, or input not 18 bytes plus the lengths"
unfoldable pub lengths_fit : ℕ → ℕ → ℕ → ℕ → Bool
lengths_fit total start circuit end =
    leb start part_most && (leb circuit part_most && (leb end part_most && eqb total (fixed_size + start + circuit + end)))

-- an input that is not refused with 18, its allowance, and its three files, as long as it says
pub record Divided (s : List ℕ) (allowance : ℕ) (start circuit end : List ℕ) : Type 0 where
  pub good : input_ok s ≡ true
  pub most : allowance ≡ allowance_of s
  pub first : start ≡ start_part s
  pub second : circuit ≡ circuit_part s
  pub last : end ≡ end_part s
  pub first_long : length start ≡ u32_at s 6
  pub second_long : length circuit ≡ u32_at s 10
