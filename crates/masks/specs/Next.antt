-- The choices of a mask in turn.
use Rattle.std.specs.Prelude.{◌≡◌, true, false, ℕ, ◌<◌, ◌≤◌, Option}
use Rattle.std.specs.declared.option.Option.TheVariants.{Some, None}
use Rattle.automata.specs.Choice.{choices_most, has}

-- c is the mask's first choice from `from` on
pub record FirstFrom (mask from c : ℕ) : Type 0 where
  pub after : from ≤ c
  pub below : c < choices_most
  pub skipped : (d : ℕ) → from ≤ d → d < c → has mask d ≡ false
  pub here : has mask c ≡ true

-- the mask has no choice from `from` on
pub record NoneFrom (mask from : ℕ) : Type 0 where
  pub all : (d : ℕ) → from ≤ d → d < choices_most → has mask d ≡ false

-- the mask's first choice from `from` on, or that it has none
abbrev pub NextChoice : ℕ → ℕ → Option ℕ → Type 0
NextChoice mask from (Some c) = FirstFrom mask from c
NextChoice mask from None = NoneFrom mask from
