-- The pairs of an image state and an end state that stand as marks in one row of words; and what adding a pair, and emptying some states,
-- leaves.
use Rattle.std.specs.Prelude.{◌≡◌, Bool, true, false, List, ℕ, ◌+◌, ◌*◌, ◌<◌, ◌≤◌, get_or, Option}
use Rattle.std.specs.declared.option.Option.TheVariants.{Some, None}
use Rattle.flags.specs.Flags.{flag_at}

-- the mark of image state s and end state e, where each image state has `wide` words
abbrev pub place : ℕ → ℕ → ℕ → ℕ
place wide s e = s * wide * 32 + e

unfoldable pub is_met : ℕ → List ℕ → ℕ → ℕ → Bool
is_met wide met s e = flag_at met (place wide s e)

-- the pair has its place in a row of so many words
pub record There (wide size s e : ℕ) : Type 0 where
  pub long : s * wide + wide ≤ size
  pub narrow : e < wide * 32

-- e is the first end state from `from` up to below `stop` that image state s meets
pub record FirstMet (wide : ℕ) (met : List ℕ) (s from stop e : ℕ) : Type 0 where
  pub after : from ≤ e
  pub before : e < stop
  pub skipped : (f : ℕ) → from ≤ f → f < e → is_met wide met s f ≡ false
  pub here : is_met wide met s e ≡ true

-- image state s meets no end state from `from` up to below `stop`
pub record NoneMet (wide : ℕ) (met : List ℕ) (s from stop : ℕ) : Type 0 where
  pub all : (f : ℕ) → from ≤ f → f < stop → is_met wide met s f ≡ false

-- the first end state from `from` up to below `stop` that image state s meets, or that it meets none
abbrev pub NextMet : ℕ → List ℕ → ℕ → ℕ → ℕ → Option ℕ → Type 0
NextMet wide met s from stop (Some e) = FirstMet wide met s from stop e
NextMet wide met s from stop None = NoneMet wide met s from stop

-- the pair is met now, and the other pairs are what they were
pub record Meeting (wide : ℕ) (met : List ℕ) (s e : ℕ) (met' : List ℕ) : Type 0 where
  pub here : is_met wide met' s e ≡ true
  pub others : (q f : ℕ) → f < wide * 32 → ((q ≡ s) × (f ≡ e) → ⊥) → is_met wide met' q f ≡ is_met wide met q f
  pub grows : (q f : ℕ) → is_met wide met q f ≡ true → is_met wide met' q f ≡ true

-- the image states from `from` up to below `to` meet none now, and the other pairs are what they were
pub record Emptied (wide : ℕ) (met : List ℕ) (from to : ℕ) (met' : List ℕ) : Type 0 where
  pub within : (q f : ℕ) → f < wide * 32 → from ≤ q → q < to → is_met wide met' q f ≡ false
  pub before : (q f : ℕ) → f < wide * 32 → q < from → is_met wide met' q f ≡ is_met wide met q f
