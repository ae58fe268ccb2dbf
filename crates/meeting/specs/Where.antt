-- The pairs of a level that pass a test are marked: what that leaves. The test may read the marks, as they stand when it is asked.
use Rattle.std.specs.Prelude.{◌≡◌, Bool, true, false, List, ℕ, ◌+◌, ◌<◌, ◌≤◌}
use Rattle.std.specs.Borrow.{Bor}
use Rattle.meeting.specs.declared.Level.{Level}
use Rattle.meeting.specs.Met.{is_met}

-- no mark is lost
pub record Grows (wide : ℕ) (met met' : List ℕ) : Type 0 where
  pub each : (s e : ℕ) → is_met wide met s e ≡ true → is_met wide met' s e ≡ true

-- the test was asked of the pair, on marks that had all of the old ones, and was false
pub record Refused (post : Bor (List ℕ) → ℕ → ℕ → Bool → Type 0) (wide : ℕ) (met : List ℕ) (s e : ℕ) : Type 0 where
  pub marks : Bor (List ℕ)
  pub grown : Grows wide met marks.now
  pub said : post marks s e false

-- no mark is lost, and a pair of the level without a mark failed the test
pub record MetWhere (post : Bor (List ℕ) → ℕ → ℕ → Bool → Type 0) (wide : ℕ) (met : List ℕ) (l : Level) (met' : List ℕ) : Type 0 where
  pub grows : Grows wide met met'
  pub each : (s e : ℕ) → l.from ≤ s → s < l.to → l.start ≤ e → e < l.stop → is_met wide met' s e ≡ false → Refused post wide met s e

-- the pairs of image state s
abbrev pub one_state : ℕ → ℕ → ℕ → Level
one_state s start stop = record { from = s; to = s + 1; start = start; stop = stop }
