-- A test of every pair that is met on a level: what the search asks of the pairs that it has reached.
use Rattle.std.specs.Prelude.{Bool, true, cond, ◌&&◌, List, ℕ, zero, suc, ◌+◌, ◌-◌}
use Rattle.meeting.specs.Met.{is_met}
use Rattle.meeting.specs.declared.Level.{Level}

-- `count` numbers from `from` on pass
unfoldable pub all_in : (ℕ → Bool) → ℕ → ℕ → Bool
all_in f from zero = true
all_in f from (suc count) = all_in f from count && f (from + count)

-- end state e passes if image state s meets it
abbrev pub if_met : (ℕ → ℕ → Bool) → ℕ → List ℕ → ℕ → ℕ → Bool
if_met g wide met s e = cond (is_met wide met s e) (g s e) true

-- image state s passes with each of `count` end states from `from` on that it meets
unfoldable pub met_by : (ℕ → ℕ → Bool) → ℕ → List ℕ → ℕ → ℕ → ℕ → Bool
met_by g wide met s from count = all_in (if_met g wide met s) from count

-- `count` image states from `from` on pass with each end state of the level that they meet
unfoldable pub met_in : (ℕ → ℕ → Bool) → ℕ → List ℕ → Level → ℕ → ℕ → Bool
met_in g wide met l from count = all_in (λ s. met_by g wide met s l.start (l.stop - l.start)) from count

-- all pairs that are met on the level pass
abbrev pub all_met : (ℕ → ℕ → Bool) → ℕ → List ℕ → Level → Bool
all_met g wide met l = met_in g wide met l l.from (l.to - l.from)
