-- The choices left to try come to all of them: one that not all end states met have cannot fit. Assumes nothing.
use mathlib.Core.Path.{◌≡◌}
use Prim.Native.Nat.{ℕ, ◌-◌, ◌≤◌}
use Rattle.automata.specs.Members.{choices, up_to}
use Rattle.verdict.specs.Search.{fits_one}
use Rattle.meeting.specs.All.{all_met}
use Rattle.fitting.specs.Fit.{leaves_on}
use Rattle.fitting.proofs.fit_any.Given as goal

abbrev pub invariant-loop-d : goal.invariant-loop-d
invariant-loop-d l =
    (l.from ≤ 32) × (fits_one (λ (b : ℕ). all_met (leaves_on l.sides l.c b) l.sides.wide l.met l.level) (up_to l.from (32 - l.from)) ≡ fits_one (λ (b : ℕ). all_met (leaves_on l.sides l.c b) l.sides.wide l.met l.level) choices)

abbrev pub decreases-loop-d : goal.decreases-loop-d
decreases-loop-d l =
    32 - l.from
