-- The relations before j do not lead there. Assumes nothing.
use mathlib.Core.Path.{◌≡◌}
use mathlib.Core.Bool.{false}
use mathlib.Core.List.{List}
use Prim.Native.Nat.{ℕ, ◌-◌, ◌<◌}
use lib.ListN.{get_or}
use Rattle.matching.specs.Seeking.{sought}
use Rattle.relating.specs.Found.{plane_of}
use Rattle.matching.specs.On.{automaton_of}
use Rattle.relating.proofs.leads.Given as goal

abbrev pub invariant-loop-j : goal.invariant-loop-j
invariant-loop-j l =
    (word : List ℕ) (at : ℕ) → get_or word at 0 ≡ l.c → (i : ℕ) → i < l.j → sought (automaton_of l.sides.image) (automaton_of l.sides.end) word at 0 l.sides.wide (plane_of l.plane l.stack i) l.level ≡ false
