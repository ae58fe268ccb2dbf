-- What is left of the number, looked for from this level on, comes to the level of the whole. Assumes nothing.
use mathlib.Core.Path.{◌≡◌}
use Prim.Native.Nat.{◌+◌}
use Rattle.automata.specs.Sets.{level_in}
use Rattle.stored.specs.Form.{set_of}
use Rattle.levels.proofs.LevelLaws.{counts_below}
use Rattle.levels.proofs.level_of.Given as goal

abbrev pub invariant-loop-above : goal.invariant-loop-above
invariant-loop-above l = level_in (l.above + 1) (counts_below l.s l.n l.above) l.rest ≡ level_in 1 (set_of l.s).counts l.state
