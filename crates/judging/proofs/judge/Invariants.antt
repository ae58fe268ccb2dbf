-- Batch after batch of the end's roots: those before e match by no word. Assumes nothing.
use mathlib.Core.Path.{◌≡◌}
use Prim.Native.Nat.{◌-◌}
use lib.ListN.{length}
use Rattle.matching.specs.On.{automaton_of}
use Rattle.judging.proofs.Turning.{Rooting}
use Rattle.judging.proofs.judge.Given as goal

abbrev pub invariant-loop-e : goal.invariant-loop-e
invariant-loop-e l =
    (length l.stack ≡ length l.initial.stack) × (length l.scratch ≡ length l.initial.scratch) × Rooting (automaton_of l.sides.image) (automaton_of l.sides.end) l.word l.n l.root l.e

abbrev pub decreases-loop-e : goal.decreases-loop-e
decreases-loop-e l =
    l.roots - l.e
