-- The levels left fall, and so do the places left on a level.
use mathlib.Core.Path.{◌≡◌}
use Prim.Native.Nat.{◌-◌}
use lib.ListN.{length}
use Rattle.matching.specs.On.{automaton_of}
use Rattle.judging.proofs.Turning.{Sifting}
use Rattle.judging.proofs.+judge_from.Given as goal

abbrev pub decreases-judge_from : goal.decreases-judge_from
decreases-judge_from l = l.left

-- the places before `place` lead to no word, and the relations of this level stand still
abbrev pub invariant-loop-place : goal.invariant-loop-place
invariant-loop-place l =
    (length l.stack ≡ length l.initial.stack) × (length l.scratch ≡ length l.initial.scratch)
    × Sifting (automaton_of l.search.sides.image) (automaton_of l.search.sides.end) l.search.word.now l.at (l.left - 1) l.search.sides.wide l.search.plane l.initial.stack l.p l.fn.level l.stack l.place

abbrev pub decreases-loop-place : goal.decreases-loop-place
decreases-loop-place l = l.all - l.place
