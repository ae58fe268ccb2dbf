-- The pass stops for each state at the first row of a state that is not smaller: as many rows are of smaller states. Assumes nothing.
use mathlib.Core.Path.{◌∙◌}
use Prim.Native.Nat.{◌<◌, ◌≤◌}
use native.Mathlib.Omega.{arith}
use lib.ListN.{length-set}
use Rattle.tables.specs.States.{state_row}
use Rattle.tables.proofs.Fill.{begun_more}
use Rattle.tables.proofs.fill_first.Goals as goal
use Rattle.tables.proofs.fill_first.Goals.{then-loop-i-test+else-from-s, else-loop-i-test}

pub loop-s-preserved : goal.loop-s-preserved
loop-s-preserved c =
    let here : c.loop-i.i < c.args.total → c.loop-s.s ≤ state_row c.args.rows.now c.loop-i.i =
    elim c.loop-i-test.branch [ then-loop-i-test+else-from-s w ↦ λ h. omega (arith, rw w.from.ensures at w.from-in-loop-i.ensures) | else-loop-i-test w ↦ λ h. absurd (omega arith) ] in
    record {
      within = c.loop-i.invariant.within;
      long = length-set _ _ _ ∙ c.loop-s.invariant.long;
      begun = begun_more c.requires.2 c.loop-i.invariant.within c.loop-i.invariant.low here c.loop-s.invariant.begun (omega (arith, c.requires.1));
      low = λ j h. omega (arith, c.loop-i.invariant.low j h);
    }
