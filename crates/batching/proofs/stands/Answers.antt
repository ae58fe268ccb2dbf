-- A plane that has the words is one of the first q. Assumes nothing.
use mathlib.Core.Path.{◌≡◌}
use mathlib.Core.Bool.{false≢true}
use Prim.Native.Nat.{◌+◌}
use borrow.Author.Rules.{rules}
use Rattle.std.specs.List.{slice_range}
use Rattle.batching.proofs.Wholes.{same_parts}
use Rattle.batching.proofs.stands.Goals as goal

pub returns-then-same : goal.returns-then-same
returns-then-same c =
    λ h.
    let same : slice_range c.args.stack.now c.cell-start.result (c.cell-start.result + c.args.count) ≡ slice_range c.args.row.now c.args.at (c.args.at + c.args.count) = search rules in
    record { which = c.loop-j.j; before = c.loop-j-test.true; same = same_parts c.args.stack.now c.args.row.now c.args.plane c.loop-j.j c.args.at c.args.at c.args.count c.cell-start.ensures same }

pub returns : goal.returns
returns c =
    λ h. absurd (false≢true h)
