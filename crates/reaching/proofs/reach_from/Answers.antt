-- A state that is not reached asks nothing. Assumes nothing.
use mathlib.Core.Path.{sym, ◌∙◌}
use native.Mathlib.Omega.{arith}
use Rattle.reaching.specs.Reached.{kids_in}
use Rattle.reaching.proofs.Spreads.{spread_idle, spread_here}
use Rattle.reaching.proofs.reach_from.Goals as goal

pub is_reached-requires : goal.is_reached-requires
is_reached-requires c =
    omega (arith, c.requires.0.2.before, c.requires.0.2.levels, c.requires.0.2.long)

pub returns-then-not-is_reached : goal.returns-then-not-is_reached
returns-then-not-is_reached c =
    λ from to ready. spread_idle (kids_in c.args.table.now.rows.now c.args.table.now.masks.now c.args.table.now.first.now c.args.c) c.args.reached.now from to c.args.s (sym c.is_reached.ensures ∙ c.if-not-is_reached.true)

pub returns : goal.returns
returns c =
    λ from to ready. spread_here (kids_in c.args.table.now.rows.now c.args.table.now.masks.now c.args.table.now.first.now c.args.c) (sym c.is_reached.ensures ∙ c.if-not-is_reached.false) (c.reach_moved.ensures from to ready)
