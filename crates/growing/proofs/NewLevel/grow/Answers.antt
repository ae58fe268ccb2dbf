-- `growing::NewLevel::grow` meets its contract: with no row left the level is over its rows, and both children are mentioned before their number is
-- held to the bound, so the row is put exactly where the level stays within it. Assumes nothing.
use mathlib.Core.Path.{refl}
use borrow.Author.Rules.{rules}
use native.Mathlib.Omega.{arith}
use Rattle.growing.proofs.OneMore.{gave_up, rows-over, keys-over, grew_more}
use Rattle.growing.proofs.NewLevel.grow.Goals as goal

pub returns-then-self-clause-grew : goal.returns-then-self-clause-grew
returns-then-self-clause-grew c = gave_up (rows-over c.requires c.args.state c.args.mask c.args.first c.args.second c.if-self.true)

pub returns-then-self-r-clause-grew : goal.returns-then-self-r-clause-grew
returns-then-self-r-clause-grew c =
    gave_up (keys-over c.requires c.args.state c.args.mask c.args.first c.args.second c.mention-l.ensures c.mention-r.ensures (omega arith))

pub returns-clause-grew : goal.returns-clause-grew
returns-clause-grew c =
    grew_more c.requires c.args.state c.args.mask c.args.first c.args.second c.mention-l.ensures c.mention-r.ensures c.put_row.ensures (search rules) refl refl refl refl c.if-self.false (omega arith)
