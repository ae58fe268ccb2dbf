-- The record goes behind the others, unless there are as many as may be. Assumes nothing.
use mathlib.Core.Path.{refl}
use borrow.Author.Rules.{rules}
use Rattle.endrow.proofs.Putting.{ended-some, put-more}
use Rattle.endrow.proofs.NewLeaves.put.Goals as goal

pub returns : goal.returns
returns c =
    λ y t. ended-some (rw c.is_some.ensures
    (put-more c.requires c.args.x c.if-w-self.false c.put_row.ensures c.store_tested.ensures (search rules) (search rules) (search rules) y t)) (search rules) (search rules) (search rules) refl refl refl refl
