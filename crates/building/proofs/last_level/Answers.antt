-- `building::last_level` meets its contract. Assumes nothing.
use mathlib.Core.Path.{refl}
use borrow.Author.Rules.{rules}
use Rattle.building.proofs.Steps.{may_end, last_whole, last-over, whole-in}
use Rattle.building.proofs.last_level.Goals as goal

pub end_level-requires : goal.end_level-requires
end_level-requires c =
    record {
      count_in_bounds = (c.requires.count_in_bounds.0, c.requires.count_in_bounds.1);
      by_index = c.requires.by_index;
      lent = may_end c.requires.count_in_bounds.3;
    }

pub returns-in_err-end_level : goal.returns-in_err-end_level
returns-in_err-end_level c = λ counts first. rw c.from_residual.ensures (last-over c.args.here.count (c.in_err-end_level.ensures.ended.over refl) counts)

pub returns : goal.returns
returns c =
    whole-in (search rules) (search rules) (search rules) (last_whole c.args.here.count c.requires.count_in_bounds.2 (c.in_ok-end_level.ensures.ended.added refl))
