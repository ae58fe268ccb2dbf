-- `names::mention` meets its contract: a key that `find` found leaves all as it was, and any other is put at the end by `add`. Assumes nothing.
use Rattle.names.proofs.PlaceLaws.{found_none}
use Rattle.names.proofs.MentionLaws.{known, new}
use Rattle.names.proofs.mention.Goals as goal

pub returns-in_default : goal.returns-in_default
returns-in_default c =
    rw (c.add.ensures.keys_after, c.add.ensures.link_after, c.add.ensures.heads_after)
    (new c.requires.chained c.args.key c.requires.count_in_bounds.0 c.requires.count_in_bounds.1 (found_none c.args.key _ c.find.ensures c.in_default.is))

pub returns : goal.returns
returns c =
    known c.requires.chained c.args.key c.in-Some.place c.find.ensures c.in-Some.is
