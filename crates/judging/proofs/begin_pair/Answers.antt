-- The spare row has the pair alone on the level. Assumes nothing.
use mathlib.Core.Path.{sym, ◌∙◌}
use native.Mathlib.Omega.{arith}
use Rattle.meeting.proofs.Places.{words-before}
use Rattle.relating.proofs.Begins.{not-begun}
use Rattle.judging.proofs.Starts.{root_room, rise_unmarked, begun-joined, rise-joined}
use Rattle.judging.proofs.begin_pair.Goals as goal

pub is_met-requires : goal.is_met-requires
is_met-requires c =
    record { long = omega (arith, words-before c.args.wide c.args.root c.args.level.to c.requires.0.before, c.requires.0.fits); narrow = omega (arith, c.requires.0.narrow, c.requires.5) }

pub returns-then-not-is_met : goal.returns-then-not-is_met
returns-then-not-is_met c =
    (not-begun, rise_unmarked c.args.e c.requires.4 c.requires.5 (sym c.is_met.ensures ∙ c.if-not-is_met.true))

pub meet_none-requires : goal.meet_none-requires
meet_none-requires c =
    omega (arith, c.requires.0.long, c.requires.2)

pub meet-requires : goal.meet-requires
meet-requires c =
    record { long = omega (arith, words-before c.args.wide c.args.root c.args.level.to c.requires.0.before, c.requires.0.long, c.requires.2, c.meet_none.auto.met); narrow = omega (arith, c.requires.0.narrow, c.requires.5) }

pub join-requires : goal.join-requires
join-requires c =
    (root_room c.requires.0 c.requires.1 (omega (arith, c.requires.2, c.meet_none.auto.met, c.meet.auto.met)), c.requires.3)

pub returns : goal.returns
returns c =
    (begun-joined c.args.e c.requires.0 c.requires.4 c.requires.5 c.meet_none.ensures c.meet.ensures c.join.ensures, rise-joined c.args.e c.requires.0 c.requires.4 c.requires.5 c.meet_none.ensures c.meet.ensures c.join.ensures)
