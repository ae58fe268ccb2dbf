-- The pair's mark is set, and no other pair has it. Assumes nothing.
use mathlib.Core.Path.{subst}
use Prim.Native.Nat.{ℕ}
use Rattle.flags.specs.Flags.{Flagged}
use Rattle.meeting.proofs.Places.{met_flag}
use Rattle.meeting.proofs.meet.Goals as goal

pub returns : goal.returns
returns c =
    met_flag c.args.wide c.args.s c.args.e c.requires.narrow (subst (λ (i : ℕ). Flagged c.args.met.now i c.set_flag.new.words) c.place.ensures c.set_flag.ensures)
