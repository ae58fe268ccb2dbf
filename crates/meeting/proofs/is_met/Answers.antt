-- The pair's mark is read. Assumes nothing.
use mathlib.Core.Path.{ap, ◌∙◌}
use Prim.Native.Nat.{ℕ}
use Rattle.flags.specs.Flags.{flag_at}
use Rattle.meeting.specs.Met.{is_met}
use Rattle.meeting.proofs.is_met.Goals as goal

pub returns : goal.returns
unfolding is_met
returns c =
    c.flag_at.ensures ∙ ap (λ (i : ℕ). flag_at c.args.met.now i) c.place.ensures
