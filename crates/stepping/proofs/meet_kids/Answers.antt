-- The left children meet, and then the right ones. Assumes nothing.
use Rattle.stepping.proofs.meet_kids.Goals as goal

pub returns : goal.returns
returns c =
    record { mid = c.meet.new.met; left = c.meet.ensures; right = c.meet-2.ensures }
