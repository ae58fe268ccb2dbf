-- The levels left fall.
use Rattle.foreseeing.proofs.+foresee_from.Given as goal

abbrev pub decreases-foresee_from : goal.decreases-foresee_from
decreases-foresee_from l = l.left
