-- The levels left fall.
use Rattle.matching.proofs.+hint_from.Given as goal

abbrev pub decreases-hint_from : goal.decreases-hint_from
decreases-hint_from l = l.left
