-- The test is the definition's own, at the record's least choice. Assumes nothing.
use Rattle.order.specs.Pass.{fits_next}
use Rattle.order.proofs.Run.fits.Goals as goal

pub returns : goal.returns
unfolding fits_next
returns c =
    simp c.least_choice-least.ensures.0
