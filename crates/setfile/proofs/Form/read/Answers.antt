-- Each field is the number at its place. Assumes nothing.
use Rattle.stored.specs.Form.{form_of}
use Rattle.setfile.specs.Answer.{form_read}
use Rattle.setfile.proofs.Form.read.Goals as goal

pub returns : goal.returns
unfolding form_read form_of
returns c =
    cc
