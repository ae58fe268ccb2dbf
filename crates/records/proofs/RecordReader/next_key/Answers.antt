-- Each field is the number at its place. Assumes nothing.
use Rattle.records.specs.Read.{key_read}
use Rattle.records.proofs.RecordReader.next_key.Goals as goal

pub returns : goal.returns
unfolding key_read
returns c =
    cc
