-- An LV record's count stands behind its mark. Assumes nothing.
use Rattle.stored.specs.Form.{count_at}
use Rattle.records.proofs.count_at.Goals as goal

pub returns : goal.returns
unfolding count_at
returns c =
    c.u16_at.ensures
