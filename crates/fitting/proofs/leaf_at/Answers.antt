-- The row's second number says where its amplitude stands. Assumes nothing.
use mathlib.Core.Path.{◌≡◌, ap, ◌∙◌}
use Rattle.amplitude.specs.Amp.{in_range_a}
use Rattle.lookup.specs.Lookup.{pair_row}
use Rattle.leafrows.specs.Value.{amp_is}
use Rattle.leafrows.specs.Row.{row_amp}
use Rattle.fitting.proofs.leaf_at.Goals as goal

pub returns : goal.returns
returns c =
    let e : amp_is c.amplitude_at.result ≡ row_amp c.args.table.now.coefs.now (pair_row c.args.table.now.rows.now c.args.i).0 =
    c.amplitude_at.ensures in
    (e, ap in_range_a e ∙ c.requires.range)
