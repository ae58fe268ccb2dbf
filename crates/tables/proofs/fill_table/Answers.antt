-- The TR records' rows are filled first, and those of the LF records behind them. Assumes nothing.
use mathlib.Core.Path.{◌≡◌, ap, ◌∙◌}
use Prim.Native.Nat.{◌+◌, ◌*◌}
use borrow.Author.Rules.{rules}
use Rattle.records.specs.Read.{tr_of, key_read, tr_read}
use Rattle.records.proofs.ReadLaws.{tr_read_lem}
use Rattle.tables.proofs.Fill.{tabled}
use Rattle.tables.proofs.fill_table.Goals as goal

pub returns : goal.returns
unfolding key_read
returns c =
    tabled (λ j t h. let e : t ≡ tr_read c.args.file.now (c.args.trs + j * 12) = search rules in ap tr_of e ∙ tr_read_lem _ _)
    (λ j t h. search rules) c.fill_rows.ensures c.fill_rows-2.ensures
