-- Each field is the number at its place, the first two as the reader gives them. Assumes nothing.
use mathlib.Core.Path.{◌∙◌}
use borrow.Author.Rules.{sfits_of}
use Rattle.fields.proofs.Kept.{bits_kept}
use Rattle.records.specs.Read.{key_read, lf_read}
use Rattle.records.proofs.lf_at.Goals as goal

pub returns : goal.returns
unfolding key_read lf_read
returns c =
    simp (
      bits_kept c.i32_at-d.result (sfits_of c.i32_at-d.type_inv) ∙ c.i32_at-d.ensures,
      bits_kept c.i32_at-c.result (sfits_of c.i32_at-c.type_inv) ∙ c.i32_at-c.ensures,
      bits_kept c.i32_at-b.result (sfits_of c.i32_at-b.type_inv) ∙ c.i32_at-b.ensures,
      bits_kept c.i32_at-a.result (sfits_of c.i32_at-a.type_inv) ∙ c.i32_at-a.ensures,
      c.key_at-state.ensures,
    )
