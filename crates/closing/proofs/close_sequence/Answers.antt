-- `closing::close_sequence` meets its contract: each way through the code is one of the definition's. Assumes nothing.
use mathlib.Core.Path.{sym, ap, ◌∙◌}
use native.Mathlib.Omega.{arith}
use Rattle.replies.specs.Replied.{reply_from}
use Rattle.replies.proofs.Makers.{is-refusing, is_made}
use Rattle.closing.proofs.Answers.{too_long, too_large, closed_by}
use Rattle.closing.proofs.close_sequence.Goals as goal

pub returns-then-seq-gt-SEQUENCE_MOST : goal.returns-then-seq-gt-SEQUENCE_MOST
returns-then-seq-gt-SEQUENCE_MOST c =
    is-refusing _ ∙ ap reply_from (sym (too_long c.args.seq.now (omega (arith, c.if-seq-gt-SEQUENCE_MOST.true))))

pub returns-then-not-good : goal.returns-then-not-good
returns-then-not-good c =
    is-refusing _ ∙ ap reply_from (sym (too_large c.args.seq.now (omega arith) (sym c.all_elements-good.ensures ∙ c.if-not-good.true)))

pub all_of-requires : goal.all_of-requires
all_of-requires c =
    sym c.all_elements-good.ensures ∙ c.if-not-good.false

pub returns : goal.returns
returns c =
    is_made _
    ∙ ap reply_from (sym (closed_by c.args.seq.now (omega arith) (sym c.all_elements-good.ensures ∙ c.if-not-good.false) c.all_of.ensures.0 (c.from.ensures ∙ c.inverse_of.ensures)))
