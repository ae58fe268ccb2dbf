-- `release::sequences::zhargutai_closing` meets its contract: the job's reply is what is put. Assumes nothing.
use mathlib.Core.Path.{◌∙◌}
use Rattle.release.proofs.Sequenced.{closing-number, closing_buffer}
use Rattle.release.proofs.sequences.zhargutai_closing.Goals as goal

pub returns : goal.returns
returns c =
    record {
      value = closing-number c.args.sequence.now c.args.reply.now (c.from.ensures ∙ c.close_sequence.ensures) c.put_reply.ensures.value;
      reply_after = closing_buffer c.args.sequence.now c.args.reply.now (c.from.ensures ∙ c.close_sequence.ensures) c.put_reply.ensures.lent_after;
    }
