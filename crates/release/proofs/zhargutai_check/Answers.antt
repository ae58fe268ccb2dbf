-- `release::zhargutai_check` meets its contract: a reply buffer under 64 bytes gives 17 before all else. Assumes nothing.
use mathlib.Core.Path.{◌∙◌}
use Rattle.release.proofs.Checked.{short-number, short_buffer, long-number, long_buffer}
use Rattle.release.proofs.zhargutai_check.Goals as goal

pub returns-then-reply-lt-REPLY_SIZE : goal.returns-then-reply-lt-REPLY_SIZE
returns-then-reply-lt-REPLY_SIZE c =
    record {
      value = c.from.ensures ∙ c.number.ensures ∙ short-number c.args.start.now c.args.circuit.now c.args.end.now c.args.most c.args.reply.now c.if-reply-lt-REPLY_SIZE.true;
      reply_after = short_buffer c.args.start.now c.args.circuit.now c.args.end.now c.args.most c.args.reply.now c.if-reply-lt-REPLY_SIZE.true;
    }

pub returns : goal.returns
returns c =
    record {
      value = long-number c.args.start.now c.args.circuit.now c.args.end.now c.args.most c.args.reply.now (c.from-2.ensures ∙ c.check_own-told.ensures) c.put_reply.ensures.value;
      reply_after = long_buffer c.args.start.now c.args.circuit.now c.args.end.now c.args.most c.args.reply.now (c.from-2.ensures ∙ c.check_own-told.ensures) c.put_reply.ensures.lent_after;
    }
