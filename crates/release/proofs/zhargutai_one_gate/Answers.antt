-- `release::zhargutai_one_gate` meets its contract: a reply buffer under 64 bytes gives 17 before all else. Assumes nothing.
use mathlib.Core.Path.{◌∙◌}
use Rattle.release.proofs.Entered.{short-number, short_output, short_buffer, long-number, long_output, long_buffer}
use Rattle.release.proofs.zhargutai_one_gate.Goals as goal

pub returns-then-reply-lt-REPLY_SIZE : goal.returns-then-reply-lt-REPLY_SIZE
returns-then-reply-lt-REPLY_SIZE c =
    record {
      value = c.from.ensures ∙ c.number.ensures ∙ short-number c.args.set.now c.args.circuit.now c.args.output.now c.args.reply.now c.if-reply-lt-REPLY_SIZE.true;
      output_after = short_output c.args.set.now c.args.circuit.now c.args.output.now c.args.reply.now c.if-reply-lt-REPLY_SIZE.true;
      reply_after = short_buffer c.args.set.now c.args.circuit.now c.args.output.now c.args.reply.now c.if-reply-lt-REPLY_SIZE.true;
    }

pub returns : goal.returns
returns c =
    record {
      value = long-number c.args.set.now c.args.circuit.now c.args.output.now c.args.reply.now c.if-reply-lt-REPLY_SIZE.false (c.from-2.ensures ∙ c.one_gate-told.ensures.value) c.put_reply.ensures.value;
      output_after = long_output c.args.set.now c.args.circuit.now c.args.output.now c.args.reply.now c.if-reply-lt-REPLY_SIZE.false c.one_gate-told.ensures.output_after;
      reply_after = long_buffer c.args.set.now c.args.circuit.now c.args.output.now c.args.reply.now c.if-reply-lt-REPLY_SIZE.false (c.from-2.ensures ∙ c.one_gate-told.ensures.value) c.put_reply.ensures.lent_after;
    }
