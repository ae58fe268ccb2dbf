-- `release::sequences::zhargutai_spell` meets its contract: with a short reply buffer nothing is called, else the job's reply is what is put. Assumes nothing.
use mathlib.Core.Path.{◌∙◌}
use Rattle.release.proofs.Sequenced.{short-number, short_output, short_buffer, spell_number, spell_output_lem, spell_buffer}
use Rattle.release.proofs.sequences.zhargutai_spell.Goals as goal

pub returns-then-reply-lt-REPLY_SIZE : goal.returns-then-reply-lt-REPLY_SIZE
returns-then-reply-lt-REPLY_SIZE c =
    record {
      value = c.from.ensures ∙ c.number.ensures ∙ short-number c.args.element c.args.output.now c.args.reply.now c.if-reply-lt-REPLY_SIZE.true;
      output_after = short_output c.args.element c.args.output.now c.args.reply.now c.if-reply-lt-REPLY_SIZE.true;
      reply_after = short_buffer c.args.element c.args.output.now c.args.reply.now c.if-reply-lt-REPLY_SIZE.true;
    }

pub returns : goal.returns
returns c =
    record {
      value = spell_number c.args.element c.args.output.now c.args.reply.now (c.from-2.ensures ∙ c.spell.ensures.value) c.put_reply.ensures.value;
      output_after = spell_output_lem c.args.element c.args.output.now c.args.reply.now c.if-reply-lt-REPLY_SIZE.false c.spell.ensures.out_after;
      reply_after = spell_buffer c.args.element c.args.output.now c.args.reply.now (c.from-2.ensures ∙ c.spell.ensures.value) c.put_reply.ensures.lent_after;
    }
