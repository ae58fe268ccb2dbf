-- `closing::spell` meets its contract: each way through the code is one of the definition's. Assumes nothing.
use mathlib.Core.Path.{sym, ap, ◌∙◌}
use Prim.Native.Nat.{◌<◌, ◌≤◌}
use native.Mathlib.Omega.{arith}
use lib.ListN.{length}
use Rattle.cliffords.specs.Elements.{elements_most}
use Rattle.cliffords.specs.Words.{letters_most}
use Rattle.refusals.specs.Refused.{told}
use Rattle.replies.specs.Replied.{reply_from}
use Rattle.replies.proofs.Makers.{is-refusing, is-refused, is_made}
use Rattle.closing.proofs.Answers.{short_reply, short_output, large_reply, large_output, word_reply, word_output}
use Rattle.closing.proofs.spell.Goals as goal

pub returns-then-out-lt-LETTERS_MOST : goal.returns-then-out-lt-LETTERS_MOST
returns-then-out-lt-LETTERS_MOST c =
    let h : length c.args.out.now < letters_most = omega (arith, c.if-out-lt-LETTERS_MOST.true) in
    record {
      value = is-refused c.alone.result (ap told c.alone.ensures) ∙ ap reply_from (sym (short_reply c.args.element c.args.out.now h));
      out_after = short_output c.args.element c.args.out.now h;
    }

pub returns-then-from-element : goal.returns-then-from-element
returns-then-from-element c =
    let h : letters_most ≤ length c.args.out.now = omega (arith, c.if-out-lt-LETTERS_MOST.false) in
    let k : elements_most ≤ c.args.element = omega (arith, c.from.ensures, c.if-from-element.true) in
    record {
      value = is-refusing _ ∙ ap reply_from (sym (large_reply c.args.element c.args.out.now h k));
      out_after = large_output c.args.element c.args.out.now h k;
    }

pub returns : goal.returns
returns c =
    let h : letters_most ≤ length c.args.out.now = omega (arith, c.if-out-lt-LETTERS_MOST.false) in
    let k : c.args.element < elements_most = omega (arith, c.from.ensures, c.if-from-element.false) in
    record {
      value = is_made _ ∙ ap reply_from (sym (word_reply c.args.element c.args.out.now h k (c.from-2.ensures ∙ c.put_word.ensures.value)));
      out_after = word_output c.args.element c.args.out.now h k c.put_word.ensures.out_after;
    }
