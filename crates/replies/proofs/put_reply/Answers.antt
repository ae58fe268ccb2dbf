-- `replies::put_reply` meets its contract: a buffer of 64 bytes or more has the reply at its front, and a shorter one is not touched.
-- Assumes nothing.
use mathlib.Core.Path.{◌∙◌}
use borrow.Author.Tests.{le-leb, lt-leb}
use Rattle.replies.specs.Laid.{laid, told}
use Rattle.replies.proofs.put_reply.Goals as goal

pub returns-then-lent-lt-REPLY_SIZE : goal.returns-then-lent-lt-REPLY_SIZE
unfolding laid told
returns-then-lent-lt-REPLY_SIZE c =
    record {
      lent_after = simp (lt-leb _ _ c.if-lent-lt-REPLY_SIZE.true);
      value = simp (lt-leb _ _ c.if-lent-lt-REPLY_SIZE.true) (c.from.ensures ∙ c.number.ensures);
    }

pub returns : goal.returns
unfolding laid told
returns c =
    record {
      lent_after = simp (le-leb _ _ c.if-lent-lt-REPLY_SIZE.false) c.put_whole.ensures;
      value = simp (le-leb _ _ c.if-lent-lt-REPLY_SIZE.false) cc;
    }
