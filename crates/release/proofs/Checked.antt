-- What the check's entry comes to: where the reply buffer is too short, and where it is long enough. Assumes nothing.
use mathlib.Core.Path.{◌≡◌, refl, ap, ◌∙◌}
use mathlib.Core.Bool.{false}
use mathlib.Core.List.{List}
use Prim.Native.Nat.{ℕ, ◌<◌}
use lib.Dec.{leb}
use lib.ListN.{length}
use borrow.Author.Tests.{lt-leb}
use Rattle.jobs.specs.Check.{check_answer}
use Rattle.jobs.specs.Entry.{reply_size, reply_buffer, reply_number, check_entry, check_entry_number}
use Rattle.replies.specs.declared.Fields.{Fields}
use Rattle.replies.specs.Replied.{reply_from}
use Rattle.replies.specs.Laid.{laid, told}
use Rattle.replies.proofs.Replies.{laid_of, told_of}

module _ (s c e : List ℕ) (most : ℕ) (lent : List ℕ) where
  -- a reply buffer under 64 bytes
  module _ (h : length lent < reply_size) where
    short : leb reply_size (length lent) ≡ false
    short = lt-leb reply_size (length lent) h

    pub short-number : 17 ≡ check_entry_number s c e most lent
    unfolding check_entry_number reply_number
    short-number = rw short refl

    pub short_buffer : lent ≡ check_entry s c e most lent
    unfolding check_entry reply_buffer
    short_buffer = rw short refl

  -- any other one
  module _ {r : Fields} (is : r ≡ reply_from (check_answer s c e most)) where
    pub long-number : {m : ℕ} → m ≡ told r lent → m ≡ check_entry_number s c e most lent
    unfolding check_entry_number
    long-number g = g ∙ ap (λ (q : Fields). told q lent) is ∙ told_of (check_answer s c e most) lent

    pub long_buffer : {exit : List ℕ} → exit ≡ laid r lent → exit ≡ check_entry s c e most lent
    unfolding check_entry
    long_buffer g = g ∙ ap (λ (q : Fields). laid q lent) is ∙ laid_of (check_answer s c e most) lent
