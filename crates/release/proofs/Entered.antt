-- What the entry's definitions come to: where the reply buffer is too short, and where it is long enough. Assumes nothing.
use mathlib.Core.Path.{◌≡◌, refl, sym, ap, ◌∙◌}
use mathlib.Core.Bool.{Bool, false, cond}
use mathlib.Core.List.{List}
use Prim.Native.Nat.{ℕ, ◌<◌, ◌≤◌}
use lib.Dec.{leb}
use lib.ListN.{length}
use borrow.Author.Tests.{le-leb, lt-leb}
use Rattle.jobs.specs.OneGate.{one_gate_reply, one_gate_output}
use Rattle.jobs.specs.Entry.{reply_size, reply_buffer, reply_number, one_gate_entry, one_gate_entry_number, one_gate_entry_output}
use Rattle.replies.specs.declared.Fields.{Fields}
use Rattle.replies.specs.Replied.{reply_from}
use Rattle.replies.specs.Laid.{laid, told}
use Rattle.replies.proofs.Replies.{laid_of, told_of}

-- ---- a reply buffer under 64 bytes
module _ (s c output lent : List ℕ) (h : length lent < reply_size) where
  short : leb reply_size (length lent) ≡ false
  short = lt-leb reply_size (length lent) h

  pub short-number : 17 ≡ one_gate_entry_number s c output lent
  unfolding one_gate_entry_number reply_number
  short-number = rw short refl

  pub short_output : output ≡ one_gate_entry_output s c output lent
  unfolding one_gate_entry_output
  short_output = rw short refl

  pub short_buffer : lent ≡ one_gate_entry s c output lent
  unfolding one_gate_entry reply_buffer
  short_buffer = rw short refl

-- ---- any other one
module _ (s c output : List ℕ) where
  module _ (lent : List ℕ) (h : reply_size ≤ length lent) {r : Fields} (is : r ≡ reply_from (one_gate_reply s c output)) where
    pub long-number : {m : ℕ} → m ≡ told r lent → m ≡ one_gate_entry_number s c output lent
    unfolding one_gate_entry_number
    long-number e = e ∙ ap (λ (q : Fields). told q lent) is ∙ told_of (one_gate_reply s c output) lent

    pub long_buffer : {exit : List ℕ} → exit ≡ laid r lent → exit ≡ one_gate_entry s c output lent
    unfolding one_gate_entry
    long_buffer e = e ∙ ap (λ (q : Fields). laid q lent) is ∙ laid_of (one_gate_reply s c output) lent

  pub long_output : (lent : List ℕ) → reply_size ≤ length lent → {exit : List ℕ} → exit ≡ one_gate_output s c output → exit ≡ one_gate_entry_output s c output lent
  unfolding one_gate_entry_output
  long_output lent h e = e ∙ ap (λ (b : Bool). cond b (one_gate_output s c output) output) (sym (le-leb reply_size (length lent) h))
