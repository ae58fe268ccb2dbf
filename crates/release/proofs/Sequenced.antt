-- What the entries for sequences come to, from what `put_reply` leaves and tells. Assumes nothing.
use mathlib.Core.Path.{◌≡◌, refl, sym, ap, ◌∙◌}
use mathlib.Core.Bool.{Bool, false, cond}
use mathlib.Core.List.{List}
use Prim.Native.Nat.{ℕ, ◌<◌, ◌≤◌}
use lib.Dec.{leb}
use lib.ListN.{length}
use borrow.Author.Tests.{le-leb, lt-leb}
use Rattle.jobs.specs.Entry.{reply_size, reply_buffer, reply_number}
use Rattle.replies.specs.declared.Fields.{Fields}
use Rattle.replies.specs.Replied.{reply_from}
use Rattle.replies.specs.Laid.{laid, told}
use Rattle.replies.proofs.Replies.{buffer_left, number-told}
use Rattle.cliffords.specs.Jobs.{closing_reply, spell_reply, spell_output}
use Rattle.cliffords.specs.Entry.{closing_entry, closing_entry_number, spell_entry, spell_entry_number, spell_entry_output}

module _ (seq lent : List ℕ) {r : Fields} (is : r ≡ reply_from (closing_reply seq)) where
  pub closing-number : {m : ℕ} → m ≡ told r lent → m ≡ closing_entry_number seq lent
  unfolding closing_entry_number
  closing-number e = number-told (closing_reply seq) lent is e

  pub closing_buffer : {exit : List ℕ} → exit ≡ laid r lent → exit ≡ closing_entry seq lent
  unfolding closing_entry
  closing_buffer e = buffer_left (closing_reply seq) lent is e

module _ (e : ℕ) (output lent : List ℕ) where
  -- a reply buffer under 64 bytes
  module _ (h : length lent < reply_size) where
    short : leb reply_size (length lent) ≡ false
    short = lt-leb reply_size (length lent) h

    pub short-number : 17 ≡ spell_entry_number e output lent
    unfolding spell_entry_number reply_number
    short-number = rw short refl

    pub short_output : output ≡ spell_entry_output e output lent
    unfolding spell_entry_output
    short_output = rw short refl

    pub short_buffer : lent ≡ spell_entry e output lent
    unfolding spell_entry reply_buffer
    short_buffer = rw short refl

  -- any other one
  module _ {r : Fields} (is : r ≡ reply_from (spell_reply e output)) where
    pub spell_number : {m : ℕ} → m ≡ told r lent → m ≡ spell_entry_number e output lent
    unfolding spell_entry_number
    spell_number t = number-told (spell_reply e output) lent is t

    pub spell_buffer : {exit : List ℕ} → exit ≡ laid r lent → exit ≡ spell_entry e output lent
    unfolding spell_entry
    spell_buffer t = buffer_left (spell_reply e output) lent is t

  pub spell_output_lem : reply_size ≤ length lent → {exit : List ℕ} → exit ≡ spell_output e output → exit ≡ spell_entry_output e output lent
  unfolding spell_entry_output
  spell_output_lem h t = t ∙ ap (λ (b : Bool). cond b (spell_output e output) output) (sym (le-leb reply_size (length lent) h))
