-- Document 02, request 10, through C: the reply of each job in a lent buffer, as document 01 has it for the other entries.
use Rattle.std.specs.Prelude.{cond, List, ℕ, length, leb}
use Rattle.jobs.specs.Entry.{reply_size, reply_buffer, reply_number}
use Rattle.cliffords.specs.Jobs.{closing_reply, spell_reply, spell_output}

unfoldable pub closing_entry : List ℕ → List ℕ → List ℕ
closing_entry seq lent = reply_buffer (closing_reply seq) lent

unfoldable pub closing_entry_number : List ℕ → List ℕ → ℕ
closing_entry_number seq lent = reply_number (closing_reply seq) lent

-- with a short reply buffer the output stays too
unfoldable pub spell_entry : ℕ → List ℕ → List ℕ → List ℕ
spell_entry e output lent = reply_buffer (spell_reply e output) lent

unfoldable pub spell_entry_number : ℕ → List ℕ → List ℕ → ℕ
spell_entry_number e output lent = reply_number (spell_reply e output) lent

unfoldable pub spell_entry_output : ℕ → List ℕ → List ℕ → List ℕ
spell_entry_output e output lent = cond (leb reply_size (length lent)) (spell_output e output) output
