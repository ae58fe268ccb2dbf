-- Document 01, "The release tool is written in C": "Its entry lends the work buffers itself and writes the reply into a lent byte buffer, size
-- (a fixed number, at most 256 bytes) and layout in docs/; a shorter one gives 17 and stays."
use Rattle.std.specs.Prelude.{cond, List, ◌∷◌, ◌++◌, ℕ, length, drop, replicate, leb}
use Rattle.stored.specs.Fields.{bytes32}
use Rattle.jobs.specs.Reply.{Reply, kind_of, number_of, source_of, place_of, count_of, root_of, word_of}
use Rattle.jobs.specs.OneGate.{one_gate_reply, one_gate_output}
use Rattle.jobs.specs.Check.{check_answer}

-- kind, number, source, a zero byte, place (4 bytes), count (4), root (4), word (21), the rest zero
abbrev pub reply_size : ℕ
reply_size = 64

unfoldable pub reply_bytes : Reply → List ℕ
reply_bytes r =
    kind_of r ∷ number_of r ∷ source_of r ∷ 0 ∷ (bytes32 (place_of r) ++ (bytes32 (count_of r) ++ (bytes32 (root_of r) ++ (word_of r ++ replicate 27 0))))

-- the reply buffer afterwards, and the number returned: the reply's, 0 where nothing was refused
unfoldable pub reply_buffer : Reply → List ℕ → List ℕ
reply_buffer r lent = cond (leb reply_size (length lent)) (reply_bytes r ++ drop reply_size lent) lent

unfoldable pub reply_number : Reply → List ℕ → ℕ
reply_number r lent = cond (leb reply_size (length lent)) (number_of r) 17

-- the check's entry
unfoldable pub check_entry : List ℕ → List ℕ → List ℕ → ℕ → List ℕ → List ℕ
check_entry s c e b lent = reply_buffer (check_answer s c e b) lent

unfoldable pub check_entry_number : List ℕ → List ℕ → List ℕ → ℕ → List ℕ → ℕ
check_entry_number s c e b lent = reply_number (check_answer s c e b) lent

-- the one-gate entry: with a short reply buffer the output stays too
unfoldable pub one_gate_entry : List ℕ → List ℕ → List ℕ → List ℕ → List ℕ
one_gate_entry s c output lent = reply_buffer (one_gate_reply s c output) lent

unfoldable pub one_gate_entry_number : List ℕ → List ℕ → List ℕ → List ℕ → ℕ
one_gate_entry_number s c output lent = reply_number (one_gate_reply s c output) lent

unfoldable pub one_gate_entry_output : List ℕ → List ℕ → List ℕ → List ℕ → List ℕ
one_gate_entry_output s c output lent = cond (leb reply_size (length lent)) (one_gate_output s c output) output
