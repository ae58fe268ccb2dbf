-- Document 01, the program, in a lent buffer: "It prints one line".
use Rattle.std.specs.Prelude.{cond, List, ◌++◌, ℕ, length, drop, leb}
use Rattle.stored.specs.Refusal.{refusal, no_source}
use Rattle.jobs.specs.Reply.{Reply, refused}
use Rattle.jobs.specs.Program.{printed}
use Rattle.lines.specs.Printed.{line_room}

-- "18 | program only"
abbrev pub no_job : Reply
no_job = refused (refusal 18 no_source 0)

-- the line at the front of the buffer, which stays as it was where it has no room for every line
unfoldable pub line_put : List ℕ → List ℕ → List ℕ
line_put s out = cond (leb line_room (length out)) (printed s ++ drop (length (printed s)) out) out

-- how many bytes of the buffer are the line
unfoldable pub line_length : List ℕ → List ℕ → ℕ
line_length s out = cond (leb line_room (length out)) (length (printed s)) 0
