-- The line that is put is the program's: of the three parts' check where the input divides, else of refusal 18. Assumes nothing.
use mathlib.Core.Path.{◌≡◌, sym, ap, subst, ◌∙◌}
use mathlib.Core.Bool.{Bool, true, false, cond}
use mathlib.Core.List.{List, ◌++◌}
use Prim.Native.Nat.{ℕ, ◌+◌, ◌-◌, ◌≤◌, ◌<◌}
use native.Mathlib.Omega.{arith}
use lib.ListN.{length, take, drop, get_or, length-append, length-drop}
use lib.Dec.{leb}
use borrow.Author.Tests.{le-leb, lt-leb}
use Rattle.stored.specs.Rules.{n_most}
use Rattle.jobs.specs.Reply as def
use Rattle.jobs.specs.Reply.{word_places}
use Rattle.jobs.specs.Check.{check_answer}
use Rattle.jobs.specs.Program.{fixed_size, start_part, circuit_part, end_part, allowance_of, input_ok, program_reply, printed}
use Rattle.replies.specs.declared.Fields.{Fields}
use Rattle.replies.specs.Replied.{reply_from}
use Rattle.lines.specs.Divided.{Divided}
use Rattle.lines.specs.Printed.{line_room, printed_in, printed_length}
use Rattle.lines.proofs.Printed.{Choices, line-left, line-length}
use Rattle.jobline.specs.Line.{no_job, line_put, line_length}
use Rattle.jobline.proofs.Word.{choices-fit}

abbrev pub job_reply : List ℕ → def.Reply
job_reply s = check_answer (start_part s) (circuit_part s) (end_part s) (allowance_of s)

-- ---- the reply
pub divides : (s : List ℕ) → input_ok s ≡ true → job_reply s ≡ program_reply s
unfolding program_reply check_answer
divides s e = rw e

pub is_none : (s : List ℕ) → input_ok s ≡ false → no_job ≡ program_reply s
unfolding program_reply
is_none s e = rw e

-- what the code lends of an input that divides
module _ {s : List ℕ} {most : ℕ} {start circuit end : List ℕ} (d : Divided s most start circuit end) where
  pub checked : {fields : Fields} → fields ≡ reply_from (check_answer start circuit end most) → fields ≡ reply_from (job_reply s)
  checked e = e ∙ rw (d.first, d.second, d.last, d.most)

  pub choices_its : {k : ℕ} → (get_or start 3 0 ≤ n_most → k ≡ get_or start 3 0 + 1) → Choices k (job_reply s)
  choices_its {k} h =
      choices-fit (start_part s) (circuit_part s) (end_part s) (allowance_of s) k (subst (λ (l : List ℕ). get_or l 3 0 ≤ n_most → k ≡ get_or l 3 0 + 1) d.first h)

-- ---- the buffer
pub no_room : (s out : List ℕ) → length out < line_room → out ≡ line_put s out
unfolding line_put
no_room s out h = rw (lt-leb line_room (length out) h)

pub no_length : (s out : List ℕ) → length out < line_room → 0 ≡ line_length s out
unfolding line_length
no_length s out h = rw (lt-leb line_room (length out) h)

-- the buffer keeps its length, so the line lies within it
pub within : (s out : List ℕ) {exit : List ℕ} → exit ≡ line_put s out → length exit ≡ length out → line_length s out ≤ length out
unfolding line_put line_length
within s out e h = go (leb line_room (length out)) (sym (ap length e) ∙ h)
  where
    go : (b : Bool) → length (cond b (printed s ++ drop (length (printed s)) out) out) ≡ length out → cond b (length (printed s)) 0 ≤ length out
    go true k = omega (arith, k, length-append (printed s) (drop (length (printed s)) out), length-drop (length (printed s)) out)
    go false k = omega arith

-- what `put_line` leaves and returns of the program's reply
module _ (s : List ℕ) {fields : Fields} (r : def.Reply) (n : ℕ) (out : List ℕ) (is : fields ≡ reply_from r) (few : n ≤ word_places) (has : Choices n r)
    (room : line_room ≤ length out) (its : r ≡ program_reply s) where
  pub line-put : {exit : List ℕ} → exit ≡ printed_in fields n out → exit ≡ line_put s out
  unfolding line_put printed
  line-put e = line-left r n out is few has room e ∙ rw (le-leb line_room (length out) room, its)

  pub length-told : {k : ℕ} → k ≡ printed_length fields n out → k ≡ line_length s out
  unfolding line_length printed
  length-told e = line-length r n out is few has room e ∙ rw (le-leb line_room (length out) room, its)
