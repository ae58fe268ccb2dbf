-- Document 01, the job *Check*: "start, circuit, end, allowance B (32 bits, unsigned), work buffers".
use Rattle.std.specs.Prelude.{List, ℕ, eqb}
use Rattle.automata.specs.Sets.{QSet}
use Rattle.stored.specs.Refusal.{Judged, good, need, on_good, refusal, no_source, start_source, end_source}
use Rattle.stored.specs.Rules.{set_bounds, end_bounds}
use Rattle.stored.specs.Judge.{judge_set}
use Rattle.gates.specs.Gate.{Gate}
use Rattle.gates.specs.Circuit.{judge_circuit}
use Rattle.gates.specs.Refuse.{after_gates}
use Rattle.verdict.specs.Verdict.{verdict}
use Rattle.jobs.specs.Reply.{Reply, says, reply_of}
use Rattle.jobs.specs.Buffers.{Buffer, long_enough, work_after}

-- what an unrefused check is about
pub record Ready : Type 0 where
  pub start : QSet
  pub gates : List Gate
  pub end : QSet

abbrev pub ready : QSet → List Gate → QSet → Ready
ready Q gs E = record { start = Q; gates = gs; end = E }

-- 13, "the end set has another n", then the gates
abbrev pub together : QSet → List Gate → QSet → Judged Ready
together Q gs E =
    need (eqb E.n Q.n) (refusal 13 no_source 0)
    (on_good (after_gates set_bounds 1 gs Q) (λ P. good (ready Q gs E)))

-- "start set 1 to 10, circuit 11 and 12, end set 1 to 10, 13, then gate by gate 15, 14, 16"; the circuit's stage is an argument
unfoldable pub judge_by : (QSet → Judged (List Gate)) → List ℕ → List ℕ → Judged Ready
judge_by circuit s e =
    on_good (judge_set set_bounds start_source s) (λ Q.
    on_good (circuit Q) (λ gs.
    on_good (judge_set end_bounds end_source e) (λ E. together Q gs E)))

unfoldable pub judge_check : List ℕ → List ℕ → List ℕ → Judged Ready
judge_check s c e = judge_by (λ Q. judge_circuit Q.n c) s e

-- the verdict of an unrefused check
abbrev pub answer : ℕ → Ready → Reply
answer b J = says (verdict J.start J.gates J.end b)

-- the reply where all buffers are long enough
unfoldable pub check_answer : List ℕ → List ℕ → List ℕ → ℕ → Reply
check_answer s c e b = reply_of (answer b) (judge_check s c e)

-- 17 comes first
unfoldable pub check_reply : List ℕ → List ℕ → List ℕ → List ℕ → ℕ → List Buffer → Reply
check_reply sizes s c e b work = reply_of (answer b) (need (long_enough sizes work) (refusal 17 no_source 0) (judge_check s c e))

unfoldable pub check_work : List ℕ → List Buffer → List Buffer
check_work sizes work = work_after (long_enough sizes work) sizes work
