-- Document 01, the job *One gate*: "set (source 1), a circuit of exactly 6 bytes (else 11), output of at least 49,248 bytes (else 17)".
use Rattle.std.specs.Prelude.{Bool, List, ◌++◌, ℕ, length, drop, leb}
use Rattle.automata.specs.Sets.{QSet}
use Rattle.stored.specs.Refusal.{Judged, refused, good, need, on_good, refusal, no_source, start_source}
use Rattle.stored.specs.Rules.{set_bounds}
use Rattle.stored.specs.Judge.{judge_set}
use Rattle.stored.specs.Pack.{file_of}
use Rattle.gates.specs.Circuit.{judge_one}
use Rattle.gates.specs.Refuse.{after_gates}
use Rattle.jobs.specs.Reply.{Reply, made, reply_of}

abbrev pub output_size : ℕ
output_size = 49248

-- start set 1 to 10, circuit 11 and 12, then the gate 15, 14, 16
unfoldable pub new_set : List ℕ → List ℕ → Judged QSet
new_set s c = on_good (judge_set set_bounds start_source s) (λ Q. on_good (judge_one Q.n c) (λ gs. after_gates set_bounds 1 gs Q))

-- "output of at least 49,248 bytes (else 17)". "Its work buffers, if any": it lends none, so the output is all that is lent
unfoldable pub one_gate_long : List ℕ → Bool
one_gate_long output = leb output_size (length output)

-- 17 comes first
unfoldable pub one_gate_judged : List ℕ → List ℕ → List ℕ → Judged QSet
one_gate_judged s c output = need (one_gate_long output) (refusal 17 no_source 0) (new_set s c)

-- "It writes the new set at the front and returns the length"
unfoldable pub one_gate_reply : List ℕ → List ℕ → List ℕ → Reply
one_gate_reply s c output = reply_of (λ N. made (length (file_of N))) (one_gate_judged s c output)

-- "bytes after it, and all output bytes on refusal, stay"
abbrev pub with_file : List ℕ → Judged QSet → List ℕ
with_file output (refused r) = output
with_file output (good N) = file_of N ++ drop (length (file_of N)) output

unfoldable pub one_gate_output : List ℕ → List ℕ → List ℕ → List ℕ
one_gate_output s c output = with_file output (one_gate_judged s c output)
