-- Document 01, "Order: .. start set 1 to 10, circuit 11 and 12, end set 1 to 10, 13", over any bounds: all files of a check judged, before any gate.
use Rattle.std.specs.Prelude.{List, ℕ, eqb, length}
use Rattle.automata.specs.Sets.{QSet}
use Rattle.stored.specs.Refusal.{Judged, good, need, on_good, refusal, no_source, start_source, end_source}
use Rattle.stored.specs.Rules.{Bounds}
use Rattle.stored.specs.Judge.{judge_set}
use Rattle.gates.specs.Gate.{Gate}
use Rattle.gates.specs.Circuit.{judge_circuit}
use Rattle.jobs.specs.Check.{Ready, ready}
use Rattle.standing.specs.Standing.{form_of}
use Rattle.preparing.specs.declared.Files.{Files}

-- 13: "the end set has another n"
abbrev pub same_n : QSet → ℕ → Judged QSet
same_n E n = need (eqb E.n n) (refusal 13 no_source 0) (good E)

-- before it the end set 1 to 10
unfoldable pub end_judged : Bounds → ℕ → List ℕ → Judged QSet
end_judged b n e = on_good (judge_set b end_source e) (λ E. same_n E n)

abbrev pub end_ready : Bounds → QSet → List Gate → List ℕ → Judged Ready
end_ready b Q gs e = on_good (end_judged b Q.n e) (λ E. good (ready Q gs E))

-- before them the circuit 11 and 12
unfoldable pub rest_judged : Bounds → QSet → List ℕ → List ℕ → Judged Ready
rest_judged b Q c e = on_good (judge_circuit Q.n c) (λ gs. end_ready b Q gs e)

-- before them the start set 1 to 10
unfoldable pub files_judged : Bounds → Bounds → List ℕ → List ℕ → List ℕ → Judged Ready
files_judged b eb s c e = on_good (judge_set b start_source s) (λ Q. rest_judged eb Q c e)

-- what the code says of files that are all good
abbrev pub files_of : Ready → Files
files_of J = record { form = form_of J.start; count = length J.gates; endform = form_of J.end }
