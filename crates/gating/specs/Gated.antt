-- Document 01, the job *One gate*, over any bounds: what it makes of a set file and a circuit, and the slices that it works in.
use Rattle.std.specs.Prelude.{List, [], ◌∷◌, ℕ, ◌≤◌, ℤ, length}
use Rattle.automata.specs.Sets.{QSet}
use Rattle.stored.specs.Refusal.{Judged, refused, good, on_good, refusal, start_source, circuit_source}
use Rattle.stored.specs.Form.{file_size}
use Rattle.stored.specs.Rules.{Bounds, n_most}
use Rattle.stored.specs.Judge.{judge_set}
use Rattle.stored.specs.Pack.{file_of}
use Rattle.gates.specs.Gate.{Gate}
use Rattle.gates.specs.Circuit.{judge_one}
use Rattle.gates.specs.Refuse.{after_gates}
use Rattle.jobs.specs.Reply.{Reply, made, reply_of}
use Rattle.circuits.specs.Answer.{gate_from}
use Rattle.circuits.specs.declared.Gate as code
use Rattle.tables.specs.Ready.{Roomy}
use Rattle.names.specs.declared.Names.{Names}
use Rattle.tables.specs.Slices.{Table}
use Rattle.building.specs.Going.{Lists}
use Rattle.building.specs.declared.Room.{Room}
use Rattle.settling.specs.Standing.{Lent}

-- a judged circuit of one gate, as the code's gate; one that is good has a gate
abbrev pub one_judged : Judged (List Gate) → Judged code.Gate
one_judged (refused r) = refused r
one_judged (good []) = refused (refusal 12 circuit_source 1)
one_judged (good (g ∷ gs)) = good (gate_from g)

-- the circuit 11 and 12, then the gate 15, 14, 16, of a set that was taken
unfoldable pub gated_by : Bounds → QSet → List ℕ → Judged QSet
gated_by b Q c = on_good (judge_one Q.n c) (λ gs. after_gates b 1 gs Q)

-- before them the start set 1 to 10
unfoldable pub new_set_by : Bounds → List ℕ → List ℕ → Judged QSet
new_set_by b s c = on_good (judge_set b start_source s) (λ Q. gated_by b Q c)

-- "returns the length"
abbrev pub length_reply : Judged QSet → Reply
length_reply j = reply_of (λ N. made (length (file_of N))) j

-- room for the largest file within the bounds
abbrev pub largest : Room → ℕ
largest room = file_size (record { n = n_most; k = 0; states = 0; inner = room.inner; leaves = room.leaves })

-- the slices into which the gate builds, and the output
pub record Target (cur next link heads rows masks : List ℕ) (coefs : List ℤ) (counts first output : List ℕ) (room : Room) : Type 0 where
  pub lists : Lists cur next link heads room.states 0
  pub lent : Lent rows masks coefs counts first n_most room
  pub long : largest room ≤ length output

-- the same of a table and of names that are lent
abbrev pub TargetOn : List ℕ → Names → Table → List ℕ → Room → Type 0
TargetOn cur names T output room = Target cur names.keys.now names.link.now names.heads.now T.rows T.masks T.coefs T.counts T.first output room
