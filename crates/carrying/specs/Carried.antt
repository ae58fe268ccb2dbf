-- Document 01, "a circuit is .. records .. GT": the gates of records from a place on, and the set so far, judged.
use Rattle.std.specs.Prelude.{◌≡◌, List, ℕ, ◌+◌, ◌*◌, ◌<◌, ◌≤◌, length, Result, Ok}
use Rattle.std.proofs.Math.Option.{some}
use Rattle.automata.specs.Sets.{QSet}
use Rattle.stored.specs.Fields.{records_from}
use Rattle.stored.specs.Rules.{Bounds}
use Rattle.stored.specs.Refusal.{Judged}
use Rattle.gates.specs.Gate.{Gate}
use Rattle.gates.specs.Circuit.{gt_size, gate_at, somes}
use Rattle.gates.proofs.Fits.{Fits}
use Rattle.refusals.specs.declared.Refusal.{Refusal}
use Rattle.refusals.specs.Refused.{judged, seen}
use Rattle.stepwise.proofs.StoredLaws.{Light}
use Rattle.standing.specs.Tables.{Table, holder, set_on, StandsIn}
use Rattle.settling.specs.declared.Image.{Image}

-- a record that is a gate on n qubits
pub record GateThere (n : ℕ) (s : List ℕ) (at : ℕ) : Type 0 where
  pub gate : Gate
  pub is : gate_at n s at ≡ some gate
  pub fits : Fits n gate
  pub light : Light gate

-- `count` records from a place on that are gates
pub record Readable (n : ℕ) (s : List ℕ) (at count : ℕ) : Type 0 where
  pub there : at + count * gt_size ≤ length s
  pub each : (i : ℕ) → i < count → GateThere n s (at + i * gt_size)

abbrev pub gates_from : ℕ → List ℕ → ℕ → ℕ → List Gate
gates_from n s at count = somes (records_from (gate_at n s) at gt_size count)

-- the image, as it is judged
abbrev pub judged_in : Result Image Refusal → Table → Table → Judged QSet
judged_in r T U = seen (λ (i : Image). set_on i.form (holder i.second T U)) (judged r)

-- what is left after gates on n qubits: the judged set J, which stands in its holder where it is good
pub record Carried (n : ℕ) (T U : Table) (r : Result Image Refusal) (b : Bounds) (J : Judged QSet) : Type 0 where
  pub judged_is : judged_in r T U ≡ J
  pub stands : (i : Image) → r ≡ Ok i → StandsIn i.second T U i.form b
  pub qubits : (i : Image) → r ≡ Ok i → i.form.n ≡ n
