-- The one-gate job's whole effect where it is not refused: the output begins with a well-formed set of the same roots and members, whose trees
-- are the gate's matrix applied to the old ones, and the output keeps its length. Assumes nothing.
use mathlib.Core.Path.{◌≡◌, ◌∙◌}
use mathlib.Core.List.{List}
use Prim.Native.Nat.{ℕ, ◌≤◌}
use native.Mathlib.Omega.{arith}
use lib.ListN.{length, take, drop, length-append, length-drop}
use lib.Seq.{take-append_seam}
use borrow.Author.Tests.{leb-true}
use Rattle.automata.specs.Sets.{QSet}
use Rattle.stored.specs.Refusal.{good, refusal, no_source}
use Rattle.stored.specs.Rules.{set_bounds}
use Rattle.stored.specs.Judge.{judge_set}
use Rattle.stored.specs.Pack.{file_of}
use Rattle.stored.proofs.Reading.{Bytes, well_formed, need-good}
use Rattle.gates.specs.Gate.{Gate}
use Rattle.gates.specs.Circuit.{judge_one}
use Rattle.gates.proofs.Fits.{one-fits}
use Rattle.gates.proofs.Circuits.{Carries, carries, went}
use Rattle.gates.proofs.WellBuilt.{WellStored, well_stored}
use Rattle.jobs.specs.Reply.{made}
use Rattle.jobs.specs.OneGate.{output_size, new_set, one_gate_long, one_gate_judged, one_gate_reply, one_gate_output}

-- what the job made: Q was read, gs are its gates, N is the new set
pub record Made (s c : List ℕ) (Q : QSet) (gs : List Gate) (N : QSet) : Type 0 where
  pub set : judge_set set_bounds 1 s ≡ good Q
  pub gates : judge_one Q.n c ≡ good gs
  pub carried : Carries set_bounds gs Q N
  pub stored : WellStored N

pub new_set_lem : (s c : List ℕ) (N : QSet) → Bytes s → new_set s c ≡ good N → (Q : QSet) × (gs : List Gate) × Made s c Q gs N
unfolding new_set
new_set_lem s c N b h =
    let x = went (judge_set set_bounds 1 s) _ N h in
    let y = went (judge_one x.0.n c) _ N x.2 in
    let k : Carries set_bounds y.0 x.0 N = carries set_bounds 1 y.0 x.0 N (well_formed set_bounds 1 s x.0 b x.1) (one-fits x.0.n c y.0 y.1) y.2 in
    (x.0, y.0, record { set = x.1; gates = y.1; carried = k; stored = well_stored N k.formed })

-- the reply is the new set's length, and the output begins with it and keeps its own length
pub record Written (s c output : List ℕ) (N : QSet) : Type 0 where
  pub reply : one_gate_reply s c output ≡ made (length (file_of N))
  pub front : take (length (file_of N)) (one_gate_output s c output) ≡ file_of N
  pub kept : length (one_gate_output s c output) ≡ length output

pub written : (s c output : List ℕ) (N : QSet) → Bytes s → one_gate_judged s c output ≡ good N → Written s c output N
unfolding one_gate_reply one_gate_output one_gate_judged one_gate_long
written s c output N b h =
    let n = need-good (one_gate_long output) (refusal 17 no_source 0) (new_set s c) N h in
    let long : output_size ≤ length output = leb-true output_size (length output) n.0 in
    let m = new_set_lem s c N b n.1 in
    let short : length (file_of N) ≤ 49248 = m.2.stored.short in
    record {
      reply = rw h;
      front = rw h (take-append_seam (file_of N) (drop (length (file_of N)) output));
      kept = rw h (length-append (file_of N) (drop (length (file_of N)) output) ∙ (let d = length-drop (length (file_of N)) output in omega arith));
    }
