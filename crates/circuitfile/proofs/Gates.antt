-- A circuit that is taken has the gates that its records are, in order: the record at each place passed, so nothing was skipped. Assumes nothing.
use mathlib.Core.Path.{◌≡◌, sym, ap, ◌∙◌}
use mathlib.Core.Bool.{◌&&◌}
use mathlib.Core.List.{List, map}
use mathlib.Core.Option.{Option, some}
use Prim.Native.Nat.{ℕ, suc, ◌+◌, ◌*◌, ◌/◌, ◌%◌, ◌≤◌, ◌<◌}
use native.Mathlib.Omega.{arith}
use lib.ListN.{length, get_or, length-map, get_or-map}
use lib.Dec.{eqb, leb}
use borrow.Author.Tests.{eqb-true, leb-true}
use Rattle.amplitude.proofs.Equal.{both}
use Rattle.std.specs.declared.result.Result.TheVariants.{Ok}
use Rattle.stored.specs.Refusal.{refusal, Judged, good, circuit_source}
use Rattle.stored.specs.Rules.{first_bad, passes}
use Rattle.stored.proofs.Reading.{need-good, good-same}
use Rattle.gates.specs.Gate as def
use Rattle.gates.specs.Circuit.{gt_size, gates_most, gate_at, is_gate, somes, records_of, judge_gates, judge_circuit, judge_one}
use Rattle.refusals.specs.Refused.{judged, seen}
use Rattle.refusals.proofs.Told.{good_seen}
use Rattle.circuitfile.proofs.Scan.{record_at}
use Rattle.circuitfile.proofs.Judging.{all-gates, count_of}

-- the gates of a file that was taken: its length, the limit, and what `gate_at` answers at 0, 6, 12, ..
pub record Gates (n : ℕ) (s : List ℕ) (gs : List def.Gate) : Type 0 where
  pub whole : length s ≡ length gs * gt_size
  pub few : length gs ≤ gates_most
  pub answers : (i : ℕ) (d : def.Gate) → i < length gs → gate_at n s (i * gt_size) ≡ some (get_or gs i d)

module _ (n : ℕ) (s : List ℕ) (gs : List def.Gate) where
  -- the records are the gates
  records-are : judge_gates n s ≡ good gs → records_of n s ≡ map some gs
  unfolding judge_gates
  records-are e =
      let rs : List (Option def.Gate) = records_of n s in
      let p = need-good (passes is_gate rs) (refusal 12 circuit_source (suc (first_bad is_gate rs))) (good (somes rs)) gs e in
      sym (all-gates rs (eqb-true (first_bad is_gate rs) (length rs) p.0)) ∙ ap (map some) (good-same (somes rs) gs p.1)

  gates_of : length s % gt_size ≡ 0 → length s / gt_size ≤ gates_most → judge_gates n s ≡ good gs → Gates n s gs
  unfolding records_of
  gates_of even most e =
      let are = records-are e in
      let many : length s / gt_size ≡ length gs = sym (count_of n s) ∙ ap length are ∙ length-map gs some in
      record {
        whole = omega arith;
        few = omega arith;
        answers = λ i d h.
            let at : get_or (records_of n s) i (some d) ≡ gate_at n s (0 + i * gt_size) = record_at (gate_at n s) gt_size 0 (length s / gt_size) i (some d) (omega arith) in
            ap (gate_at n s) (omega arith) ∙ sym at ∙ ap (λ (os : List (Option def.Gate)). get_or os i (some d)) are ∙ get_or-map some gs i d;
      }

  pub circuit_gates : judge_circuit n s ≡ good gs → Gates n s gs
  unfolding judge_circuit
  circuit_gates e =
      let p = need-good (eqb (length s % gt_size) 0 && leb (length s / gt_size) gates_most) (refusal 11 circuit_source 0) (judge_gates n s) gs e in
      let t = both (eqb (length s % gt_size) 0) (leb (length s / gt_size) gates_most) p.0 in
      gates_of (eqb-true (length s % gt_size) 0 t.0) (leb-true (length s / gt_size) gates_most t.1) p.1

  pub one-gate : judge_one n s ≡ good gs → Gates n s gs
  unfolding judge_one
  one-gate e =
      let p = need-good (eqb (length s) gt_size) (refusal 11 circuit_source 0) (judge_gates n s) gs e in
      let six : length s ≡ gt_size = eqb-true (length s) gt_size p.0 in
      gates_of (omega arith) (omega arith) p.1

-- a value is the number of gates of a circuit that was taken
pub good-told : (j : Judged (List def.Gate)) (count : ℕ) → judged (Ok count) ≡ seen length j → (gs : List def.Gate) × (j ≡ good gs) × (length gs ≡ count)
good-told j count e = let k = good_seen length j count e in (k.thing, k.good, sym k.value)
