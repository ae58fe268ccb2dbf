-- Document 01, "Stored form" and replies 11 and 12: a circuit's records, and the gates that they are.
use Rattle.std.specs.Prelude.{Bool, true, false, cond, ◌&&◌, not, List, [], ◌∷◌, ℕ, suc, ◌+◌, ◌/◌, ◌%◌, min, max, length, get_or, eqb, leb}
use Rattle.std.proofs.Math.Option.{Option, none, some}
use Rattle.stored.specs.Refusal.{Judged, good, need, refusal, circuit_source}
use Rattle.stored.specs.Fields.{mark_at, records_from}
use Rattle.stored.specs.Rules.{first_bad, passes}
use Rattle.gates.specs.Gate.{Kind, phase, flip, H, Gate, plain, controlled}

-- "up to 4,096 records of 6 bytes: GT, code, target, control, zero"
abbrev pub gt_size : ℕ
gt_size = 6

abbrev pub gates_most : ℕ
gates_most = 4096

-- "Codes: 1 X, 2 Y, 3 Z, 4 H, 5 S, 6 S†, 7 T, 8 T†, 9 CX, 10 CZ." Those of one qubit, from code 0 on, which is none.
abbrev pub kind_of : ℕ → Option Kind
kind_of code =
    get_or (none ∷ some (flip 0) ∷ some (flip 2) ∷ some (phase 4) ∷ some H ∷ some (phase 2) ∷ some (phase 6) ∷ some (phase 1) ∷ some (phase 7) ∷ []) code none

abbrev pub cx_code : ℕ
cx_code = 9

abbrev pub cz_code : ℕ
cz_code = 10

-- qubits are 1 to n
abbrev pub is_qubit : ℕ → ℕ → Bool
is_qubit n q = leb 1 q && leb q n

-- "Control is 0 for codes 1 to 8, else a qubit other than the target."
abbrev pub alone : ℕ → ℕ → Option Kind → Option Gate
alone target control none = none
alone target control (some k) = cond (eqb control 0) (some (plain k target)) none

abbrev pub guarded : ℕ → ℕ → ℕ → Gate → Option Gate
guarded n target control g = cond (is_qubit n control && not (eqb control target)) (some g) none

-- CZ: "the smaller qubit is the control"
abbrev pub gate_of : ℕ → ℕ → ℕ → ℕ → Option Gate
gate_of n code target control =
    cond (eqb code cx_code) (guarded n target control (controlled control (flip 0) target))
    (cond (eqb code cz_code) (guarded n target control (controlled (min control target) (phase 4) (max control target)))
    (alone target control (kind_of code)))

-- 12: "GT: mark, code, target, control or zero byte wrong": the gate of a record, or none
unfoldable pub gate_at : ℕ → List ℕ → ℕ → Option Gate
gate_at n s at =
    cond (mark_at 71 84 s at && (is_qubit n (get_or s (at + 3) 0) && eqb (get_or s (at + 5) 0) 0))
    (gate_of n (get_or s (at + 2) 0) (get_or s (at + 3) 0) (get_or s (at + 4) 0)) none

abbrev pub is_gate : Option Gate → Bool
is_gate none = false
is_gate (some g) = true

abbrev pub somes : List (Option Gate) → List Gate
somes [] = []
somes (none ∷ gs) = somes gs
somes (some g ∷ gs) = g ∷ somes gs

unfoldable pub records_of : ℕ → List ℕ → List (Option Gate)
records_of n s = records_from (gate_at n s) 0 gt_size (length s / gt_size)

-- the records: 12 with the place of the first bad one, from 1, or the gates
unfoldable pub judge_gates : ℕ → List ℕ → Judged (List Gate)
judge_gates n s =
    need (passes is_gate (records_of n s)) (refusal 12 circuit_source (suc (first_bad is_gate (records_of n s))))
    (good (somes (records_of n s)))

-- 11: "circuit length not a multiple of 6, or over 4,096 gates"; then 12. Qubits are held to n.
unfoldable pub judge_circuit : ℕ → List ℕ → Judged (List Gate)
judge_circuit n s = need (eqb (length s % gt_size) 0 && leb (length s / gt_size) gates_most) (refusal 11 circuit_source 0) (judge_gates n s)

-- in the one-gate job: "a circuit of exactly 6 bytes (else 11)"
unfoldable pub judge_one : ℕ → List ℕ → Judged (List Gate)
judge_one n s = need (eqb (length s) gt_size) (refusal 11 circuit_source 0) (judge_gates n s)
