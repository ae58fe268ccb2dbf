-- Document 01, reply 12, "GT: mark, code, target, control or zero byte wrong", of a record's six bytes rather than of a place in a file.
use Rattle.std.specs.Prelude.{cond, ◌&&◌, ℕ, eqb}
use Rattle.std.proofs.Math.Option.{Option, none}
use Rattle.gates.specs.Gate.{Gate}
use Rattle.gates.specs.Circuit.{is_qubit, gate_of}

-- "GT, code, target, control, zero": G is 71 and T is 84
abbrev pub gate_of_bytes : ℕ → ℕ → ℕ → ℕ → ℕ → ℕ → ℕ → Option Gate
gate_of_bytes n mark0 mark1 code target control last =
    cond ((eqb mark0 71 && eqb mark1 84) && (is_qubit n target && eqb last 0)) (gate_of n code target control) none
