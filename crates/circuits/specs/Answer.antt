-- Document 01, "a gate is plain with its kind, or controlled with its control and kind": the definitions' kinds and gates as the enums of
-- the code.
use Rattle.std.proofs.Math.Option.{Option, none, some}
use Rattle.std.specs.Prelude as code
use Rattle.std.specs.declared.option.Option.TheVariants.{Some, None}
use Rattle.gates.specs.Gate as def
use Rattle.gates.specs.Gate.{phase, flip, H, plain, controlled}
use Rattle.circuits.specs.declared.Kind.{Kind}
use Rattle.circuits.specs.declared.Kind.TheVariants as kind
use Rattle.circuits.specs.declared.Gate.{Gate}
use Rattle.circuits.specs.declared.Gate.TheVariants as gate

-- "(phase, flip, H)"
abbrev pub kind_from : def.Kind → Kind
kind_from (phase j) = kind.Phase j
kind_from (flip j) = kind.Flip j
kind_from H = kind.H

-- "plain with its kind, or controlled with its control and kind"
abbrev pub gate_from : def.Gate → Gate
gate_from (plain k t) = gate.Plain (kind_from k) t
gate_from (controlled c k t) = gate.Controlled c (kind_from k) t

-- the other way round, for what is done "Once read": the kind that the code's kind is
abbrev pub kind_is : Kind → def.Kind
kind_is (kind.Phase j) = phase j
kind_is (kind.Flip j) = flip j
kind_is kind.H = H

-- the gate that the code's gate is
abbrev pub gate_is : Gate → def.Gate
gate_is (gate.Plain k t) = plain (kind_is k) t
gate_is (gate.Controlled c k t) = controlled c (kind_is k) t

-- the kind of a code, or none
abbrev pub kind_told : code.Option Kind → Option def.Kind
kind_told None = none
kind_told (Some k) = some (kind_is k)

-- the gate of a record, or none
abbrev pub gate_told : code.Option Gate → Option def.Gate
gate_told None = none
gate_told (Some g) = some (gate_is g)
