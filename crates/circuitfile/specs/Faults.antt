-- Document 01, reply 12, "GT: mark, code, target, control or zero byte wrong", as the fault of a record that is no gate.
use Rattle.std.specs.Prelude as code
use Rattle.std.specs.declared.option.Option.TheVariants.{Some, None}
use Rattle.std.proofs.Math.Option.{Option, none, some}
use Rattle.gates.specs.Gate as def
use Rattle.refusals.specs.declared.Reason as refusals
use Rattle.refusals.specs.declared.Reason.TheVariants as why

abbrev pub gate_fault : Option def.Gate → code.Option refusals.Reason
gate_fault (some g) = None
gate_fault none = Some why.Gate
