-- The levels are those of the record's three states, and the rule speaks of nothing else but its mask. Assumes nothing.
use mathlib.Core.Path.{ap, ◌∙◌}
use Rattle.stored.specs.Form.{set_of}
use Rattle.stored.specs.Rules.{tr_fault}
use Rattle.records.specs.Read.{tr_of}
use Rattle.records.proofs.ReadLaws.{tr_read_lem}
use Rattle.faults.specs.Fault.{reason_of}
use Rattle.faults.proofs.FaultLaws.{fault_is}
use Rattle.faults.proofs.tr_fault.Goals as goal

pub returns : goal.returns
returns c =
    c.fault_of.ensures
    ∙ ap reason_of
    (simp (c.level_of-right.ensures.is, c.level_of-left.ensures.is, c.level_of-own.ensures.is) (fault_is c.args.s.now c.args.n c.requires.0 c.tr_at-t.result)
    ∙ ap (tr_fault (set_of c.args.s.now)) (ap tr_of c.tr_at-t.ensures ∙ tr_read_lem c.args.s.now c.args.at))
