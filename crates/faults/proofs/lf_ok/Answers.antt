-- The level is that of the record's state, and the rule speaks of nothing else but its mask and its coefficients. Assumes nothing.
use mathlib.Core.Path.{ap, ◌∙◌}
use Rattle.stored.specs.Form.{form_of, set_of}
use Rattle.stored.specs.Rules.{lf_ok}
use Rattle.records.specs.Read.{lf_of}
use Rattle.records.proofs.ReadLaws.{lf_read_lem}
use Rattle.faults.proofs.FaultLaws.{ok-is, last-is}
use Rattle.faults.proofs.lf_ok.Goals as goal

pub returns : goal.returns
returns c =
    simp (c.eq.ensures, c.from.ensures, last-is, c.level_of-own.ensures.is, c.amp_ok-range.ensures) (ok-is c.args.s.now c.args.n c.requires.0 (form_of c.args.s.now).k c.lf_at-l.result)
    ∙ ap (lf_ok (set_of c.args.s.now)) (ap (lf_of (form_of c.args.s.now).k) c.lf_at-l.ensures ∙ lf_read_lem (form_of c.args.s.now).k c.args.s.now c.args.at)
