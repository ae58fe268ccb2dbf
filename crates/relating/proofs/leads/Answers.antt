-- The relations before j do not lead there. Assumes nothing.
use mathlib.Core.Path.{sym, ◌∙◌}
use native.Mathlib.Omega.{arith}
use Rattle.meeting.proofs.Places.{words-before}
use Rattle.relating.proofs.Relations.{below-is, below_none, none_on}
use Rattle.relating.proofs.leads.Goals as goal

pub loop-j-init : goal.loop-j-init
loop-j-init c =
    λ word at is i lt. absurd (omega arith)

pub plane_leads-requires : goal.plane_leads-requires
plane_leads-requires c =
    let w = words-before c.args.plane c.loop-j.j c.args.p c.loop-j-test.true in
    (c.requires.0, c.requires.1, omega (arith, c.requires.2))

pub returns-then-plane_leads : goal.returns-then-plane_leads
returns-then-plane_leads c =
    λ word at is. sym (below-is _ _ c.loop-j.j c.loop-j-test.true (sym (c.plane_leads.ensures word at is) ∙ c.if-plane_leads.true))

pub loop-j-preserved : goal.loop-j-preserved
loop-j-preserved c =
    λ word at is. none_on _ (c.loop-j.invariant word at is) (sym (c.plane_leads.ensures word at is) ∙ c.if-plane_leads.false)

pub returns : goal.returns
returns c =
    λ word at is. below_none c.args.p _ (λ i lt. c.loop-j.invariant word at is i (omega (arith, c.loop-j-test.false)))
