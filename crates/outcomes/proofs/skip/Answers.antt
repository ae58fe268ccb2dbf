-- Members that all pass use up the allowance, or are counted. Assumes nothing.
use mathlib.Core.Path.{sym, ap, ◌∙◌}
use native.Mathlib.Omega.{arith}
use Rattle.walking.proofs.TallyLaws.{tally_halted}
use Rattle.blocks.proofs.Counts.{gone_on, as_gone, skip_fits, skip_ends, skip_over, skip_none}
use Rattle.outcomes.proofs.skip.Goals as goal

pub returns-then-stopped : goal.returns-then-stopped
returns-then-stopped c =
    λ passes ms e h. sym (tally_halted passes c.args.b c.args.t ms (c.stopped.ensures.halted c.if-stopped.true))

pub returns-then-m-eq0 : goal.returns-then-m-eq0
returns-then-m-eq0 c =
    λ passes ms e h. skip_none passes c.args.b ms c.args.t (e ∙ c.if-m-eq0.true)

pub returns-then-t-b : goal.returns-then-t-b
returns-then-t-b c =
    λ passes ms e h. skip_over passes c.args.b ms c.args.t (c.stopped.ensures.going c.if-stopped.false) (λ z. c.if-m-eq0.false (sym e ∙ z)) (omega (arith, c.if-t-b.true))

pub returns-then-b-t : goal.returns-then-b-t
returns-then-b-t c =
    λ passes ms e h. skip_ends passes c.args.b ms c.args.t (c.stopped.ensures.going c.if-stopped.false) h (omega (arith, c.if-t-b.false)) (omega (arith, e, c.if-t-b.false, c.if-b-t.true))

pub returns : goal.returns
returns c =
    λ passes ms e h.
    as_gone c.args.t c.args.m (c.stopped.ensures.going c.if-stopped.false)
    ∙ ap (gone_on c.args.t) (sym e)
    ∙ skip_fits passes c.args.b ms c.args.t (c.stopped.ensures.going c.if-stopped.false) h (λ z. c.if-m-eq0.false (sym e ∙ z)) (omega (arith, e, c.if-t-b.false, c.if-b-t.false))
