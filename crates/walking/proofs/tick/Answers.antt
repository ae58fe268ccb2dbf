-- A check that goes on tests the member, if it may. Assumes nothing.
use mathlib.Core.Path.{sym, ◌∙◌}
use native.Mathlib.Omega.{arith}
use Rattle.automata.specs.Members.{member}
use Rattle.walking.proofs.TallyLaws.{tick_stays, tick_used, tick_counted, tick_missed}
use Rattle.walking.proofs.tick.Goals as goal

pub returns-then-stopped : goal.returns-then-stopped
returns-then-stopped c =
    tick_stays _ c.args.task.now.allowance c.args.t (member c.args.root c.args.word) (c.stopped.ensures.halted c.if-stopped.true)

pub returns-then-task-t : goal.returns-then-task-t
returns-then-task-t c =
    tick_used _ c.args.task.now.allowance c.args.t c.args.root c.args.word (c.stopped.ensures.going c.if-stopped.false) (omega (arith, c.if-task-t.true))

pub returns-then-not-passed : goal.returns-then-not-passed
returns-then-not-passed c =
    tick_missed _ c.args.task.now.allowance c.args.t c.args.root c.args.word (c.stopped.ensures.going c.if-stopped.false) (omega (arith, c.if-task-t.false)) (sym c.passes-passed.ensures ∙ c.if-not-passed.true)

pub returns : goal.returns
returns c =
    tick_counted _ c.args.task.now.allowance c.args.t c.args.root c.args.word (c.stopped.ensures.going c.if-stopped.false) (omega (arith, c.if-task-t.false)) (sym c.passes-passed.ensures ∙ c.if-not-passed.false)
