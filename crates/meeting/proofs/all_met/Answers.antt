-- One image state after the other, up to one that fails. Assumes nothing.
use Rattle.std.proofs.Common.{arith, ◌≡◌, Bool, true, false, ℕ, ◌+◌, ◌-◌, ◌≤◌, ◌<◌, sym, ◌∙◌}
use Rattle.meeting.specs.All.{met_by, met_in}
use Rattle.meeting.proofs.AllLaws.{all_none, all_on, all-stops, all_done}
use Rattle.meeting.proofs.all_met.Goals as goal

pub loop-s-init : goal.loop-s-init
unfolding met_in
loop-s-init g c = λ t h.
    all_none (λ s. met_by t c.args.wide c.args.met.now s c.args.level.start (c.args.level.stop - c.args.level.start)) c.args.level.from (c.args.level.from - c.args.level.from) (omega arith)

pub returns-then-not-met_pass : goal.returns-then-not-met_pass
unfolding met_in
returns-then-not-met_pass g c = λ t h.
    all-stops (λ s. met_by t c.args.wide c.args.met.now s c.args.level.start (c.args.level.stop - c.args.level.start)) c.args.level.from c.loop-s.s c.args.level.to
    c.loop-s.auto.s c.loop-s-test.true
    (sym (c.met_pass.ensures t (λ e b lo hi k. h c.loop-s.s e b c.loop-s.auto.s c.loop-s-test.true lo hi k)) ∙ c.if-not-met_pass.true)

pub loop-s-preserved : goal.loop-s-preserved
unfolding met_in
loop-s-preserved g c = λ t h.
    all_on (λ s. met_by t c.args.wide c.args.met.now s c.args.level.start (c.args.level.stop - c.args.level.start)) c.args.level.from c.loop-s.s
    c.loop-s.auto.s (c.loop-s.invariant t h)
    (sym (c.met_pass.ensures t (λ e b lo hi k. h c.loop-s.s e b c.loop-s.auto.s c.loop-s-test.true lo hi k)) ∙ c.if-not-met_pass.false)

pub returns : goal.returns
unfolding met_in
returns g c = λ t h.
    all_done (λ s. met_by t c.args.wide c.args.met.now s c.args.level.start (c.args.level.stop - c.args.level.start)) c.args.level.from c.loop-s.s c.args.level.to
    c.loop-s-test.false c.loop-s.auto.s-end (c.loop-s.invariant t h)
