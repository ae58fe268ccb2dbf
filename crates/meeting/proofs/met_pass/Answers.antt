-- One end state after the other, up to one that fails. Assumes nothing.
use Rattle.std.proofs.Common.{arith, ◌≡◌, Bool, true, false, ℕ, ◌+◌, ◌≤◌, ◌<◌, sym, ◌∙◌}
use Rattle.meeting.proofs.NextLaws.{pass_first, pass_next, pass_stops, pass_all}
use Rattle.meeting.proofs.met_pass.Goals as goal

pub loop-e-init : goal.loop-e-init
loop-e-init g c =
    (omega arith, λ t h. pass_first t c.args.wide c.args.met.now c.args.s c.args.start c.args.stop)

pub next_met-requires : goal.next_met-requires
next_met-requires g c = λ e lo hi.
    c.requires.there e (omega arith) hi

pub returns-then-not-passes : goal.returns-then-not-passes
returns-then-not-passes g c = λ t h.
    let from : c.loop-e.from ≤ c.in-Some.e = c.in-Some.ensures.after in
    let is : c.passes.result ≡ t c.args.s c.in-Some.e = h c.in-Some.e c.passes.result (omega arith) c.in-Some.ensures.before c.passes.ensures in
    pass_stops t c.args.wide c.args.met.now c.args.s c.args.start c.args.stop (c.loop-e.invariant.1 t h) c.in-Some.ensures (sym is ∙ c.if-not-passes.true)

pub loop-e-smaller : goal.loop-e-smaller
loop-e-smaller g c =
    let from : c.loop-e.from ≤ c.in-Some.e = c.in-Some.ensures.after in
    let to : c.in-Some.e < c.args.stop = c.in-Some.ensures.before in
    omega arith

pub loop-e-preserved : goal.loop-e-preserved
loop-e-preserved g c =
    let from : c.loop-e.from ≤ c.in-Some.e = c.in-Some.ensures.after in (
      omega arith,
      λ t h.
          let is : c.passes.result ≡ t c.args.s c.in-Some.e = h c.in-Some.e c.passes.result (omega arith) c.in-Some.ensures.before c.passes.ensures in
          pass_next t c.args.wide c.args.met.now c.args.s c.args.start c.args.stop (c.loop-e.invariant.1 t h) c.in-Some.ensures (sym is ∙ c.if-not-passes.false),
    )

pub returns : goal.returns
returns g c = λ t h.
    pass_all t c.args.wide c.args.met.now c.args.s c.args.start c.args.stop (c.loop-e.invariant.1 t h) c.in_default.ensures
