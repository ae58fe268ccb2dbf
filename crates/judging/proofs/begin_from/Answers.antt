-- Root after root, while there is room. Assumes nothing.
use mathlib.Core.Path.{◌≡◌, refl, ◌∙◌}
use Prim.Native.Nat.{◌<◌}
use native.Mathlib.Omega.{arith}
use Rattle.meeting.proofs.Places.{words-before}
use Rattle.judging.proofs.Starts.{starting, starting_on, started}
use Rattle.judging.proofs.begin_from.Goals as goal

pub loop-e-init : goal.loop-e-init
loop-e-init c =
    (refl, omega arith, omega arith, starting)

pub returns-then-p-room : goal.returns-then-p-room
returns-then-p-room c =
    started c.loop-e.invariant.3 (λ lt lt'. omega (arith, c.if-p-room.true))

pub begin_pair-p-requires : goal.begin_pair-p-requires
begin_pair-p-requires c =
    let lt : c.loop-e.p < c.args.room = omega (arith, c.loop-e.invariant.2, c.if-p-room.false) in
    let w = words-before c.args.plane c.loop-e.p c.args.room lt in
    (c.requires.0, omega (arith, c.requires.1, c.loop-e.invariant.3.beginning.long), omega (arith, c.requires.2, c.loop-e.invariant.0), omega arith, omega (arith, c.requires.3, c.loop-e.auto.e), c.loop-e-test.true)

pub loop-e-preserved : goal.loop-e-preserved
loop-e-preserved c =
    let lt : c.loop-e.p < c.args.room = omega (arith, c.loop-e.invariant.2, c.if-p-room.false) in (
      c.begin_pair-p.auto.scratch ∙ c.loop-e.invariant.0,
      omega (arith, c.loop-e-test.true),
      omega (arith, c.begin_pair-p.ensures.0.most),
      starting_on c.loop-e.invariant.3 c.loop-e-test.true lt c.begin_pair-p.auto.stack c.begin_pair-p.ensures.0 c.begin_pair-p.ensures.1,
    )

pub returns : goal.returns
returns c =
    let e : c.max.result ≡ c.loop-e.e = omega (arith, c.max.ensures, c.loop-e-test.false, c.loop-e.invariant.1, c.loop-e.auto.e) in
    rw e (started c.loop-e.invariant.3 (λ lt lt'. omega (arith, c.loop-e-test.false)))
