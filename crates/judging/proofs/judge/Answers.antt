-- Batch after batch of the end's roots: those before e match by no word. Assumes nothing.
use mathlib.Core.Path.{◌≡◌, refl, sym, ◌∙◌}
use Prim.Native.Nat.{◌+◌}
use native.Mathlib.Omega.{arith}
use Rattle.matching.proofs.Grounds.{level-there}
use Rattle.matching.proofs.Turns.{hints-again}
use Rattle.matching.proofs.Roots.{lent_again, root_seeking, all_hints}
use Rattle.matching.specs.On.{automaton_of}
use Rattle.judging.proofs.Turning.{rooting, rooting_on, rooted-all, whole_word, root_rooted, apt, judge_roots, spaced-again}
use Rattle.judging.proofs.judge.Goals as goal

pub bounds-sides-0 : goal.bounds-sides-0
bounds-sides-0 c =
    level-there c.requires.0.ends 0 (omega arith)

pub bounds-sides-0-2 : goal.bounds-sides-0-2
bounds-sides-0-2 c =
    level-there c.requires.0.image 0 (omega arith)

pub hint_from-requires : goal.hint_from-requires
hint_from-requires c =
    root_seeking c.requires.1

pub loop-e-init : goal.loop-e-init
loop-e-init c =
    (refl, refl, rooting (automaton_of c.args.sides.now.image) (automaton_of c.args.sides.now.end) c.args.word.now c.args.n c.args.root)

pub begin_from-start-requires : goal.begin_from-start-requires
begin_from-start-requires c =
    let long = (lent_again c.requires.1 c.hint_from.auto.may).long in
    (root_rooted c.requires.0 long c.requires.3, omega (arith, c.requires.2.high, c.loop-e.invariant.0), omega (arith, c.requires.2.long, c.loop-e.invariant.1), omega arith)

pub judge_from-requires : goal.judge_from-requires
judge_from-requires c =
    let z : 0 + c.args.n ≡ c.args.n = omega arith in
    let long = (lent_again c.requires.1 c.hint_from.auto.may).long in
    (judge_roots c.requires.0 (spaced-again (c.begin_from-start.auto.stack ∙ c.loop-e.invariant.0) (c.begin_from-start.auto.scratch ∙ c.loop-e.invariant.1) c.requires.2) c.begin_from-start.ensures.few, hints-again z (all_hints c.hint_from.ensures long))

pub returns-then-judge_from : goal.returns-then-judge_from
returns-then-judge_from c =
    sym (c.begin_from-start.ensures.sound (automaton_of c.args.sides.now.image) (automaton_of c.args.sides.now.end) c.args.word.now c.args.n (whole_word c.requires.0) (sym c.judge_from.ensures.0 ∙ c.if-judge_from.true))

pub loop-e-smaller : goal.loop-e-smaller
loop-e-smaller c =
    let on = c.begin_from-start.ensures.moves c.loop-e-test.true c.requires.2.some in
    omega (arith, on, c.loop-e-test.true)

pub loop-e-preserved : goal.loop-e-preserved
loop-e-preserved c =
    let long = (lent_again c.requires.1 c.hint_from.auto.may).long in (
      c.judge_from.auto.stack ∙ c.begin_from-start.auto.stack ∙ c.loop-e.invariant.0,
      c.judge_from.auto.scratch ∙ c.begin_from-start.auto.scratch ∙ c.loop-e.invariant.1,
      rooting_on c.loop-e.invariant.2 c.begin_from-start.ensures (whole_word c.requires.0) (apt c.requires.0 c.requires.3 (all_hints c.hint_from.ensures long)) (sym c.judge_from.ensures.0 ∙ c.if-judge_from.false),
    )

pub returns : goal.returns
returns c =
    rooted-all _ c.loop-e-test.false c.loop-e.invariant.2
