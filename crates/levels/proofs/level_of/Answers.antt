-- What is left of the number, looked for from this level on, comes to the level of the whole. Assumes nothing.
use mathlib.Core.Path.{ap, ◌∙◌}
use mathlib.Core.List.{List}
use Prim.Native.Nat.{ℕ, ◌+◌, ◌*◌}
use native.Mathlib.Omega.{arith}
use Rattle.automata.specs.Sets.{level_in}
use Rattle.stored.specs.Form.{count_at}
use Rattle.levels.proofs.LevelLaws.{whole, level-here, level_on, level-end}
use Rattle.levels.proofs.level_of.Goals as goal

pub loop-above-init : goal.loop-above-init
loop-above-init c = ap (λ (cs : List ℕ). level_in 1 cs c.args.state) (whole c.args.s.now c.args.n c.requires)

pub returns-then-rest-here-clause-is : goal.returns-then-rest-here-clause-is
returns-then-rest-here-clause-is c =
    let is = c.count_at-here.ensures ∙ ap (λ (i : ℕ). count_at c.args.s.now (12 + 4 * i)) c.from.ensures in
    level-here c.args.s.now c.args.n c.loop-above.above c.count_at-here.result c.loop-above.rest (omega arith) is c.if-rest-here.true ∙ c.loop-above.invariant

pub loop-above-preserved : goal.loop-above-preserved
loop-above-preserved c =
    let is = c.count_at-here.ensures ∙ ap (λ (i : ℕ). count_at c.args.s.now (12 + 4 * i)) c.from.ensures in
    level_on c.args.s.now c.args.n c.loop-above.above c.count_at-here.result c.loop-above.rest (omega arith) is c.if-rest-here.false ∙ c.loop-above.invariant

pub returns-clause-is : goal.returns-clause-is
returns-clause-is c =
    let e = level-end c.args.s.now c.args.n c.loop-above.above c.loop-above.rest (omega arith) ∙ c.loop-above.invariant in
    omega (arith, e)
