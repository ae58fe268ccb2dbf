-- A level's records come first and those of the levels below it behind them, so what one level and the rest of them leave is what the numbering of
-- all of them says; the measure is how many levels are left. Assumes nothing.
use mathlib.Core.Path.{refl}
use Prim.Native.Nat.{◌<◌, ◌≤◌}
use Rattle.building.proofs.Steps.{gave_up}
use Rattle.building.proofs.Climb.{first_count, last_numbered, level-over, next_going, climbed-on}
use Rattle.building.proofs.Rounds.{keyed, leaf-keys}
use Rattle.circuits.specs.Answer.{gate_is}
use Rattle.tables.specs.Slices.{table_is}
use Rattle.descending.proofs.Passing.{lists_on, rest_on, rest-lent, same-built}
use lib.ListN.{length, set}
use native.Mathlib.Omega.{arith}
use Rattle.descending.proofs.+build_levels_rest_levels.Goals as goal

pub build_levels-last_level-requires-clause-by_index : goal.build_levels-last_level-requires-clause-by_index
build_levels-last_level-requires-clause-by_index t c =
    let there : c.args.here.count ≤ length c.args.cur.now = omega (arith, c.requires.lists.here, c.requires.rest.few) in
    leaf-keys c.requires.going there c.if-here-eq0.true

pub build_levels-returns-then-here-eq0 : goal.build_levels-returns-then-here-eq0
build_levels-returns-then-here-eq0 t c =
    let there : c.args.here.count ≤ length c.args.cur.now = omega (arith, c.requires.lists.here, c.requires.rest.few) in
    same-built (last_numbered (table_is c.args.given.now.table) (gate_is c.args.given.now.gate) c.args.here.level c.args.here.left c.args.here.start c.args.here.count c.args.cur.now c.if-here-eq0.true there)
    (c.last_level.ensures (set c.args.counts.now 0 c.args.here.count) (first_count c.args.counts.now c.args.here.count (omega (arith, c.requires.rest.counted))))

pub build_levels-one_level-requires-clause-source : goal.build_levels-one_level-requires-clause-source
build_levels-one_level-requires-clause-source t c =
    keyed c.requires.going c.requires.lists c.requires.rest.few (omega (arith, c.if-here-eq0.false))

pub build_levels-returns-in_err-done : goal.build_levels-returns-in_err-done
build_levels-returns-in_err-done t c =
    let there : c.args.here.count ≤ length c.args.cur.now = omega (arith, c.requires.lists.here, c.requires.rest.few) in
    let more : 0 < c.args.here.left = omega (arith, c.if-here-eq0.false) in
    rw c.from_residual.ensures (gave_up (level-over (table_is c.args.given.now.table) (gate_is c.args.given.now.gate) c.args.here.room c.args.here.level c.args.here.left c.args.here.start c.args.here.count c.args.cur.now more there c.in_err-done.ensures.grew refl))

pub build_levels-rest_levels-below-requires : goal.build_levels-rest_levels-below-requires
build_levels-rest_levels-below-requires t c =
    let there : c.args.here.count ≤ length c.args.cur.now = omega (arith, c.requires.lists.here, c.requires.rest.few) in
    let more : 0 < c.args.here.left = omega (arith, c.if-here-eq0.false) in
    let g = c.in_ok-done.ensures.grew.stood c.in_ok-done.done refl in (
      omega (arith, c.decreases, c.if-here-eq0.false),
      (next_going (table_is c.args.given.now.table) (gate_is c.args.given.now.gate) c.args.here.room c.args.here.level c.args.here.left c.args.here.start c.args.here.count c.args.cur.now more there c.in_ok-done.ensures.grew c.in_ok-done.done refl c.requires.going, (lists_on c.in_ok-done.ensures.kept c.requires.lists c.requires.rest.few, rest_on c.in_ok-done.ensures.kept c.requires.rest more g.rows_few g.keys_few)),
    )

pub build_levels-topped-requires : goal.build_levels-topped-requires
build_levels-topped-requires t c =
    let g = c.in_ok-done.ensures.grew.stood c.in_ok-done.done refl in
    λ o e. (let b = c.rest_levels-below.ensures.whole.made o e in (omega (arith, g.rows_few, b.inner_few), omega (arith, c.requires.rest.few, b.states_few)))

pub build_levels-returns : goal.build_levels-returns
build_levels-returns t c =
    let there : c.args.here.count ≤ length c.args.cur.now = omega (arith, c.requires.lists.here, c.requires.rest.few) in
    let more : 0 < c.args.here.left = omega (arith, c.if-here-eq0.false) in
    let g = c.in_ok-done.ensures.grew.stood c.in_ok-done.done refl in
    climbed-on (table_is c.args.given.now.table) (gate_is c.args.given.now.gate) c.args.here.room c.args.here.level c.args.here.left c.args.here.start c.args.here.count c.args.cur.now more there c.in_ok-done.ensures.grew c.in_ok-done.done refl c.args.counts.now c.requires.rest.few g.rows_few (omega (arith, c.requires.rest.counted)) (omega (arith, c.requires.rest.wide.wide, c.in_ok-done.ensures.kept.rows_long, g.rows_few)) (omega (arith, c.requires.rest.wide.long, c.in_ok-done.ensures.kept.masks_long, g.rows_few))
    c.rest_levels-below.ensures c.topped.ensures.on c.topped.ensures.over

pub rest_levels-build_levels-requires : goal.rest_levels-build_levels-requires
rest_levels-build_levels-requires t c =
    (omega (arith, c.decreases), (c.requires.going, (c.requires.lists, rest-lent c.requires.past)))
