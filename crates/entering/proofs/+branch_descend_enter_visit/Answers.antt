-- The cycle of the walk: `visit` tries the choices that all states of a block have in turn, `branch` ends the word or goes on, `descend` makes the next level's block,
-- and `enter` knows it already or visits it and remembers it. The qubits left fall. Assumes nothing.
use mathlib.Core.Path.{◌≡◌, refl, sym, ap, ◌∙◌}
use Prim.Native.Nat.{◌+◌, ◌-◌}
use native.Mathlib.Omega.{arith}
use lib.ListN.{length, length-set}
use lib.Seq.{get_or-set_same}
use borrow.Author.Rules.{rules}
use Rattle.automata.specs.Members.{flat, up_to}
use Rattle.jobs.specs.Reply.{word_places}
use Rattle.matching.specs.Levels.{start_of}
use Rattle.walking.specs.declared.Tally.{Tally}
use Rattle.walking.specs.On.{passes_on, trees_on, branch_on, visit_on}
use Rattle.walking.specs.Tallied.{tallied}
use Rattle.walking.proofs.Branches.{members-turn, branch_same}
use Rattle.walking.proofs.Rooms.{at-few}
use Rattle.walking.proofs.Skips.{to-first, to_end, skip_members}
use Rattle.walking.proofs.TallyLaws.{tally_halted, turn_on, turn_end}
use Rattle.blocks.proofs.Entries.{starts-rise, choices_asked, block_fits, entered-set, entered-again, ending, next_asked, next-from, next-later, reach_asked, batch_asked, entered-down}
use Rattle.blocks.proofs.Strides.{strode_last, strode_skip, strode_turn, strode_dead, strode_down, dead_members, down-members, known_many, known_pass, known_strode, counted-more, kept-good, strode_kept}
use Rattle.entering.specs.On.{good_on}
use Rattle.entering.proofs.Alike.{rows-on, sizes-on}
use Rattle.entering.proofs.+branch_descend_enter_visit.Goals as goal

-- ---- branch
pub branch-finish-requires : goal.branch-finish-requires
branch-finish-requires t c =
    let long : length c.args.word ≡ word_places = search rules in
    ending (entered-set c.requires.entered c.args.c c.requires.choice long) c.args.c c.if-place-eq0.true c.requires.choice (get_or-set_same c.args.word c.args.place.at c.args.c 0 (omega (arith, at-few c.requires.entered.visiting, long))) (length-set c.args.word c.args.place.at c.args.c ∙ long)

pub branch-returns-then-place-eq0-clause-strode : goal.branch-returns-then-place-eq0-clause-strode
branch-returns-then-place-eq0-clause-strode t c =
    rw (c.finish.ensures.others.reached, c.finish.ensures.others.stack) (strode_last c.requires.entered c.args.walk.now.reached.now c.if-place-eq0.true c.finish.ensures.clean)

pub branch-descend-requires : goal.branch-descend-requires
branch-descend-requires t c =
    let long : length c.args.word ≡ word_places = search rules in
    let letter = get_or-set_same c.args.word c.args.place.at c.args.c 0 (omega (arith, at-few c.requires.entered.visiting, long)) in
    (omega (arith, c.decreases), (entered-set c.requires.entered c.args.c c.requires.choice long, (c.requires.choice, (letter, c.if-place-eq0.false))))

-- ---- descend
pub descend-next_level-next-requires : goal.descend-next_level-next-requires
descend-next_level-next-requires t c =
    next_asked c.requires.entered c.requires.some

pub descend-reach_next-requires : goal.descend-reach_next-requires
descend-reach_next-requires t c =
    (reach_asked c.requires.entered c.requires.some c.next_level-next.ensures, c.requires.choice)

pub descend-returns-then-not-reach_next-clause-tally : goal.descend-returns-then-not-reach_next-clause-tally
descend-returns-then-not-reach_next-clause-tally t c =
    let long : length c.args.word ≡ word_places = search rules in
    dead_members c.requires.entered c.requires.some c.requires.letter long c.reach_next.ensures c.if-not-reach_next.true (passes_on c.args.task.now) c.args.task.now.allowance c.args.t

pub descend-returns-then-not-reach_next-clause-strode : goal.descend-returns-then-not-reach_next-clause-strode
descend-returns-then-not-reach_next-clause-strode t c =
    strode_dead c.requires.entered c.requires.some c.reach_next.ensures c.if-not-reach_next.true

pub descend-batch-below-requires : goal.descend-batch-below-requires
descend-batch-below-requires t c =
    let long : length c.args.word ≡ word_places = search rules in
    (batch_asked c.requires.entered c.requires.some c.next_level-next.ensures long, c.requires.entered.sized.planes, c.requires.entered.few, c.requires.choice)

pub descend-enter-requires : goal.descend-enter-requires
descend-enter-requires t c =
    (omega (arith, c.decreases, c.requires.some), entered-down c.requires.entered c.requires.some c.next_level-next.ensures c.requires.letter c.batch-below.ensures.filled c.batch-below.auto.stack c.batch-below.auto.scratch c.reach_next.auto.reached)

pub descend-returns-clause-tally : goal.descend-returns-clause-tally
descend-returns-clause-tally t c =
    let long : length c.args.word ≡ word_places = search rules in
    c.enter.ensures.tally ∙ ap (tallied (passes_on c.args.task.now) c.args.task.now.allowance c.args.t) (down-members c.requires.entered c.requires.some c.requires.letter long c.next_level-next.ensures c.reach_next.ensures c.if-not-reach_next.false)

pub descend-returns-clause-strode : goal.descend-returns-clause-strode
descend-returns-clause-strode t c =
    strode_down c.requires.entered c.requires.some (next-from c.requires.entered c.requires.some c.next_level-next.ensures) (next-later c.requires.entered c.requires.some c.next_level-next.ensures) c.reach_next.ensures c.if-not-reach_next.false c.batch-below.ensures.filled c.enter.ensures.strode

-- ---- enter
pub enter-find-requires : goal.enter-find-requires
enter-find-requires t c =
    let b = c.block.ensures in
    rw (b.from, b.to, b.p, b.wide, b.plane, b.room, b.cells, b.row, b.stack) (block_fits c.requires refl)

pub enter-returns-in-Some-clause-tally : goal.enter-returns-in-Some-clause-tally
enter-returns-in-Some-clause-tally t c =
    let b = c.block.ensures in
    let long : length c.args.word ≡ word_places = search rules in
    let h = rw (b.p, b.row, b.stack) at (c.in-Some.ensures (start_of c.args.task.now.sides.image.counts.now) (good_on c.args.task.now) (b.from ∙ c.requires.here.from) (b.to ∙ c.requires.here.to) (rw (b.wide, b.plane, b.room, b.cells) c.requires.memory)) in
    c.skip-tally.ensures (passes_on c.args.task.now) (visit_on c.args.task.now c.args.root c.args.word c.args.place.at c.args.place.left c.args.walk.now.reached.now c.args.place.level.from c.args.place.level.to) (known_many c.requires c.args.walk.now.reached.now _ h) (known_pass c.requires c.args.walk.now.reached.now _ h long)

pub enter-returns-in-Some-clause-strode : goal.enter-returns-in-Some-clause-strode
enter-returns-in-Some-clause-strode t c =
    let b = c.block.ensures in
    let h = rw (b.p, b.row, b.stack) at (c.in-Some.ensures (start_of c.args.task.now.sides.image.counts.now) (good_on c.args.task.now) (b.from ∙ c.requires.here.from) (b.to ∙ c.requires.here.to) (rw (b.wide, b.plane, b.room, b.cells) c.requires.memory)) in
    known_strode c.requires c.args.walk.now.reached.now _ h

pub enter-remember-requires : goal.enter-remember-requires
enter-remember-requires t c =
    let b = c.block-2.ensures in
    let s = c.visit-r.ensures.strode in
    let r = c.visit-r.ensures.rows in
    let z = c.visit-r.ensures.sizes in
    let e = entered-again c.requires s.marks s.memory r.stack z.seen z.rows z.kept r.may r.met z.turn r.reached in
    (rw (b.from, b.to, b.p, b.wide, b.plane, b.room, b.cells, b.row, b.stack, z.count) (block_fits e refl), e.sized.turns, counted-more c.requires s c.args.task.now.allowance c.args.t _ c.visit-r.ensures.tally)

pub enter-returns-clause-strode : goal.enter-returns-clause-strode
enter-returns-clause-strode t c =
    let b = c.block-2.ensures in
    let s = c.visit-r.ensures.strode in
    let z = c.visit-r.ensures.sizes in
    let y = c.remember.ensures.sizes in
    let good = kept-good c.requires s c.args.task.now.allowance c.args.t _ c.visit-r.ensures.tally in
    let memory = c.remember.ensures.memory (start_of c.args.task.now.sides.image.counts.now) (good_on c.args.task.now) (λ i lt. starts-rise c.args.task.now.sides.image.counts.now i) (b.from ∙ c.requires.here.from) (b.to ∙ c.requires.here.to)
    (rw (b.wide, b.plane, b.room, b.cells, z.count) s.memory)
    (λ k g row stack same. rw b.p (good k g row stack (rw (b.wide, b.plane, b.from, b.to, b.p, b.row, b.stack) at same))) in
    strode_kept c.requires s (rw (b.wide, b.plane, b.room, b.cells, y.count, z.count) at memory)

-- ---- visit
pub visit-choices-shared-requires : goal.visit-choices-shared-requires
visit-choices-shared-requires t c =
    choices_asked c.requires

pub visit-returns-then-stopped-clause-tally : goal.visit-returns-then-stopped-clause-tally
visit-returns-then-stopped-clause-tally t c =
    sym (tally_halted (passes_on c.args.task.now) c.args.task.now.allowance c.loop-c.so_far (flat (branch_on c.args.task.now c.args.root c.args.word c.args.place.at c.args.place.left c.args.walk.now.reached.now c.args.place.level.from c.args.place.level.to) (up_to c.loop-c.from (32 - c.loop-c.from))) (c.stopped.ensures.halted c.if-stopped.true))
    ∙ c.loop-c.invariant.tally
    ∙ ap (tallied (passes_on c.args.task.now) c.args.task.now.allowance c.args.t) (members-turn c.args.root c.args.word c.args.place.at c.args.place.left (trees_on c.args.task.now c.args.place.at c.args.place.left c.args.walk.now.reached.now c.args.place.level.from c.args.place.level.to))

pub visit-loop-c-preserved : goal.visit-loop-c-preserved
visit-loop-c-preserved t c =
    let i = c.loop-c.invariant in
    let e = c.branch-r.ensures in
    let next = to-first c.in-Some.ensures in
    record {
      few = omega (arith, c.in-Some.ensures.below);
      rows = rows-on i.rows e.rows;
      sizes = sizes-on i.sizes e.sizes;
      entered = rw e.sizes.count (entered-again i.entered e.strode.marks e.strode.memory e.rows.stack e.sizes.seen e.sizes.rows e.sizes.kept e.rows.may e.rows.met e.sizes.turn e.rows.reached);
      strode = strode_turn c.requires (strode_skip c.requires c.choices-shared.ensures next i.strode) (rw i.sizes.count at e.strode);
      tally =
          ap (λ (u : Tally). tallied (passes_on c.args.task.now) c.args.task.now.allowance u (flat (branch_on c.args.task.now c.args.root c.args.word c.args.place.at c.args.place.left c.args.walk.now.reached.now c.args.place.level.from c.args.place.level.to) (up_to (c.in-Some.c + 1) (32 - (c.in-Some.c + 1)))))
          (e.tally ∙ ap (tallied (passes_on c.args.task.now) c.args.task.now.allowance c.loop-c.so_far) (branch_same c.args.task.now.sides.image.rows.now c.args.task.now.sides.image.masks.now c.args.task.now.sides.image.coefs.now c.args.task.now.sides.image.first.now c.args.root c.args.word c.args.place.at c.args.place.left c.args.place.level.from c.in-Some.c i.strode.reached))
          ∙ turn_on (passes_on c.args.task.now) c.args.task.now.allowance (branch_on c.args.task.now c.args.root c.args.word c.args.place.at c.args.place.left c.args.walk.now.reached.now c.args.place.level.from c.args.place.level.to) 32 c.loop-c.so_far c.in-Some.c c.in-Some.ensures.below
          ∙ ap (tallied (passes_on c.args.task.now) c.args.task.now.allowance c.loop-c.so_far) (skip_members c.args.task.now.sides.image.rows.now c.args.task.now.sides.image.masks.now c.args.task.now.sides.image.coefs.now c.args.task.now.sides.image.first.now c.args.walk.now.reached.now c.args.place.level.from c.args.place.level.to c.choices-shared.ensures next c.args.root c.args.word c.args.place.at c.args.place.left)
          ∙ i.tally;
    }

pub visit-returns-clause-tally : goal.visit-returns-clause-tally
visit-returns-clause-tally t c =
    turn_end (passes_on c.args.task.now) c.args.task.now.allowance (branch_on c.args.task.now c.args.root c.args.word c.args.place.at c.args.place.left c.args.walk.now.reached.now c.args.place.level.from c.args.place.level.to) 32 c.loop-c.so_far 32 (omega arith)
    ∙ ap (tallied (passes_on c.args.task.now) c.args.task.now.allowance c.loop-c.so_far) (skip_members c.args.task.now.sides.image.rows.now c.args.task.now.sides.image.masks.now c.args.task.now.sides.image.coefs.now c.args.task.now.sides.image.first.now c.args.walk.now.reached.now c.args.place.level.from c.args.place.level.to c.choices-shared.ensures (to_end c.loop-c.invariant.few c.in_default.ensures) c.args.root c.args.word c.args.place.at c.args.place.left)
    ∙ c.loop-c.invariant.tally
    ∙ ap (tallied (passes_on c.args.task.now) c.args.task.now.allowance c.args.t) (members-turn c.args.root c.args.word c.args.place.at c.args.place.left (trees_on c.args.task.now c.args.place.at c.args.place.left c.args.walk.now.reached.now c.args.place.level.from c.args.place.level.to))

pub visit-returns-clause-strode : goal.visit-returns-clause-strode
visit-returns-clause-strode t c =
    strode_skip c.requires c.choices-shared.ensures (to_end c.loop-c.invariant.few c.in_default.ensures) c.loop-c.invariant.strode
