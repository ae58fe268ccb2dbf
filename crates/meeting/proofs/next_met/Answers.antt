-- Word after word, up to the first that has a mark from there on. Assumes nothing.
use mathlib.Core.Path.{◌≡◌, refl}
use Prim.Native.Nat.{ℕ, ◌+◌, ◌*◌, ◌/◌, ◌%◌, ◌^◌, ◌<◌}
use native.Mathlib.Omega.{arith}
use lib.ListN.{get_or}
use Rattle.masks.proofs.NextLaws.{no_next, is-next}
use Rattle.meeting.proofs.Places.{small_product}
use Rattle.meeting.proofs.NextLaws.{start, passed, found, found_past, none_left}
use Rattle.meeting.proofs.next_met.Goals as goal

pub overflow_mul-row : goal.overflow_mul-row
overflow_mul-row c =
    omega (arith, small_product c.args.s c.args.wide (omega arith) (omega arith))

pub loop-e-init : goal.loop-e-init
loop-e-init c =
    (refl, refl, start c.args.wide c.args.met.now c.args.s c.args.from)

pub overflow_add-rest : goal.overflow_add-rest
overflow_add-rest c =
    omega (arith, small_product c.args.s c.args.wide (omega arith) (omega arith))

pub offset_bounds-met-row : goal.offset_bounds-met-row
offset_bounds-met-row c =
    omega (arith, small_product c.args.s c.args.wide (omega arith) (omega arith))

pub bounds-met-row : goal.bounds-met-row
bounds-met-row c =
    let there = c.requires c.loop-e.e c.loop-e.invariant.2.after (omega (arith, c.loop-e-test.true, c.loop-e.invariant.1)) in
    omega (arith, there.long, there.narrow)

pub returns-then-e-to : goal.returns-then-e-to
returns-then-e-to c =
    let word : ℕ = get_or c.args.met.now (c.args.s * c.args.wide + c.loop-e.e / 32) 0 in
    let some : 0 < word / 2 ^ (c.loop-e.e % 32) = omega (arith, c.if-rest-ne0.true) in
    let small : word < 2 ^ 32 = omega (arith, c.shared_slice_known-in-loop-e-1.given (c.args.s * c.args.wide + c.loop-e.e / 32)) in
    found c.args.wide c.args.met.now c.args.s c.loop-e.invariant.2 (is-next word (c.loop-e.e % 32) some small c.least_choice-e.ensures.0) (omega arith) c.args.stop
    (omega (arith, c.if-e-to.true, c.loop-e.invariant.1))

pub returns-else-e-to : goal.returns-else-e-to
returns-else-e-to c =
    let word : ℕ = get_or c.args.met.now (c.args.s * c.args.wide + c.loop-e.e / 32) 0 in
    let some : 0 < word / 2 ^ (c.loop-e.e % 32) = omega (arith, c.if-rest-ne0.true) in
    let small : word < 2 ^ 32 = omega (arith, c.shared_slice_known-in-loop-e-1.given (c.args.s * c.args.wide + c.loop-e.e / 32)) in
    let at : c.loop-e.e + c.least_choice-e.result ≡ c.loop-e.e / 32 * 32 + (c.loop-e.e % 32 + c.least_choice-e.result) = omega arith in
    found_past c.args.wide c.args.met.now c.args.s c.loop-e.invariant.2 (is-next word (c.loop-e.e % 32) some small c.least_choice-e.ensures.0) at
    c.args.stop (omega (arith, c.if-e-to.false, c.loop-e.invariant.1))

pub loop-e-smaller : goal.loop-e-smaller
loop-e-smaller c =
    omega (arith, c.loop-e-test.true)

pub loop-e-preserved : goal.loop-e-preserved
loop-e-preserved c =
    let word : ℕ = get_or c.args.met.now (c.args.s * c.args.wide + c.loop-e.e / 32) 0 in
    (c.loop-e.invariant.0, c.loop-e.invariant.1, passed c.args.wide c.args.met.now c.args.s c.loop-e.invariant.2 (no_next word (c.loop-e.e % 32) c.if-rest-ne0.false) (omega arith))

pub returns : goal.returns
returns c =
    none_left c.args.wide c.args.met.now c.args.s c.loop-e.invariant.2 c.args.stop (omega (arith, c.loop-e-test.false, c.loop-e.invariant.1))
