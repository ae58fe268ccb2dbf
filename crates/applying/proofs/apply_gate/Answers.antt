-- The roots' keys are put, all levels built from them, and what that left is settled: each step's contract is what the next one asks. Assumes nothing.
use mathlib.Core.Path.{refl}
use Prim.Native.Nat.{◌<◌}
use native.Mathlib.Omega.{arith}
use Rattle.circuits.specs.Answer.{gate_is}
use Rattle.applying.proofs.OldTable.{root_count, set_going}
use Rattle.applying.proofs.OneGate.{lists_on, lent_on, may_build, may_settle, answer, table}
use Rattle.applying.proofs.apply_gate.Goals as goal

pub put_roots-requires : goal.put_roots-requires
put_roots-requires c =
    let few : c.args.room.states < 65536 = omega (arith, c.requires.lists.small) in
    omega (arith, root_count few c.requires.stands, c.requires.lists.here)

pub build_levels-built-requires : goal.build_levels-built-requires
build_levels-built-requires c =
    let few : c.args.room.states < 65536 = omega (arith, c.requires.lists.small) in
    record {
      going = set_going few c.requires.stands c.requires.light.0 c.put_roots.ensures;
      lists = lists_on c.requires.lists c.put_roots.auto.cur;
      rest = may_build few c.requires.stands c.requires.lent;
    }

pub settle-requires : goal.settle-requires
settle-requires c =
    let few : c.args.room.states < 65536 = omega (arith, c.requires.lists.small) in
    let told = may_settle few c.requires.stands (gate_is c.args.g) c.requires.light.0 c.requires.light.1 c.growth_of-grown.result c.growth_of-grown.ensures c.put_roots.new.cur c.put_roots.ensures c.build_levels-built.result c.build_levels-built.ensures
    (lent_on c.requires.lent c.build_levels-built.auto.rows c.build_levels-built.auto.masks c.build_levels-built.auto.coefs c.build_levels-built.auto.counts refl) in
    record {
      grown_bound = told.0;
      indexable = told.1;
    }

pub returns-clause-value : goal.returns-clause-value
returns-clause-value c =
    let few : c.args.room.states < 65536 = omega (arith, c.requires.lists.small) in
    answer few c.requires.stands (gate_is c.args.g) c.requires.light.0 c.requires.light.1 c.growth_of-grown.result c.growth_of-grown.ensures c.put_roots.new.cur c.put_roots.ensures c.build_levels-built.result c.build_levels-built.ensures c.settle.result c.args.place c.settle.ensures.value

pub returns-clause-holding : goal.returns-clause-holding
returns-clause-holding c =
    let few : c.args.room.states < 65536 = omega (arith, c.requires.lists.small) in
    λ N e. table few c.requires.stands (gate_is c.args.g) c.requires.light.0 c.requires.light.1 c.growth_of-grown.result c.growth_of-grown.ensures c.put_roots.new.cur c.put_roots.ensures c.build_levels-built.result c.build_levels-built.ensures c.args.place
    (lent_on c.requires.lent c.build_levels-built.auto.rows c.build_levels-built.auto.masks c.build_levels-built.auto.coefs c.build_levels-built.auto.counts c.settle.auto.first) c.settle.ensures.begun N e
