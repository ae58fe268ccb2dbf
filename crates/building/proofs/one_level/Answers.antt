-- `building::one_level` meets its contract. Assumes nothing.
use mathlib.Core.Path.{refl}
use lib.ListN.{take}
use Rattle.std.specs.Prelude.{Some, None}
use Rattle.gates.specs.Roles.{role}
use Rattle.circuits.specs.Answer.{gate_is}
use Rattle.building.proofs.Begins.{fresh_grows, stood-begun, over-begun, chained-some, chained-in, stood-in}
use borrow.Author.Rules.{rules}
use Rattle.building.proofs.one_level.Goals as goal

pub grow_level-requires-clause-growing : goal.grow_level-requires-clause-growing
grow_level-requires-clause-growing c = fresh_grows _ c.requires.fresh refl refl refl refl c.begin.ensures refl refl

pub returns-in_err-grow_level-clause-grew : goal.returns-in_err-grow_level-clause-grew
returns-in_err-grow_level-clause-grew c =
    rw c.from_residual.ensures (over-begun c.grow_level.new.level c.args.most (role (gate_is c.args.given.now.gate) c.args.here.level) c.role_at-role.result c.role_at-role.ensures c.args.given.now.table.rows.now c.args.given.now.table.masks.now c.args.given.now.table.first.now c.args.here.start (take c.args.here.count c.args.cur.now) c.args.rows.now c.args.masks.now c.args.keys.now None c.in_err-grow_level.ensures.grew refl)

pub returns-clause-grew : goal.returns-clause-grew
returns-clause-grew c =
    stood-in (search rules) (search rules) (search rules) (stood-begun c.grow_level.new.level c.args.most (role (gate_is c.args.given.now.gate) c.args.here.level) c.role_at-role.result c.role_at-role.ensures c.args.given.now.table.rows.now c.args.given.now.table.masks.now c.args.given.now.table.first.now c.args.here.start (take c.args.here.count c.args.cur.now) c.args.rows.now c.args.masks.now c.args.keys.now (Some tt) c.in_ok-grow_level.ensures.grew c.grow_level.ensures.kept.same_most refl)

pub returns-in_err-grow_level-clause-chained : goal.returns-in_err-grow_level-clause-chained
returns-in_err-grow_level-clause-chained c = rw c.from_residual.ensures (λ p e. cc)

pub returns-clause-chained : goal.returns-clause-chained
returns-clause-chained c =
    chained-in (search rules) (search rules) (search rules) (chained-some c.grow_level.new.level c.args.most _ c.in_ok-grow_level.ensures.grew)
