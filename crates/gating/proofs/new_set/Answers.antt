-- `gating::new_set` meets its contract: the set, then its circuit's one gate, then the gate applied. Assumes nothing.
use mathlib.Core.Path.{ap, sym, ◌∙◌, subst}
use borrow.Author.Rules.{rules}
use Rattle.refusals.specs.declared.Source.TheVariants.{Start}
use Rattle.refusals.specs.Refused.{seen}
use Rattle.gates.specs.Refuse.{judge_gate}
use Rattle.circuits.specs.Answer.{gate_is}
use Rattle.tables.specs.Slices.{Table, set_on}
use Rattle.standing.specs.Standing.{form_of}
use Rattle.standing.specs.Tables.{StandsOn}
use Rattle.settling.specs.Result.{bounds_from}
use Rattle.gating.proofs.Storing.{n-few, lent-for}
use Rattle.gating.proofs.GateOn.{away, staged, as_long, as_lent, as_named, may_apply, not_started, started_stands, not_one, one_gate}
use Rattle.gating.proofs.new_set.Goals as goal

pub returns-in_err-form : goal.returns-in_err-form
returns-in_err-form c =
    let k = away (search rules) (not_started (bounds_from c.args.room) c.args.set.now c.args.circuit.now _ (staged c.load.result c.map_err.result Start c.in_err-form.was (search rules) (c.load.ensures.value 1))) in
    record { value = k.0; holding = λ N g. absurd (k.1 N g); long = (c.load.ensures.long, as_long, as_named); same_slices = (c.load.ensures.same_slices, as_lent) }

pub returns-in_err-g : goal.returns-in_err-g
returns-in_err-g c =
    let k = away (search rules) (not_one (bounds_from c.args.room) c.args.set.now (staged c.load.result c.map_err.result Start c.in_ok-form.was (search rules) (c.load.ensures.value 1)) (c.load.ensures.holding 1) c.args.circuit.now _ c.in_err-g.ensures) in
    record { value = k.0; holding = λ N g. absurd (k.1 N g); long = (c.load.ensures.long, as_long, as_named); same_slices = (c.load.ensures.same_slices, as_lent) }

pub apply_gate-requires : goal.apply_gate-requires
apply_gate-requires c =
    let stands = started_stands (bounds_from c.args.room) c.args.set.now (staged c.load.result c.map_err.result Start c.in_ok-form.was (search rules) (c.load.ensures.value 1)) (c.load.ensures.holding 1) in
    record {
      stands = subst (λ (T : Table). StandsOn T c.in_ok-form.form (bounds_from c.args.room)) (sym c.view-table.ensures) stands;
      light = may_apply c.in_ok-form.form.n c.args.circuit.now c.in_ok-g.g c.in_ok-g.ensures;
      lists = c.requires.lists;
      lent = lent-for c.requires.lent c.in_ok-form.form.n (n-few stands);
    }

pub returns : goal.returns
returns c =
    let k = one_gate (bounds_from c.args.room) c.args.set.now (staged c.load.result c.map_err.result Start c.in_ok-form.was (search rules) (c.load.ensures.value 1)) (c.load.ensures.holding 1) c.args.circuit.now c.in_ok-g.g c.in_ok-g.ensures in
    let i = ap (λ (T : Table). judge_gate (bounds_from c.args.room) 1 (gate_is c.in_ok-g.g) (set_on c.in_ok-form.form T)) c.view-table.ensures ∙ k in
    record {
      value = c.apply_gate.ensures.value ∙ ap (seen form_of) i;
      holding = λ N g. c.apply_gate.ensures.holding N (i ∙ g);
      long = (c.load.ensures.long, c.apply_gate.ensures.long.0, c.apply_gate.ensures.long.1);
      same_slices = (c.load.ensures.same_slices, c.apply_gate.ensures.same_slices);
    }
