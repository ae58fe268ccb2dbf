-- The members of the roots left come to those of all roots. Assumes nothing.
use mathlib.Core.Path.{ap, ◌∙◌}
use Prim.Native.Nat.{◌+◌, ◌-◌}
use lib.ListN.{get_or}
use Rattle.automata.specs.Members.{flat, up_to}
use Rattle.walking.specs.declared.Tally.{Tally}
use Rattle.walking.specs.On.{passes_on, root_on}
use Rattle.walking.specs.Tallied.{tallied, reply_of}
use Rattle.walking.proofs.TallyLaws.{turn-begin, turn_on, turn_end}
use Rattle.walking.proofs.Verdicts.{going}
use Rattle.blocks.proofs.Starts.{started-again}
use Rattle.striding.proofs.visit_roots.Goals as goal

pub loop-r-init : goal.loop-r-init
loop-r-init c =
    record { started = c.requires; tally = turn-begin (passes_on c.args.task.now) c.args.task.now.allowance (root_on c.args.task.now) (get_or c.args.task.now.sides.image.counts.now 0 0) (going 0) }

pub visit_root-so_far-requires : goal.visit_root-so_far-requires
visit_root-so_far-requires c =
    record { started = c.loop-r.invariant.started; rooted = c.loop-r-test.true }

pub loop-r-preserved : goal.loop-r-preserved
loop-r-preserved c =
    let e = c.visit_root-so_far.ensures in
    record {
      started = rw e.sizes.count (started-again c.loop-r.invariant.started (rw e.sizes.count at e.memory) e.rows.may e.rows.met e.rows.stack e.sizes.kept e.sizes.rows e.sizes.seen e.sizes.turn e.rows.reached);
      tally =
          ap (λ (u : Tally). tallied (passes_on c.args.task.now) c.args.task.now.allowance u (flat (root_on c.args.task.now) (up_to (c.loop-r.r + 1) (get_or c.args.task.now.sides.image.counts.now 0 0 - (c.loop-r.r + 1))))) e.tally
          ∙ turn_on (passes_on c.args.task.now) c.args.task.now.allowance (root_on c.args.task.now) (get_or c.args.task.now.sides.image.counts.now 0 0) c.loop-r.so_far c.loop-r.r c.loop-r-test.true
          ∙ c.loop-r.invariant.tally;
    }

pub returns : goal.returns
returns c =
    c.from.ensures ∙ ap reply_of (turn_end (passes_on c.args.task.now) c.args.task.now.allowance (root_on c.args.task.now) (get_or c.args.task.now.sides.image.counts.now 0 0) c.loop-r.so_far c.loop-r.r c.loop-r-test.false ∙ c.loop-r.invariant.tally)
