-- A word that all states reached complete is a member's: it passes if it is found from the block, and else the search decides. Assumes nothing.
use mathlib.Core.Path.{refl, sym, ◌∙◌}
use mathlib.Core.List.{[], ◌∷◌}
use Rattle.automata.specs.Members.{member}
use Rattle.walking.specs.On.{passes_on}
use Rattle.walking.proofs.TallyLaws.{tally_one}
use Rattle.walking.proofs.Branches.{finish_none, finish_one}
use Rattle.blocks.proofs.Words.{one_passes}
use Rattle.blocks.proofs.Blocks.{clean_ends, clean_leads}
use Rattle.blocks.proofs.Entries.{ending-passes}
use Rattle.outcomes.proofs.finish.Goals as goal

pub ends-requires : goal.ends-requires
ends-requires c =
    ((c.requires.leaves, c.requires.celled), c.requires.small)

pub returns-then-not-ends-clause-tally : goal.returns-then-not-ends-clause-tally
returns-then-not-ends-clause-tally c =
    finish_none c.args.task.now.sides.image.rows.now c.args.task.now.sides.image.masks.now c.args.task.now.sides.image.coefs.now c.args.task.now.sides.image.first.now (passes_on c.args.task.now) c.args.task.now.allowance c.args.t c.args.root c.args.word c.args.task.now.n c.args.c c.args.walk.now.reached.now c.args.place.level.from c.args.place.level.to c.ends.ensures c.if-not-ends.true

pub returns-then-not-ends-clause-clean : goal.returns-then-not-ends-clause-clean
returns-then-not-ends-clause-clean c =
    λ k. clean_ends refl c.ends.ensures c.if-not-ends.true

pub leads-requires : goal.leads-requires
leads-requires c =
    (c.requires.stage, c.requires.small, c.requires.planes)

pub returns-then-leads-clause-tally : goal.returns-then-leads-clause-tally
returns-then-leads-clause-tally c =
    c.skip-tally.ensures (passes_on c.args.task.now) (member c.args.root c.args.word ∷ []) refl (one_passes (passes_on c.args.task.now) (member c.args.root c.args.word) (ending-passes c.requires (sym (c.leads.ensures c.args.word c.args.task.now.n c.requires.letter) ∙ c.if-leads.true)))
    ∙ sym (tally_one (passes_on c.args.task.now) c.args.task.now.allowance c.args.t (member c.args.root c.args.word))
    ∙ finish_one c.args.task.now.sides.image.rows.now c.args.task.now.sides.image.masks.now c.args.task.now.sides.image.coefs.now c.args.task.now.sides.image.first.now (passes_on c.args.task.now) c.args.task.now.allowance c.args.t c.args.root c.args.word c.args.task.now.n c.args.c c.args.walk.now.reached.now c.args.place.level.from c.args.place.level.to c.ends.ensures c.if-not-ends.false

pub returns-then-leads-clause-clean : goal.returns-then-leads-clause-clean
returns-then-leads-clause-clean c =
    λ k. clean_leads refl (λ w i e. sym (c.leads.ensures w i e) ∙ c.if-leads.true)

pub tick-tally-requires : goal.tick-tally-requires
tick-tally-requires c =
    record { lent = c.requires.lent; hinted = c.requires.hinted; space = c.requires.space; rooted = c.requires.rooted }

pub returns-clause-tally : goal.returns-clause-tally
returns-clause-tally c =
    c.tick-tally.ensures
    ∙ finish_one c.args.task.now.sides.image.rows.now c.args.task.now.sides.image.masks.now c.args.task.now.sides.image.coefs.now c.args.task.now.sides.image.first.now (passes_on c.args.task.now) c.args.task.now.allowance c.args.t c.args.root c.args.word c.args.task.now.n c.args.c c.args.walk.now.reached.now c.args.place.level.from c.args.place.level.to c.ends.ensures c.if-not-ends.false
