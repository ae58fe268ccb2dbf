-- The marks of the level are cleared, those of the levels below made, and then the level's own. The levels left fall. Assumes nothing.
use Prim.Native.Nat.{◌-◌}
use Rattle.matching.proofs.Sounding.{ground_last, ground_inner, sound_last, sound_more}
use Rattle.matching.proofs.Turns.{next_fits, long-level, letter-small, leaf-stage, again, one_less, stage}
use mathlib.Core.Path.{refl, sym, ◌∙◌}
use Rattle.matching.proofs.+hint_from.Goals as goal

pub meet_none-requires : goal.meet_none-requires
meet_none-requires t c =
    long-level c.args.left c.requires

pub hint_leaves-requires : goal.hint_leaves-requires
hint_leaves-requires t c =
    (ground_last (leaf-stage (again c.meet_none.auto.met (sym c.if-left-eq0.true) c.requires)), letter-small c.args.left c.requires)

pub returns-then-left-eq0 : goal.returns-then-left-eq0
returns-then-left-eq0 t c =
    sound_last c.args.left c.if-left-eq0.true c.requires c.hint_leaves.ensures

pub next_level-next-requires : goal.next_level-next-requires
next_level-next-requires t c =
    (c.requires.here, next_fits (c.args.left - 1) (again refl (one_less c.args.left c.if-left-eq0.false) c.requires))

pub hint_kids-requires : goal.hint_kids-requires
hint_kids-requires t c = (
  ground_inner c.args.sides.now.image.coefs.now c.args.sides.now.end.coefs.now (stage (c.args.left - 1) (again (c.hint_from.auto.may ∙ c.meet_none.auto.met) (one_less c.args.left c.if-left-eq0.false) c.requires) c.next_level-next.ensures),
  letter-small c.args.left c.requires,
)

pub returns : goal.returns
returns t c =
    sound_more (c.args.left - 1) c.args.left (sym (one_less c.args.left c.if-left-eq0.false)) c.requires c.hint_from.ensures c.hint_kids.ensures
