-- The marks of the level are cleared, those of the levels below made, and then the level's own. The levels left fall. Assumes nothing.
use Prim.Native.Nat.{◌-◌}
use Rattle.foreseeing.proofs.Grounds.{foresee-again, level-long, next-there, last_ground, inner_ground, foreseen_last, foreseen_more}
use Rattle.matching.proofs.Turns.{one_less}
use mathlib.Core.Path.{refl, sym, ◌∙◌}
use Rattle.foreseeing.proofs.+foresee_from.Goals as goal

pub meet_none-requires : goal.meet_none-requires
meet_none-requires t c =
    level-long c.args.left c.requires

pub foresee_leaves-requires : goal.foresee_leaves-requires
foresee_leaves-requires t c =
    last_ground (foresee-again c.meet_none.auto.met (sym c.if-left-eq0.true) c.requires)

pub returns-then-left-eq0 : goal.returns-then-left-eq0
returns-then-left-eq0 t c =
    foreseen_last c.args.left c.if-left-eq0.true c.requires c.foresee_leaves.ensures

pub next_level-next-requires : goal.next_level-next-requires
next_level-next-requires t c =
    (c.requires.here, next-there (c.args.left - 1) (foresee-again refl (one_less c.args.left c.if-left-eq0.false) c.requires))

pub foresee_kids-requires : goal.foresee_kids-requires
foresee_kids-requires t c =
    inner_ground (c.args.left - 1) (foresee-again (c.foresee_from.auto.may ∙ c.meet_none.auto.met) (one_less c.args.left c.if-left-eq0.false) c.requires) c.next_level-next.ensures

pub returns : goal.returns
returns t c =
    foreseen_more (c.args.left - 1) c.args.left (sym (one_less c.args.left c.if-left-eq0.false)) c.requires c.foresee_from.ensures c.foresee_kids.ensures
