-- A state that is not reached asks nothing; the lookup answers for one that is. Assumes nothing.
use mathlib.Core.Path.{◌≡◌, refl, sym, ap, ◌∙◌}
use mathlib.Core.Bool.{Bool, true, false, cond}
use Rattle.std.specs.Option as told
use Rattle.lookup.specs.Lookup.{transition_row}
use Rattle.reaching.proofs.ReachLaws.{found_some}
use Rattle.reaching.proofs.ends.Goals as goal

idle : (x y : Bool) → x ≡ false → true ≡ cond x y true
idle x y e = rw e refl

judged : (x y z : Bool) → x ≡ true → y ≡ z → z ≡ cond x y true
judged x y z e f = rw (e, f) refl

pub returns-then-not-is_reached : goal.returns-then-not-is_reached
returns-then-not-is_reached c =
    idle _ _ (sym c.is_reached.ensures ∙ c.if-not-is_reached.true)

pub returns : goal.returns
returns c =
    judged _ _ _ (sym c.is_reached.ensures ∙ c.if-not-is_reached.false)
    (sym (c.is_some.ensures ∙ ap told.is_some c.transition.ensures ∙ found_some (transition_row c.args.table.now.masks.now c.args.table.now.first.now c.args.s c.args.c)))
