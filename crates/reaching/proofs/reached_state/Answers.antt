-- The choices of a state that is reached are met with the mask. Assumes nothing.
use mathlib.Core.Path.{◌≡◌, refl, sym, ap, ◌∙◌}
use mathlib.Core.Bool.{Bool, true, false, cond, ◌&&◌}
use Prim.Native.Nat.{ℕ}
use Rattle.automata.specs.Choice.{has}
use Rattle.automata.proofs.Masks.{has-and}
use Rattle.reaching.specs.Reached.{has_choice}
use Rattle.reaching.proofs.reached_state.Goals as goal

and-true : (b : Bool) → b && true ≡ b
and-true true = refl
and-true false = refl

pub returns-then-not-is_reached : goal.returns-then-not-is_reached
returns-then-not-is_reached c =
    λ d. sym (ap (λ (b : Bool). has c.args.mask d && cond b (has_choice c.args.table.now.masks.now c.args.table.now.first.now d c.args.s) true) (sym c.is_reached.ensures ∙ c.if-not-is_reached.true) ∙ and-true (has c.args.mask d))

pub returns : goal.returns
returns c =
    λ d.
    has-and c.args.mask c.choices_of.result d
    ∙ ap (λ (x : ℕ). has c.args.mask d && has x d) c.choices_of.ensures
    ∙ sym (ap (λ (b : Bool). has c.args.mask d && cond b (has_choice c.args.table.now.masks.now c.args.table.now.first.now d c.args.s) true) (sym c.is_reached.ensures ∙ c.if-not-is_reached.false))
