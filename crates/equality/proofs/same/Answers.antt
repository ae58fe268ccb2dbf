-- Both are raised to the greater k, and then compared. Assumes nothing.
use mathlib.Core.Path.{ap, ap₂, ◌∙◌}
use Prim.Native.Nat.{ℕ}
use Rattle.amplitude.specs.Amp.{√2^, same_a}
use Rattle.leafrows.specs.Value.{amp_is}
use Rattle.equality.proofs.same.Goals as goal

pub returns : goal.returns
returns c =
    c.same_numbers.ensures
    ∙ ap₂ same_a (c.raised.ensures ∙ ap (λ (d : ℕ). √2^ d (amp_is c.args.x)) c.saturating_sub.ensures) (c.raised-2.ensures ∙ ap (λ (d : ℕ). √2^ d (amp_is c.args.y)) c.saturating_sub-2.ensures)
