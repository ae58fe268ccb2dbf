-- What an answer after gates tells its caller: the image in its holder is the set that all gates make, or the refusal is the first. Assumes nothing.
use mathlib.Core.Path.{◌≡◌, sym, ap, ◌∙◌}
use mathlib.Core.Bool.{Bool, true, false}
use Prim.Native.Nat.{ℕ}
use Rattle.std.specs.Prelude.{Result, Ok, Err}
use Rattle.automata.specs.Sets.{QSet}
use Rattle.stored.specs.Refusal.{Judged, refused, good}
use Rattle.stored.specs.Rules.{Bounds}
use Rattle.refusals.specs.declared.Refusal.{Refusal}
use Rattle.refusals.specs.Refused.{told}
use Rattle.settling.specs.declared.Image.{Image}
use Rattle.standing.specs.Tables.{Table, holder, set_on}
use Rattle.carrying.specs.Carried.{judged_in, Carried}

module _ {n : ℕ} {T U : Table} {r : Result Image Refusal} {b : Bounds} {J : Judged QSet} (h : Carried n T U r b J) where
  -- in the table that the image says
  pub in_holder : (i : Image) → r ≡ Ok i → J ≡ good (set_on i.form (holder i.second T U))
  in_holder i e = sym h.judged_is ∙ ap (λ (x : Result Image Refusal). judged_in x T U) e

  -- in the first table, or in the second
  pub in_first : (i : Image) → r ≡ Ok i → i.second ≡ false → J ≡ good (set_on i.form T)
  in_first i e o = in_holder i e ∙ ap (λ (k : Bool). good (set_on i.form (holder k T U))) o

  pub in_second : (i : Image) → r ≡ Ok i → i.second ≡ true → J ≡ good (set_on i.form U)
  in_second i e o = in_holder i e ∙ ap (λ (k : Bool). good (set_on i.form (holder k T U))) o

  pub first-refusal : (q : Refusal) → r ≡ Err q → J ≡ refused (told q)
  first-refusal q e = sym h.judged_is ∙ ap (λ (x : Result Image Refusal). judged_in x T U) e
