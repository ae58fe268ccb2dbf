-- What one function picks from three tests is what the definitions pick from what building left. Assumes nothing.
use mathlib.Core.Path.{◌≡◌, refl, sym, ap, ◌∙◌}
use mathlib.Core.Bool.{Bool, true, false}
use Prim.Native.Nat.{ℕ}
use Rattle.std.specs.Prelude.{Option, Some, None, MatchOption, is_some, Err}
use Rattle.stored.specs.Refusal as stored
use Rattle.stored.specs.Refusal.{refused, good, need, refusal, circuit_source}
use Rattle.refusals.specs.declared.Refusal.{Refusal}
use Rattle.refusals.specs.Refused.{told, judged}
use Rattle.setfile.specs.declared.Form.{Form}
use Rattle.building.specs.declared.Outcome.{Outcome}
use Rattle.settling.specs.Result.{made_of, ordered, picked}

-- whether the leaves of what was built fit
abbrev pub fitting : Option Outcome → Bool
fitting None = false
fitting (Some x) = x.fits

pub fitting_is : (built : Option Outcome) {fits : Bool} → MatchOption built (fits ≡ false) (λ x. fits ≡ x.fits) → fits ≡ fitting built
fitting_is None h = h
fitting_is (Some x) h = h

pub leaves-fit : (built : Option Outcome) {fits : Bool} {x : Outcome} → MatchOption built (fits ≡ false) (λ x. fits ≡ x.fits) → built ≡ Some x → fits ≡ true → x.fits ≡ true
leaves-fit built h is fit = ap fitting (sym is) ∙ sym (fitting_is built h) ∙ fit

-- nothing is refused
pub record Passed (k sizes leaves : Bool) : Type 0 where
  pub small : k ≡ true
  pub few : sizes ≡ true
  pub fit : leaves ≡ true

pub passed : (k sizes leaves : Bool) (place : ℕ) → good tt ≡ ordered k sizes leaves place → Passed k sizes leaves
passed true true true place e = record { small = refl; few = refl; fit = refl }
passed true true false place e = cc
passed true false leaves place e = cc
passed false sizes leaves place e = cc

-- a refusal
told-is : (r : Refusal) {q : stored.Refusal} → judged {A = Unit} (Err r) ≡ refused q → told r ≡ q
told-is r e = cc

module _ (place n k : ℕ) (r : Refusal) where
  leaves-out : (b : Bool) (f : Form) → judged {A = Unit} (Err r) ≡ need b (refusal 16 circuit_source place) (good tt) → judged {A = Form} (Err r) ≡ need b (refusal 16 circuit_source place) (good f)
  leaves-out true f e = cc
  leaves-out false f e = ap (λ (q : stored.Refusal). refused q) (told-is r e)

  pub picked_out : (small : Bool) (built : Option Outcome) → judged {A = Unit} (Err r) ≡ ordered small (is_some built) (fitting built) place
      → judged {A = Form} (Err r) ≡ picked small built place n k
  picked_out false built e = ap (λ (q : stored.Refusal). refused q) (told-is r e)
  picked_out true None e = ap (λ (q : stored.Refusal). refused q) (told-is r e)
  picked_out true (Some x) e = leaves-out x.fits (made_of n k x) e
