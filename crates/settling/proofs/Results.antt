-- What a gate's answer tells its caller: a set that was made is the one that the definitions take, and a refusal is theirs. Assumes nothing.
use mathlib.Core.Path.{◌≡◌, refl, sym, ap, ◌∙◌}
use Rattle.std.specs.Prelude.{Result, Ok, Err}
use Rattle.automata.specs.Sets.{QSet}
use Rattle.stored.specs.Refusal.{Judged, refused, good}
use Rattle.refusals.specs.declared.Refusal.{Refusal}
use Rattle.refusals.specs.Refused.{told, judged, seen}
use Rattle.setfile.specs.declared.Form.{Form}
use Rattle.standing.specs.Standing.{form_of}
use Rattle.settling.specs.declared.Image.{Image}
use Rattle.settling.specs.Result.{next_image, next_of}

pub record MadeOf (j : Judged QSet) (f : Form) : Type 0 where
  pub set : QSet
  pub taken : j ≡ good set
  pub form : f ≡ form_of set

pub made-good : (j : Judged QSet) {x : Result Form Refusal} {f : Form} → judged x ≡ seen form_of j → x ≡ Ok f → MadeOf j f
made-good j {x} {f} e is = go j (ap judged (sym is) ∙ e)
  where
    go : (i : Judged QSet) → judged (Ok f) ≡ seen form_of i → MadeOf i f
    go (refused r) h = cc
    go (good N) h = let same : f ≡ form_of N = cc in record { set = N; taken = refl; form = same }

pub refused-told : (j : Judged QSet) {x : Result Form Refusal} {r : Refusal} → judged x ≡ seen form_of j → x ≡ Err r → j ≡ refused (told r)
refused-told j {x} {r} e is = go j (ap judged (sym is) ∙ e)
  where
    go : (i : Judged QSet) → judged (Err r) ≡ seen form_of i → i ≡ refused (told r)
    go (refused q) h = cc
    go (good N) h = cc

-- the image after a gate, where there is one
pub record After (i j : Image) (x : Result Form Refusal) : Type 0 where
  pub form : Form
  pub made : x ≡ Ok form
  pub then : j ≡ next_image i form

pub after-made : (i j : Image) (x : Result Form Refusal) → Ok j ≡ next_of i x → After i j x
after-made i j (Ok f) e = let same : j ≡ next_image i f = cc in record { form = f; made = refl; then = same }
after-made i j (Err r) e = cc

-- and where the gate was refused
pub after-refused : (i : Image) (x : Result Form Refusal) {r : Refusal} → Err r ≡ next_of i x → x ≡ Err r
after-refused i (Ok f) e = cc
after-refused i (Err q) {r} e = let same : q ≡ r = cc in ap (λ (z : Refusal). Err z) same
