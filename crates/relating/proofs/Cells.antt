-- A relation's marks on a level are the words of the level in its plane: where those are the same, so is all that the search says.
-- Assumes nothing.
use mathlib.Core.Path.{◌≡◌, refl, ap, ap₂, ◌∙◌}
use mathlib.Core.List.{List}
use Prim.Native.Nat.{ℕ, suc, ◌+◌, ◌-◌, ◌*◌, ◌/◌, ◌%◌, ◌<◌, ◌≤◌}
use native.Mathlib.Nat.{mul-le-mul_right}
use native.Mathlib.Omega.{arith}
use lib.ListN.{length, get_or, take, drop, length-drop}
use lib.Seq.{length-take-le, get_or-take, get_or-drop}
use Rattle.automata.specs.Choice.{has}
use Rattle.automata.specs.Tree.{Automaton}
use Rattle.flags.specs.Flags.{flag_at}
use Rattle.meeting.specs.declared.Level.{Level}
use Rattle.meeting.specs.Met.{place, is_met}
use Rattle.meeting.specs.All.{all_met}
use Rattle.meeting.proofs.Places.{words-before}
use Rattle.meeting.proofs.MetLaws.{Same, met_same}
use Rattle.stepping.specs.Step.{Kept}
use Rattle.matching.specs.Seeking.{twins, sought}
use Rattle.matching.proofs.Words.{any_ext}
use Rattle.relating.specs.Found.{plane_of}

pub plane_cell : (plane : ℕ) (stack : List ℕ) (j i : ℕ) → i < plane → get_or (plane_of plane stack j) i 0 ≡ get_or stack (j * plane + i) 0
plane_cell plane stack j i h = get_or-take plane (drop (j * plane) stack) i 0 h ∙ get_or-drop (j * plane) stack i 0

-- a plane as a part that is lent
pub plane_lent : (plane : ℕ) (stack : List ℕ) (j : ℕ) {start stop : ℕ} → start ≡ j * plane + 0 → stop ≡ j * plane + plane → take (stop - start) (drop start stack) ≡ plane_of plane stack j
plane_lent plane stack j {start} {stop} e f =
    let n : stop - start ≡ plane = omega arith in
    let a : start ≡ j * plane = omega arith in
    ap₂ (λ (x y : ℕ). take x (drop y stack)) n a

pub plane_long : (plane : ℕ) (stack : List ℕ) (j : ℕ) → j * plane + plane ≤ length stack → length (plane_of plane stack j) ≡ plane
plane_long plane stack j h = length-take-le plane (drop (j * plane) stack) (omega (arith, length-drop (j * plane) stack))

-- rows with the same words on the level have the same marks on it
pub same-cells : {wide : ℕ} {met met' : List ℕ} {l : Level} → l.stop ≤ wide * 32
    → ((i : ℕ) → l.from * wide ≤ i → i < l.to * wide → get_or met' i 0 ≡ get_or met i 0) → Same wide met met' l
unfolding is_met flag_at
same-cells {wide} {met} {met'} {l} narrow h = record {
  each = λ s e on.
      let lo = mul-le-mul_right wide on.after in
      let hi = words-before wide s l.to on.before in
      ap (λ (x : ℕ). has x (place wide s e % 32)) (h (place wide s e / 32) (omega (arith, on.end_before)) (omega (arith, on.end_before)));
}

pub kept-marks : {wide : ℕ} {met met' : List ℕ} {l : Level} → l.stop ≤ wide * 32 → Kept wide met l.to met' → Same wide met met' l
kept-marks narrow k = record { each = λ s e on. k.each s e on.before (omega (arith, on.end_before)) }

pub sought-same : (S E : Automaton ℕ) (word : List ℕ) (at m : ℕ) {wide : ℕ} {met met' : List ℕ} (l : Level) → Same wide met met' l → sought S E word at m wide met' l ≡ sought S E word at m wide met l
sought-same S E word at m {wide} {met} {met'} l w =
    any_ext (suc m) (λ v. all_met (twins S E word at m v) wide met' l) (λ v. all_met (twins S E word at m v) wide met l)
    (λ v. met_same (twins S E word at m v) (twins S E word at m v) wide met met' l w (λ s e on. refl))
