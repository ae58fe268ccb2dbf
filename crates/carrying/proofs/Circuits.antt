-- A circuit that is taken has records that are gates, one after the other, and they are its gates. Assumes nothing.
use mathlib.Core.Path.{◌≡◌, refl, ap, ◌∙◌}
use mathlib.Core.List.{List, [], ◌∷◌}
use mathlib.Core.Option.{some}
use Prim.Native.Nat.{ℕ, zero, suc, ◌+◌, ◌*◌, ◌<◌}
use native.Mathlib.Omega.{arith}
use lib.ListN.{length, get_or}
use Rattle.stored.specs.Fields.{records_from}
use Rattle.stored.specs.Refusal.{good}
use Rattle.gates.specs.Gate.{H, Gate, plain}
use Rattle.gates.specs.Circuit.{gt_size, gate_at, judge_circuit, judge_one}
use Rattle.gates.proofs.Fits.{Fits, AllFit, circuit_fits, one-fits}
use Rattle.circuitfile.proofs.Gates.{Gates, circuit_gates, one-gate}
use Rattle.applying.proofs.ReadGates.{read_light}
use Rattle.carrying.specs.Carried.{Readable, gates_from}
use Rattle.carrying.proofs.Turns.{gates-next}

-- no gate's place
abbrev nothing : Gate
nothing = plain H 1

fits-at : (n : ℕ) (gs : List Gate) → AllFit n gs → (i : ℕ) → i < length gs → Fits n (get_or gs i nothing)
fits-at n [] h i lt = absurd (omega arith)
fits-at n (g ∷ gs) h zero lt = h.0
fits-at n (g ∷ gs) h (suc i) lt = fits-at n gs h.1 i (omega arith)

gates-are : (n : ℕ) (s : List ℕ) (at : ℕ) (gs : List Gate) → ((i : ℕ) → i < length gs → gate_at n s (at + i * gt_size) ≡ some (get_or gs i nothing)) → gates_from n s at (length gs) ≡ gs
unfolding records_from
gates-are n s at [] h = refl
gates-are n s at (g ∷ gs) h =
    let z : at ≡ at + 0 * gt_size = omega arith in
    gates-next n s at (length gs) g (ap (gate_at n s) z ∙ h 0 (omega arith))
    ∙ ap (λ (rest : List Gate). g ∷ rest)
    (gates-are n s (at + gt_size) gs (λ i lt. let e : at + gt_size + i * gt_size ≡ at + suc i * gt_size = omega arith in ap (gate_at n s) e ∙ h (suc i) (omega arith)))

-- what carrying asks of a circuit with these gates
pub record Sound (n : ℕ) (s : List ℕ) (gs : List Gate) : Type 0 where
  pub readable : Readable n s 0 (length gs)
  pub are : gates_from n s 0 (length gs) ≡ gs

sound : {n : ℕ} {s : List ℕ} {gs : List Gate} → Gates n s gs → AllFit n gs → Sound n s gs
sound {n} {s} {gs} g f =
    let is : (i : ℕ) → i < length gs → gate_at n s (0 + i * gt_size) ≡ some (get_or gs i nothing) =
    (λ i lt. let e : 0 + i * gt_size ≡ i * gt_size = omega arith in ap (gate_at n s) e ∙ g.answers i nothing lt) in
    record {
      readable = record {
        there = omega (arith, g.whole);
        each = λ i lt.
            record { gate = get_or gs i nothing; is = is i lt; fits = fits-at n gs f i lt; light = read_light n s (0 + i * gt_size) (get_or gs i nothing) (is i lt) };
      };
      are = gates-are n s 0 gs is;
    }

pub circuit_sound : (n : ℕ) (s : List ℕ) (gs : List Gate) → judge_circuit n s ≡ good gs → Sound n s gs
circuit_sound n s gs e = sound (circuit_gates n s gs e) (circuit_fits n s gs e)

pub one-sound : (n : ℕ) (s : List ℕ) (gs : List Gate) → judge_one n s ≡ good gs → Sound n s gs
one-sound n s gs e = sound (one-gate n s gs e) (one-fits n s gs e)
