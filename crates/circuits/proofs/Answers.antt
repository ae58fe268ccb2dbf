-- The code's enums hold just what the definitions' gates hold, so nothing is lost on the way: each goes back to where it came from. Assumes nothing.
use mathlib.Core.Path.{◌≡◌, refl, sym, ap, ◌∙◌}
use Rattle.std.specs.Prelude as code
use Rattle.std.specs.declared.option.Option.TheVariants.{Some, None}
use Prim.Native.Nat.{ℕ}
use native.Mathlib.Omega.{arith}
use Rattle.gates.specs.Gate as def
use Rattle.gates.specs.Gate.{phase, flip, H, plain, controlled}
use Rattle.circuits.specs.declared.Kind.{Kind}
use Rattle.circuits.specs.declared.Kind.TheVariants as kind
use Rattle.circuits.specs.declared.Gate.{Gate}
use Rattle.circuits.specs.declared.Gate.TheVariants as gate
use Rattle.circuits.specs.Answer.{kind_from, gate_from, kind_is, gate_is, gate_told}

-- ---- there and back
pub kind-back : (k : def.Kind) → kind_is (kind_from k) ≡ k
kind-back (phase j) = refl
kind-back (flip j) = refl
kind-back H = refl

pub gate-back : (g : def.Gate) → gate_is (gate_from g) ≡ g
gate-back (plain k t) = ap (λ (x : def.Kind). plain x t) (kind-back k)
gate-back (controlled c k t) = ap (λ (x : def.Kind). controlled c x t) (kind-back k)

pub kind_forth : (k : Kind) → kind_from (kind_is k) ≡ k
kind_forth (kind.Phase j) = refl
kind_forth (kind.Flip j) = refl
kind_forth kind.H = refl

pub gate_forth : (g : Gate) → gate_from (gate_is g) ≡ g
gate_forth (gate.Plain k t) = ap (λ (x : Kind). gate.Plain x t) (kind_forth k)
gate_forth (gate.Controlled c k t) = ap (λ (x : Kind). gate.Controlled c x t) (kind_forth k)

-- two records with one gate are one answer of the code's
pub told_tells : (o p : code.Option Gate) → gate_told o ≡ gate_told p → o ≡ p
told_tells None None e = refl
told_tells None (Some h) e = let z : ◌≡◌ {A = ℕ} 0 1 = cc in absurd (omega arith)
told_tells (Some g) None e = let z : ◌≡◌ {A = ℕ} 0 1 = cc in absurd (omega arith)
told_tells (Some g) (Some h) e = let f : gate_is g ≡ gate_is h = cc in ap Some (sym (gate_forth g) ∙ ap gate_from f ∙ gate_forth h)
