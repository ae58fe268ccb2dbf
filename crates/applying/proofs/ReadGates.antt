-- The gates that a circuit's records give have shifts below 256. Assumes nothing.
use mathlib.Core.Path.{◌≡◌, subst}
use mathlib.Core.Bool.{Bool, true, false, cond, ◌&&◌, not}
use mathlib.Core.List.{List, [], ◌∷◌}
use mathlib.Core.Option.{Option, none, some}
use Prim.Native.Nat.{ℕ, zero, suc, ◌+◌, min, max}
use native.Mathlib.Omega.{arith}
use lib.Dec.{eqb}
use lib.ListN.{get_or}
use Rattle.automata.proofs.Lists.{Each}
use Rattle.stored.specs.Fields.{mark_at}
use Rattle.gates.specs.Gate.{Kind, phase, flip, H, Gate, plain, controlled}
use Rattle.gates.specs.Circuit.{kind_of, is_qubit, alone, guarded, gate_of, gate_at}
use Rattle.stepwise.proofs.StoredLaws.{LightKind, Light}

-- if an option is a kind, or a gate, it is light
abbrev LightKindO : Option Kind → Type 0
LightKindO none = Unit {0}
LightKindO (some k) = LightKind k

abbrev LightO : Option Gate → Type 0
LightO none = Unit {0}
LightO (some g) = Light g

each-get_d : {X : Type 0} (P : X → Type 0) (xs : List X) (d : X) → Each P xs → P d → (i : ℕ) → P (get_or xs i d)
each-get_d P [] d h e i = e
each-get_d P (x ∷ xs) d h e zero = h.0
each-get_d P (x ∷ xs) d h e (suc i) = each-get_d P xs d h.1 e i

kind-light : (code : ℕ) → LightKindO (kind_of code)
kind-light code =
    each-get_d LightKindO (none ∷ some (flip 0) ∷ some (flip 2) ∷ some (phase 4) ∷ some H ∷ some (phase 2) ∷ some (phase 6) ∷ some (phase 1) ∷ some (phase 7) ∷ []) none
    (tt, (omega arith, (omega arith, (omega arith, (tt, (omega arith, (omega arith, (omega arith, (omega arith, tt))))))))) tt code

where_light : (b : Bool) (g : Gate) → Light g → LightO (cond b (some g) none)
where_light true g h = h
where_light false g h = tt

alone-light : (target control : ℕ) (k : Option Kind) → LightKindO k → LightO (alone target control k)
alone-light t c none h = tt
alone-light t c (some k) h = where_light (eqb c 0) (plain k t) h

code-light : (n code target control : ℕ) → LightO (gate_of n code target control)
code-light n code t c = go (eqb code 9) (eqb code 10)
  where
    go : (a b : Bool) → LightO (cond a (guarded n t c (controlled c (flip 0) t)) (cond b (guarded n t c (controlled (min c t) (phase 4) (max c t))) (alone t c (kind_of code))))
    go true b = where_light (is_qubit n c && not (eqb c t)) (controlled c (flip 0) t) (omega arith)
    go false true = where_light (is_qubit n c && not (eqb c t)) (controlled (min c t) (phase 4) (max c t)) (omega arith)
    go false false = alone-light t c (kind_of code) (kind-light code)

record_light : (n : ℕ) (s : List ℕ) (at : ℕ) → LightO (gate_at n s at)
unfolding gate_at
record_light n s at = go (mark_at 71 84 s at && (is_qubit n (get_or s (at + 3) 0) && eqb (get_or s (at + 5) 0) 0))
  where
    go : (b : Bool) → LightO (cond b (gate_of n (get_or s (at + 2) 0) (get_or s (at + 3) 0) (get_or s (at + 4) 0)) none)
    go true = code-light n (get_or s (at + 2) 0) (get_or s (at + 3) 0) (get_or s (at + 4) 0)
    go false = tt

-- of a code, a target and a control, and of a record
pub code_reads_light : (n code target control : ℕ) (g : Gate) → gate_of n code target control ≡ some g → Light g
code_reads_light n code t c g e = subst LightO e (code-light n code t c)

pub read_light : (n : ℕ) (s : List ℕ) (at : ℕ) (g : Gate) → gate_at n s at ≡ some g → Light g
read_light n s at g e = subst LightO e (record_light n s at)
