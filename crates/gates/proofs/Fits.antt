-- The gates that a circuit's records give fit n qubits: CZ has the smaller qubit as its control, and only X has its control below. Assumes nothing.
use mathlib.Core.Path.{◌≡◌, refl, subst}
use mathlib.Core.Bool.{Bool, true, false, cond, ◌&&◌, not}
use mathlib.Core.List.{List, [], ◌∷◌}
use mathlib.Core.Option.{Option, none, some}
use Prim.Native.Nat.{ℕ, zero, suc, ◌+◌, ◌/◌, ◌%◌, ◌<◌, ◌≤◌, min, max}
use native.Mathlib.Omega.{arith}
use lib.ListN.{length, get_or}
use lib.Dec.{eqb, leb, ltb}
use borrow.Author.Tests.{eqb-false, leb-true, not-true, ltb-true, ltb-false}
use Rattle.amplitude.proofs.Equal.{both}
use Rattle.stored.specs.Refusal.{good, refusal, circuit_source}
use Rattle.stored.specs.Fields.{mark_at, records_from}
use Rattle.stored.specs.Rules.{passes, first_bad}
use Rattle.stored.proofs.Reading.{need-good, good-same}
use Rattle.gates.specs.Gate.{Kind, phase, flip, H, Gate, plain, controlled}
use Rattle.gates.specs.Circuit.{kind_of, is_qubit, alone, guarded, gate_of, gate_at, is_gate, somes, records_of, judge_gates, judge_circuit, judge_one}

-- a kind that leaves k as it is
abbrev pub Whole : Kind → Type 0
Whole (phase j) = Unit {0}
Whole (flip j) = Unit {0}
Whole H = ⊥

pub data Fits (n : ℕ) : Gate → Type 0 where
  fits-plain : (k : Kind) (t : ℕ) → 0 < t → t ≤ n → Fits n (plain k t)
  fits_above : (k : Kind) → Whole k → (b t : ℕ) → 0 < b → b < t → t ≤ n → Fits n (controlled b k t)
  fits_below : (b t : ℕ) → 0 < t → t < b → b ≤ n → Fits n (controlled b (flip 0) t)

abbrev pub AllFit : ℕ → List Gate → Type 0
AllFit n [] = Unit {0}
AllFit n (g ∷ gs) = Fits n g × AllFit n gs

-- if an option is a gate, the gate fits
abbrev FitsO : ℕ → Option Gate → Type 0
FitsO n none = Unit {0}
FitsO n (some g) = Fits n g

qubit_tells : (n q : ℕ) → is_qubit n q ≡ true → (0 < q) × (q ≤ n)
qubit_tells n q e = let p = both (leb 1 q) _ e in (leb-true _ _ p.0, leb-true _ _ p.1)

alone-fits : (n target control : ℕ) (k : Option Kind) → 0 < target → target ≤ n → FitsO n (alone target control k)
alone-fits n t c none h l = tt
alone-fits n t c (some k) h l = go (eqb c 0)
  where
    go : (b : Bool) → FitsO n (cond b (some (plain k t)) none)
    go true = fits-plain k t h l
    go false = tt

guarded-fits : (n t c : ℕ) (g : Gate) → (0 < c → c ≤ n → (c ≡ t → ⊥) → Fits n g) → FitsO n (guarded n t c g)
guarded-fits n t c g f = go (is_qubit n c && not (eqb c t)) refl
  where
    go : (b : Bool) → is_qubit n c && not (eqb c t) ≡ b → FitsO n (cond b (some g) none)
    go true e =
        let p = both (is_qubit n c) _ e in
        let q = qubit_tells n c p.0 in
        f q.0 q.1 (eqb-false c t (not-true _ p.1))
    go false e = tt

gate-fits : (n code t c : ℕ) → 0 < t → t ≤ n → FitsO n (gate_of n code t c)
gate-fits n code t c h l = go (eqb code 9) (eqb code 10)
  where
    cx : 0 < c → c ≤ n → (c ≡ t → ⊥) → (b : Bool) → ltb c t ≡ b → Fits n (controlled c (flip 0) t)
    cx p q r true e = fits_above (flip 0) tt c t p (ltb-true c t e) l
    cx p q r false e = fits_below c t h (omega (arith, r, ltb-false c t e)) q

    cz : 0 < c → c ≤ n → (c ≡ t → ⊥) → Fits n (controlled (min c t) (phase 4) (max c t))
    cz p q r = fits_above (phase 4) tt (min c t) (max c t) (omega arith) (omega (arith, r)) (omega arith)

    go : (a b : Bool) → FitsO n (cond a (guarded n t c (controlled c (flip 0) t)) (cond b (guarded n t c (controlled (min c t) (phase 4) (max c t))) (alone t c (kind_of code))))
    go true b = guarded-fits n t c (controlled c (flip 0) t) (λ p q r. cx p q r (ltb c t) refl)
    go false true = guarded-fits n t c (controlled (min c t) (phase 4) (max c t)) cz
    go false false = alone-fits n t c (kind_of code) h l

record_fits : (n : ℕ) (s : List ℕ) (at : ℕ) → FitsO n (gate_at n s at)
unfolding gate_at
record_fits n s at = go (mark_at 71 84 s at && (is_qubit n (get_or s (at + 3) 0) && eqb (get_or s (at + 5) 0) 0)) refl
  where
    go : (b : Bool) → mark_at 71 84 s at && (is_qubit n (get_or s (at + 3) 0) && eqb (get_or s (at + 5) 0) 0) ≡ b
        → FitsO n (cond b (gate_of n (get_or s (at + 2) 0) (get_or s (at + 3) 0) (get_or s (at + 4) 0)) none)
    go true e =
        let p = both (mark_at 71 84 s at) _ e in
        let q = qubit_tells n (get_or s (at + 3) 0) (both (is_qubit n (get_or s (at + 3) 0)) _ p.1).0 in
        gate-fits n (get_or s (at + 2) 0) (get_or s (at + 3) 0) (get_or s (at + 4) 0) q.0 q.1
    go false e = tt

somes-fit : (n : ℕ) (s : List ℕ) (at size count : ℕ) → AllFit n (somes (records_from (gate_at n s) at size count))
unfolding records_from
somes-fit n s at size zero = tt
somes-fit n s at size (suc count) = go (gate_at n s at) (record_fits n s at) (somes-fit n s (at + size) size count)
  where
    go : (o : Option Gate) → FitsO n o → AllFit n (somes (records_from (gate_at n s) (at + size) size count)) → AllFit n (somes (o ∷ records_from (gate_at n s) (at + size) size count))
    go none f r = r
    go (some g) f r = (f, r)

gates-fit : (n : ℕ) (s : List ℕ) (gs : List Gate) → judge_gates n s ≡ good gs → AllFit n gs
unfolding judge_gates records_of
gates-fit n s gs e =
    let p = need-good (passes is_gate (records_of n s)) (refusal 12 circuit_source (suc (first_bad is_gate (records_of n s)))) _ gs e in
    subst (AllFit n) (good-same (somes (records_of n s)) gs p.1) (somes-fit n s 0 6 _)

-- a circuit that is not refused: its gates fit
pub circuit_fits : (n : ℕ) (s : List ℕ) (gs : List Gate) → judge_circuit n s ≡ good gs → AllFit n gs
unfolding judge_circuit
circuit_fits n s gs e = gates-fit n s gs (need-good (eqb (length s % 6) 0 && leb (length s / 6) 4096) (refusal 11 circuit_source 0) (judge_gates n s) gs e).1

pub one-fits : (n : ℕ) (s : List ℕ) (gs : List Gate) → judge_one n s ≡ good gs → AllFit n gs
unfolding judge_one
one-fits n s gs e = gates-fit n s gs (need-good (eqb (length s) 6) (refusal 11 circuit_source 0) (judge_gates n s) gs e).1
