-- What files that are all good tell: the circuit's gates are on the start set's qubits, and the end set has as many. Assumes nothing.
use mathlib.Core.Path.{◌≡◌, refl, sym, ap, ◌∙◌}
use mathlib.Core.List.{List}
use Prim.Native.Nat.{ℕ}
use native.Mathlib.Omega.{arith}
use lib.Dec.{eqb}
use lib.ListN.{length}
use borrow.Author.Tests.{eqb-true}
use Rattle.automata.specs.Sets.{QSet}
use Rattle.stored.specs.Refusal.{Judged, refused, good, on_good, refusal, no_source, start_source, end_source}
use Rattle.stored.specs.Rules.{Bounds}
use Rattle.stored.specs.Judge.{judge_set}
use Rattle.stored.proofs.Reading.{need-good, good-same}
use Rattle.gates.specs.Gate.{Gate}
use Rattle.gates.specs.Circuit.{judge_circuit}
use Rattle.jobs.specs.Check.{Ready, ready}
use Rattle.preparing.specs.Prepared.{same_n, end_judged, end_ready, rest_judged, files_judged}

-- ---- the files
pub record Whole (c : List ℕ) (J : Ready) : Type 0 where
  pub circuit : judge_circuit J.start.n c ≡ good J.gates
  pub qubits : J.end.n ≡ J.start.n

module _ (b eb : Bounds) (s c e : List ℕ) (J : Ready) where
  with_end : (Q : QSet) (gs : List Gate) → judge_circuit Q.n c ≡ good gs → (E : QSet) → same_n E Q.n ≡ good E → ready Q gs E ≡ J → Whole c J
  with_end Q gs h E k i = record {
    circuit = ap (λ (x : Ready). judge_circuit x.start.n c) (sym i) ∙ h ∙ ap (λ (x : Ready). good x.gates) i;
    qubits =
        ap (λ (x : Ready). x.end.n) (sym i) ∙ eqb-true E.n Q.n (need-good (eqb E.n Q.n) (refusal 13 no_source 0) (good E) E k).0 ∙ ap (λ (x : Ready). x.start.n) i;
  }

  with_same : (Q : QSet) (gs : List Gate) → judge_circuit Q.n c ≡ good gs → (E : QSet) (j : Judged QSet) → same_n E Q.n ≡ j → on_good j (λ F. good (ready Q gs F)) ≡ good J → Whole c J
  with_same Q gs h E (refused r) i k = let z : ◌≡◌ {A = ℕ} 0 1 = cc in absurd (omega arith)
  with_same Q gs h E (good F) i k =
      let f : E ≡ F = good-same E F (need-good (eqb E.n Q.n) (refusal 13 no_source 0) (good E) F i).1 in
      with_end Q gs h E (i ∙ ap good (sym f)) (ap (ready Q gs) f ∙ good-same (ready Q gs F) J k)

  with_set : (Q : QSet) (gs : List Gate) → judge_circuit Q.n c ≡ good gs → end_ready eb Q gs e ≡ good J → Whole c J
  unfolding end_judged
  with_set Q gs h g = go (judge_set eb end_source e) g
    where
      go : (j : Judged QSet) → on_good (on_good j (λ E. same_n E Q.n)) (λ F. good (ready Q gs F)) ≡ good J → Whole c J
      go (refused r) k = let z : ◌≡◌ {A = ℕ} 0 1 = cc in absurd (omega arith)
      go (good E) k = with_same Q gs h E (same_n E Q.n) refl k

  with_circuit : (Q : QSet) → rest_judged eb Q c e ≡ good J → Whole c J
  unfolding rest_judged
  with_circuit Q g = go (judge_circuit Q.n c) refl g
    where
      go : (j : Judged (List Gate)) → judge_circuit Q.n c ≡ j → on_good j (λ gs. end_ready eb Q gs e) ≡ good J → Whole c J
      go (refused r) i k = let z : ◌≡◌ {A = ℕ} 0 1 = cc in absurd (omega arith)
      go (good gs) i k = with_set Q gs i k

  pub files_whole : files_judged b eb s c e ≡ good J → Whole c J
  unfolding files_judged
  files_whole g = go (judge_set b start_source s) g
    where
      go : (j : Judged QSet) → on_good j (λ Q. rest_judged eb Q c e) ≡ good J → Whole c J
      go (refused r) k = let z : ◌≡◌ {A = ℕ} 0 1 = cc in absurd (omega arith)
      go (good Q) k = with_circuit Q k
