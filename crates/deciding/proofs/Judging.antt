-- The check's stages, files and then gates, are the order of refusals that the definitions have. Assumes nothing.
use mathlib.Core.Path.{◌≡◌, refl, sym, ap}
use mathlib.Core.Bool.{Bool, true, false}
use mathlib.Core.List.{List}
use Prim.Native.Nat.{ℕ}
use lib.Dec.{eqb}
use Rattle.automata.specs.Sets.{QSet}
use Rattle.stored.specs.Refusal.{Judged, refused, good, need, on_good, refusal, no_source, start_source, end_source}
use Rattle.stored.specs.Rules.{set_bounds, end_bounds}
use Rattle.stored.specs.Judge.{judge_set}
use Rattle.gates.specs.Gate.{Gate}
use Rattle.gates.specs.Circuit.{judge_circuit}
use Rattle.gates.specs.Refuse.{after_gates}
use Rattle.jobs.specs.Check.{Ready, ready, together, judge_by, judge_check, answer, check_answer}
use Rattle.jobs.specs.Reply.{reply_of}
use Rattle.preparing.specs.Prepared.{same_n, end_judged, end_ready, rest_judged, files_judged}
use Rattle.deciding.specs.Decided.{gates_judged, checked_by}

-- 13 and then the gates
with_gates : (Q : QSet) (gs : List Gate) (E : QSet) → together Q gs E ≡ on_good (on_good (same_n E Q.n) (λ F. good (ready Q gs F))) (gates_judged set_bounds)
unfolding gates_judged
with_gates Q gs E = go (eqb E.n Q.n)
  where
    go : (b : Bool) → need b (refusal 13 no_source 0) (on_good (after_gates set_bounds 1 gs Q) (λ P. good (ready Q gs E)))
        ≡ on_good (on_good (need b (refusal 13 no_source 0) (good E)) (λ F. good (ready Q gs F))) (gates_judged set_bounds)
    go true = refl
    go false = refl

module _ (s c e : List ℕ) where
  with_end : (Q : QSet) (gs : List Gate) → on_good (judge_set end_bounds end_source e) (λ E. together Q gs E) ≡ on_good (end_ready end_bounds Q gs e) (gates_judged set_bounds)
  unfolding end_judged
  with_end Q gs = go (judge_set end_bounds end_source e)
    where
      go : (j : Judged QSet) → on_good j (λ E. together Q gs E) ≡ on_good (on_good (on_good j (λ E. same_n E Q.n)) (λ F. good (ready Q gs F))) (gates_judged set_bounds)
      go (refused r) = refl
      go (good E) = with_gates Q gs E

  with_circuit : (Q : QSet) → on_good (judge_circuit Q.n c) (λ gs. on_good (judge_set end_bounds end_source e) (λ E. together Q gs E))
      ≡ on_good (rest_judged end_bounds Q c e) (gates_judged set_bounds)
  unfolding rest_judged
  with_circuit Q = go (judge_circuit Q.n c)
    where
      go : (j : Judged (List Gate)) → on_good j (λ gs. on_good (judge_set end_bounds end_source e) (λ E. together Q gs E)) ≡ on_good (on_good j (λ gs. end_ready end_bounds Q gs e)) (gates_judged set_bounds)
      go (refused r) = refl
      go (good gs) = with_end Q gs

  as_judged : judge_check s c e ≡ on_good (files_judged set_bounds end_bounds s c e) (gates_judged set_bounds)
  unfolding judge_check judge_by files_judged
  as_judged = go (judge_set set_bounds start_source s)
    where
      go : (j : Judged QSet) → on_good j (λ Q. on_good (judge_circuit Q.n c) (λ gs. on_good (judge_set end_bounds end_source e) (λ E. together Q gs E)))
          ≡ on_good (on_good j (λ Q. rest_judged end_bounds Q c e)) (gates_judged set_bounds)
      go (refused r) = refl
      go (good Q) = with_circuit Q

  pub as_checked : (most : ℕ) → checked_by set_bounds end_bounds s c e most ≡ check_answer s c e most
  unfolding checked_by check_answer
  as_checked most = ap (λ (j : Judged Ready). reply_of (answer most) j) (sym as_judged)
