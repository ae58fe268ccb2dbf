-- The judgement part by part, as the code goes, and what a file that breaks none of 1 to 5 is. Assumes nothing.
use mathlib.Core.Path.{◌≡◌, refl, ap, ◌∙◌}
use mathlib.Core.Bool.{Bool, true, false}
use mathlib.Core.List.{List}
use Prim.Native.Nat.{ℕ, ◌≤◌}
use native.Mathlib.Omega.{arith}
use lib.Dec.{eqb}
use lib.ListN.{length, get_or}
use borrow.Author.Tests.{le-leb, eqb-true}
use Rattle.automata.specs.Sets.{QSet}
use Rattle.stored.specs.Refusal.{Refusal, Judged, refused, good, need, on_good, refusal}
use Rattle.stored.specs.Fields.{mark_at}
use Rattle.stored.specs.Form as stored
use Rattle.stored.specs.Form.{form_of, set_of, hd_size, file_size}
use Rattle.stored.specs.Rules.{Bounds, head_ok, version_ok, ranges_ok, counts_ok, length_ok, marks_ok, mark_place, levels_ok, trs_ok, tr_number, tr_place, lfs_ok, lf_place, order_ok, clash_place}
use Rattle.stored.specs.Judge.{judge_set}
use Rattle.stored.proofs.Reading.{need-good}
use Rattle.setfile.specs.declared.Form.{Form}
use Rattle.setfile.specs.Answer.{form_in, form_read, Whole}
use Rattle.setfile.specs.Judged.{header_judged, marks_judged, inner_judged, leaves_judged, order_judged}

-- ---- a rule that is broken decides, and one that is kept passes on
pub need_err : {X : Type 0} (k : Bool) (r q : Refusal) (rest : Judged X) → refused q ≡ need k r (good (tt {0})) → refused q ≡ need k r rest
need_err true r q rest e = let z : ◌≡◌ {A = ℕ} 0 1 = cc in absurd (omega arith)
need_err false r q rest e = let same : q ≡ r = cc in ap refused same

pub need_ok : {X : Type 0} (k : Bool) (r : Refusal) (rest : Judged X) → good (tt {0}) ≡ need k r (good tt) → rest ≡ need k r rest
need_ok true r rest e = refl
need_ok false r rest e = let z : ◌≡◌ {A = ℕ} 0 1 = cc in absurd (omega arith)

pub kept_true : (k : Bool) (r : Refusal) → good (tt {0}) ≡ need k r (good tt) → k ≡ true
kept_true true r e = refl
kept_true false r e = let z : ◌≡◌ {A = ℕ} 0 1 = cc in absurd (omega arith)

module _ (s : List ℕ) where
  pub form-is : (f : Form) → f ≡ form_read s → form_in f ≡ form_of s
  unfolding form_read
  form-is f e = ap form_in e

  pub head-is : {k : Bool} → hd_size ≤ length s → k ≡ mark_at 72 68 s 0 → k ≡ head_ok s
  unfolding head_ok
  head-is h e = rw (le-leb hd_size (length s) h) e

  -- what HD says
  pub form-read : {f : Form} → Whole s f → f ≡ form_read s
  unfolding form_read
  form-read {f} w = ap (λ (F : stored.Form). record { n = F.n; k = F.k; states = F.states; inner = F.inner; leaves = F.leaves }) w.is

  -- rule 7 of a file of the length that its header gives
  pub levels-is : (source : ℕ) (f : Form) (k : Bool) → Whole s f → k ≡ levels_ok f.states (set_of s)
      → need k (refusal 7 source 0) (good (tt {0})) ≡ need (levels_ok (form_of s).states (set_of s)) (refusal 7 source 0) (good tt)
  levels-is source f k w e = ap (λ (x : Bool). need x (refusal 7 source 0) (good (tt {0}))) (e ∙ ap (λ (F : stored.Form). levels_ok F.states (set_of s)) w.is)

  pub version-is : eqb (get_or s 2 0) 1 ≡ version_ok s
  unfolding version_ok
  version-is = refl

  pub length-is : (size : ℕ) (f : Form) → f ≡ form_read s → size ≡ file_size (form_in f) → eqb (length s) size ≡ length_ok s (form_of s)
  unfolding length_ok
  length-is size f e h = ap (eqb (length s)) (h ∙ ap file_size (form-is f e))

  -- a file of the length that its header gives
  pub whole : length_ok s (form_of s) ≡ true → Whole s (form_read s)
  unfolding length_ok form_read
  whole e = record { is = refl; size = eqb-true (length s) (file_size (form_of s)) e }

module _ (b : Bounds) (source : ℕ) (s : List ℕ) where
  -- the five tests of HD and the length
  pub header_is : {k1 k2 k3 k4 k5 : Bool} → k1 ≡ head_ok s → k2 ≡ version_ok s → k3 ≡ ranges_ok s (form_of s) → k4 ≡ counts_ok b (form_of s) → k5 ≡ length_ok s (form_of s)
      → need k1 (refusal 1 source 0) (need k2 (refusal 2 source 0) (need k3 (refusal 3 source 0) (need k4 (refusal 4 source 0) (need k5 (refusal 5 source 0) (good (form_read s))))))
      ≡ header_judged b source s
  unfolding header_judged
  header_is e1 e2 e3 e4 e5 = cc

  -- each part after the one before it
  pub in_parts : judge_set b source s
      ≡ on_good (header_judged b source s) (λ f. on_good (marks_judged source s) (λ m.
      on_good (need (levels_ok (form_of s).states (set_of s)) (refusal 7 source 0) (good (tt {0}))) (λ l.
      on_good (inner_judged source s) (λ i. on_good (leaves_judged source s) (λ e. on_good (order_judged source s) (λ o. good (set_of s)))))))
  unfolding judge_set header_judged marks_judged inner_judged leaves_judged order_judged
  in_parts =
      let F = form_of s in
      let Q = set_of s in
      go (head_ok s) (version_ok s) (ranges_ok s F) (counts_ok b F) (length_ok s F) (marks_ok s F) (levels_ok F.states Q) (trs_ok Q) (lfs_ok Q) (order_ok Q)
    where
      go : (a1 a2 a3 a4 a5 a6 a7 a8 a9 a10 : Bool) →
          need a1 (refusal 1 source 0) (need a2 (refusal 2 source 0) (need a3 (refusal 3 source 0) (need a4 (refusal 4 source 0) (need a5 (refusal 5 source 0)
          (need a6 (refusal 6 source (mark_place s (form_of s))) (need a7 (refusal 7 source 0)
          (need a8 (refusal (tr_number (set_of s)) source (tr_place (form_of s) (set_of s)))
          (need a9 (refusal 9 source (lf_place (form_of s) (set_of s))) (need a10 (refusal 10 source (clash_place (form_of s) (set_of s))) (good (set_of s)))))))))))
          ≡ on_good (need a1 (refusal 1 source 0) (need a2 (refusal 2 source 0) (need a3 (refusal 3 source 0) (need a4 (refusal 4 source 0)
          (need a5 (refusal 5 source 0) (good (form_read s))))))) (λ f.
          on_good (need a6 (refusal 6 source (mark_place s (form_of s))) (good (tt {0}))) (λ m. on_good (need a7 (refusal 7 source 0) (good (tt {0}))) (λ l.
          on_good (need a8 (refusal (tr_number (set_of s)) source (tr_place (form_of s) (set_of s))) (good (tt {0}))) (λ i.
          on_good (need a9 (refusal 9 source (lf_place (form_of s) (set_of s))) (good (tt {0}))) (λ e.
          on_good (need a10 (refusal 10 source (clash_place (form_of s) (set_of s))) (good (tt {0}))) (λ o. good (set_of s)))))))
      go false a2 a3 a4 a5 a6 a7 a8 a9 a10 = refl
      go true false a3 a4 a5 a6 a7 a8 a9 a10 = refl
      go true true false a4 a5 a6 a7 a8 a9 a10 = refl
      go true true true false a5 a6 a7 a8 a9 a10 = refl
      go true true true true false a6 a7 a8 a9 a10 = refl
      go true true true true true false a7 a8 a9 a10 = refl
      go true true true true true true false a8 a9 a10 = refl
      go true true true true true true true false a9 a10 = refl
      go true true true true true true true true false a10 = refl
      go true true true true true true true true true false = refl
      go true true true true true true true true true true = refl

  -- a set that is good breaks none of 1 to 5
  pub good_whole : (Q : QSet) → judge_set b source s ≡ good Q → Whole s (form_read s)
  unfolding judge_set
  good_whole Q e =
      let F = form_of s in
      let e1 = need-good (head_ok s) (refusal 1 source 0) _ Q e in
      let e2 = need-good (version_ok s) (refusal 2 source 0) _ Q e1.1 in
      let e3 = need-good (ranges_ok s F) (refusal 3 source 0) _ Q e2.1 in
      let e4 = need-good (counts_ok b F) (refusal 4 source 0) _ Q e3.1 in
      let e5 = need-good (length_ok s F) (refusal 5 source 0) _ Q e4.1 in
      whole s e5.0
