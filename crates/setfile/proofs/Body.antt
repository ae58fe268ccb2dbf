-- Rules 6 to 10 of a file as long as its header says: where each scan stops is where the rule's own list has its first bad record. Assumes nothing.
use mathlib.Core.Path.{◌≡◌, refl, sym, ap, ap₂, ◌∙◌}
use mathlib.Core.Bool.{Bool, true, false, cond, ◌&&◌}
use mathlib.Core.List.{List, [], ◌++◌}
use Prim.Native.Nat.{ℕ, zero, suc, ◌+◌, ◌*◌, ◌≤◌, ◌<◌}
use native.Mathlib.Nat.{suc-mul}
use native.Mathlib.Omega.{arith}
use lib.ListN.{length, length-append}
use lib.Dec.{eqb, leb}
use borrow.Author.Tests.{eq-eqb, ne_eqb, eqb-true, eqb-false}
use Rattle.std.specs.Prelude.{Option, Result}
use Rattle.std.specs.declared.option.Option.TheVariants.{Some, None}
use Rattle.automata.specs.Sets.{QSet, TR, Rec, rec}
use Rattle.stored.specs.Refusal.{Judged, refused, good, need, on_good, refusal}
use Rattle.stored.specs.Fields.{mark_at, records_from}
use Rattle.stored.specs.Form as stored
use Rattle.stored.specs.Form.{form_of, set_of, hd_size, lv_size, tr_size, lf_size, trs_at, lfs_at, tr_at, lf_at}
use Rattle.stored.specs.Rules.{first_bad, first_fault, passes, of_tr, of_lf, record_no, lv_marks, tr_marks, lf_marks, later_marks, marks_ok, mark_place, level_of, tr_fault, trs_ok, tr_number, tr_place, lf_ok, lfs_ok, lf_place, first_clash, ordered, order_ok, clash_place}
use Rattle.stored.proofs.Reading.{records-count}
use Rattle.stored.proofs.ScanLaws.{bad_append}
use Rattle.stored.proofs.Places.{bad-most}
use Rattle.refusals.specs.declared.Reason.{Reason}
use Rattle.refusals.specs.declared.Reason.TheVariants as why
use Rattle.refusals.specs.declared.Fault.{Fault}
use Rattle.refusals.specs.Refused.{number_of, judged_at}
use Rattle.records.specs.Read.{bare, key_read}
use Rattle.faults.specs.Fault.{reason_of}
use Rattle.order.proofs.PassLaws.{clash_is}
use Rattle.scans.specs.declared.Records.{Records}
use Rattle.scans.specs.Scan.{FirstBad}
use Rattle.scans.proofs.ScanLaws.{first_is, none_passes, first_fails}
use Rattle.setfile.specs.declared.Form.{Form}
use Rattle.setfile.specs.Answer.{form_in, Whole}
use Rattle.setfile.specs.Judged.{fault_from, clash_from, marks_judged, inner_judged, leaves_judged, order_judged}

-- ---- the judgement that a scan comes to
module _ {X : Type 0} (test : X → Bool) (read : ℕ → X) (says : ℕ → Option Reason → Type 0) (kept : (i : ℕ) → says i None → test (read i) ≡ true) (number first source : ℕ) (r : Records) where
  pub scan_judged : ((i : ℕ) (why : Reason) → says i (Some why) → (test (read i) ≡ false) × (number_of why ≡ number)) → (o : Option (ℕ × Reason)) → FirstBad says r o
      → judged_at source (fault_from first o) ≡ need (passes test (records_from read r.at r.size r.count)) (refusal number source (first + first_bad test (records_from read r.at r.size r.count))) (good tt)
  scan_judged broken None h = rw (none_passes test read r says kept h) refl
  scan_judged broken (Some x) h =
      let f = first_is test read r says kept h (λ i e. (broken i x.1 e).0) in
      rw (first_fails test read r says kept h (λ i e. (broken i x.1 e).0), f, (broken (r.at + x.0 * r.size) x.1 h.here).1) refl

-- a rule with a reason of its own
module _ {X : Type 0} (test : X → Bool) (read : ℕ → X) (why : Reason) (says : ℕ → Option Reason → Type 0)
    (looks : (i : ℕ) (r : Option Reason) → says i r → r ≡ cond (test (read i)) None (Some why)) where
  kept : (i : ℕ) → says i None → test (read i) ≡ true
  kept i h = go (test (read i)) (looks i None h)
    where
      go : (b : Bool) → None ≡ cond b None (Some why) → b ≡ true
      go true e = refl
      go false e = let z : ◌≡◌ {A = ℕ} 0 1 = cc in absurd (omega arith)

  broken : (i : ℕ) (x : Reason) → says i (Some x) → (test (read i) ≡ false) × (number_of x ≡ number_of why)
  broken i x h = go (test (read i)) (looks i (Some x) h)
    where
      go : (b : Bool) → Some x ≡ cond b None (Some why) → (b ≡ false) × (number_of x ≡ number_of why)
      go true e = let z : ◌≡◌ {A = ℕ} 0 1 = cc in absurd (omega arith)
      go false e = let same : x ≡ why = cc in (refl, ap number_of same)

  pub rule_judged : (first source : ℕ) (r : Records) (o : Option (ℕ × Reason)) → FirstBad says r o
      → judged_at source (fault_from first o) ≡ need (passes test (records_from read r.at r.size r.count)) (refusal (number_of why) source (first + first_bad test (records_from read r.at r.size r.count))) (good tt)
  rule_judged first source r = scan_judged test read says kept (number_of why) first source r broken

-- ---- one list that runs on into the next
module _ {X : Type 0} (test : X → Bool) (number source first : ℕ) (xs ys : List X) where
  pub run_on : on_good (need (passes test xs) (refusal number source (first + first_bad test xs)) (good (tt {0})))
      (λ u. need (passes test ys) (refusal number source (first + length xs + first_bad test ys)) (good (tt {0})))
      ≡ need (passes test (xs ++ ys)) (refusal number source (first + first_bad test (xs ++ ys))) (good tt)
  run_on = go (passes test xs) refl (passes test ys) refl
    where
      total : length (xs ++ ys) ≡ length xs + length ys
      total = length-append xs ys

      go : (a : Bool) → passes test xs ≡ a → (b : Bool) → passes test ys ≡ b
          → on_good (need a (refusal number source (first + first_bad test xs)) (good (tt {0}))) (λ u. need b (refusal number source (first + length xs + first_bad test ys)) (good (tt {0})))
          ≡ need (passes test (xs ++ ys)) (refusal number source (first + first_bad test (xs ++ ys))) (good tt)
      go true e true f =
          let here : first_bad test (xs ++ ys) ≡ length xs + first_bad test ys = bad_append test xs ys ∙ rw e refl in
          let all = eqb-true (first_bad test ys) (length ys) f in
          rw (eq-eqb (first_bad test (xs ++ ys)) (length (xs ++ ys)) (omega (arith, total))) refl
      go true e false f =
          let here : first_bad test (xs ++ ys) ≡ length xs + first_bad test ys = bad_append test xs ys ∙ rw e refl in
          let some = eqb-false (first_bad test ys) (length ys) f in
          rw (ne_eqb (first_bad test (xs ++ ys)) (length (xs ++ ys)) (λ z. some (omega (arith, total)))) (ap (λ (x : ℕ). refused (refusal number source x)) (omega arith))
      go false e b f =
          let here : first_bad test (xs ++ ys) ≡ first_bad test xs = bad_append test xs ys ∙ rw e refl in
          let some = eqb-false (first_bad test xs) (length xs) e in
          let most = bad-most test xs in
          rw (ne_eqb (first_bad test (xs ++ ys)) (length (xs ++ ys)) (λ z. some (omega (arith, total))), here) refl

-- ---- the first fault is that of the record where the scan stops
first_told : {X : Type 0} (fault : X → ℕ) (read : ℕ → X) (size at count i : ℕ) → i < count → first_bad (λ x. eqb (fault x) 0) (records_from read at size count) ≡ i
    → first_fault fault (records_from read at size count) ≡ fault (read (at + i * size))
unfolding records_from
first_told fault read size at zero i l h = absurd (omega arith)
first_told {X} fault read size at (suc count) i l h = go (eqb (fault (read at)) 0) i l h (first_told fault read size (at + size) count)
  where
    xs : List X
    xs = records_from read (at + size) size count

    go : (b : Bool) (i : ℕ) → i < suc count → cond b (suc (first_bad (λ x. eqb (fault x) 0) xs)) 0 ≡ i
        → ((j : ℕ) → j < count → first_bad (λ x. eqb (fault x) 0) xs ≡ j → first_fault fault xs ≡ fault (read (at + size + j * size)))
        → cond b (first_fault fault xs) (fault (read at)) ≡ fault (read (at + i * size))
    go true zero l h ih = absurd (omega arith)
    go true (suc j) l h ih = ih j (omega arith) (omega arith) ∙ ap (λ (k : ℕ). fault (read k)) (omega (arith, suc-mul j size))
    go false i l h ih = ap (λ (k : ℕ). fault (read k)) (let z : i ≡ 0 = omega arith in rw z (omega arith))

-- ---- a file's parts
module _ (s : List ℕ) (f : Form) (w : Whole s f) (source : ℕ) where
  -- 9
  pub leaves_are : (says : ℕ → Option Reason → Type 0) → ((i : ℕ) (r : Option Reason) → says i r → r ≡ cond (lf_ok (set_of s) (lf_at (form_of s).k s i)) None (Some why.Leaf))
      → (r : Records) → r ≡ record { at = lfs_at (form_in f); size = lf_size; count = f.leaves } → (first : ℕ) → first ≡ record_no (form_in f) of_lf 0
      → (o : Option (ℕ × Reason)) → FirstBad says r o → judged_at source (fault_from first o) ≡ leaves_judged source s
  unfolding leaves_judged lfs_ok lf_place set_of
  leaves_are says looks r is first e o h =
      let F = form_of s in
      let j = rule_judged (lf_ok (set_of s)) (lf_at F.k s) why.Leaf says looks first source r o h in
      let same : records_from (lf_at F.k s) r.at r.size r.count ≡ records_from (lf_at F.k s) (lfs_at F) lf_size F.leaves =
      ap (λ (x : Records). records_from (lf_at F.k s) x.at x.size x.count) is ∙ ap (λ (G : stored.Form). records_from (lf_at F.k s) (lfs_at G) lf_size G.leaves) w.is in
      let n : first ≡ F.n + 2 + F.inner = e ∙ ap (λ (G : stored.Form). G.n + 2 + G.inner + 0) w.is ∙ omega arith in
      j ∙ rw (same, n) refl

  -- 81 to 84
  pub fault_most : (Q : QSet) (t : TR) → tr_fault Q t ≤ 4
  unfolding tr_fault
  fault_most Q (rec s m p) = go (leb (level_of Q s) Q.n) (eqb (level_of Q p.0) (suc (level_of Q s))) (eqb (level_of Q p.1) (suc (level_of Q s))) (eqb m 0)
    where
      go : (a b c d : Bool) → cond a (cond b (cond c (cond d 4 0) 3) 2) 1 ≤ 4
      go false b c d = omega arith
      go true false c d = omega arith
      go true true false d = omega arith
      go true true true true = omega arith
      go true true true false = omega arith

  none_told : (k : ℕ) → None ≡ reason_of k → k ≤ 4 → eqb k 0 ≡ true
  none_told zero e h = refl
  none_told (suc zero) e h = let z : ◌≡◌ {A = ℕ} 0 1 = cc in absurd (omega arith)
  none_told (suc (suc zero)) e h = let z : ◌≡◌ {A = ℕ} 0 1 = cc in absurd (omega arith)
  none_told (suc (suc (suc zero))) e h = let z : ◌≡◌ {A = ℕ} 0 1 = cc in absurd (omega arith)
  none_told (suc (suc (suc (suc zero)))) e h = let z : ◌≡◌ {A = ℕ} 0 1 = cc in absurd (omega arith)
  none_told (suc (suc (suc (suc (suc k))))) e h = absurd (omega arith)

  some_told : (k : ℕ) (x : Reason) → Some x ≡ reason_of k → k ≤ 4 → (eqb k 0 ≡ false) × (number_of x ≡ 80 + k)
  some_told zero x e h = let z : ◌≡◌ {A = ℕ} 0 1 = cc in absurd (omega arith)
  some_told (suc zero) x e h = let same : x ≡ why.State = cc in (refl, ap number_of same)
  some_told (suc (suc zero)) x e h = let same : x ≡ why.LeftChild = cc in (refl, ap number_of same)
  some_told (suc (suc (suc zero))) x e h = let same : x ≡ why.RightChild = cc in (refl, ap number_of same)
  some_told (suc (suc (suc (suc zero)))) x e h = let same : x ≡ why.EmptyMask = cc in (refl, ap number_of same)
  some_told (suc (suc (suc (suc (suc k))))) x e h = absurd (omega arith)

  -- the set's records are those that stand there
  inner_is : records_from (tr_at s) (trs_at (form_of s)) tr_size (form_of s).inner ≡ (set_of s).inner
  unfolding set_of
  inner_is = refl

  leaves_is : records_from (lf_at (form_of s).k s) (lfs_at (form_of s)) lf_size (form_of s).leaves ≡ (set_of s).leaves
  unfolding set_of
  leaves_is = refl

  abbrev right : TR → Bool
  right t = eqb (tr_fault (set_of s) t) 0

  pub inner_are : (says : ℕ → Option Reason → Type 0) → ((i : ℕ) (r : Option Reason) → says i r → r ≡ reason_of (tr_fault (set_of s) (tr_at s i)))
      → (r : Records) → r ≡ record { at = trs_at (form_in f); size = tr_size; count = f.inner } → (first : ℕ) → first ≡ record_no (form_in f) of_tr 0
      → (o : Option (ℕ × Reason)) → FirstBad says r o → judged_at source (fault_from first o) ≡ inner_judged source s
  unfolding inner_judged trs_ok tr_number tr_place
  inner_are says looks r is first e o h = go o h
    where
      kept : (i : ℕ) → says i None → right (tr_at s i) ≡ true
      kept i l = none_told (tr_fault (set_of s) (tr_at s i)) (looks i None l) (fault_most (set_of s) (tr_at s i))

      broken : (i : ℕ) (x : Reason) → says i (Some x) → (right (tr_at s i) ≡ false) × (number_of x ≡ 80 + tr_fault (set_of s) (tr_at s i))
      broken i x l = some_told (tr_fault (set_of s) (tr_at s i)) x (looks i (Some x) l) (fault_most (set_of s) (tr_at s i))

      same : records_from (tr_at s) r.at r.size r.count ≡ (set_of s).inner
      same = ap (λ (x : Records). records_from (tr_at s) x.at x.size x.count) is ∙ ap (λ (G : stored.Form). records_from (tr_at s) (trs_at G) tr_size G.inner) w.is ∙ inner_is

      n : first ≡ (form_of s).n + 2
      n = e ∙ ap (λ (G : stored.Form). G.n + 2 + 0) w.is ∙ omega arith

      go : (o : Option (ℕ × Reason)) → FirstBad says r o → judged_at source (fault_from first o) ≡ inner_judged source s
      go None h =
          let all : passes right (set_of s).inner ≡ true = ap (passes right) (sym same) ∙ none_passes right (tr_at s) r says kept h in
          rw all refl
      go (Some x) h =
          let b = broken (r.at + x.0 * r.size) x.1 h.here in
          let at_i = first_is right (tr_at s) r says kept h (λ i l. (broken i x.1 l).0) in
          let l = h.within in
          let place : first_bad right (set_of s).inner ≡ x.0 = ap (first_bad right) (sym same) ∙ at_i in
          let some : passes right (set_of s).inner ≡ false = ap (passes right) (sym same) ∙ first_fails right (tr_at s) r says kept h (λ i l. (broken i x.1 l).0) in
          let told : first_fault (tr_fault (set_of s)) (set_of s).inner ≡ tr_fault (set_of s) (tr_at s (r.at + x.0 * r.size))
          = ap (first_fault (tr_fault (set_of s))) (sym same) ∙ first_told (tr_fault (set_of s)) (tr_at s) r.size r.at r.count x.0 (omega arith) at_i in
          rw (some, told, place, n, b.1) refl

  -- 6
  lv_same : (r : Records) → r ≡ record { at = hd_size; size = lv_size; count = f.n + 1 } → records_from (mark_at 76 86 s) r.at r.size r.count ≡ lv_marks s (form_of s)
  lv_same r is = ap (λ (x : Records). records_from (mark_at 76 86 s) x.at x.size x.count) is ∙ ap (λ (G : stored.Form). lv_marks s G) w.is

  tr_same : (r : Records) → r ≡ record { at = trs_at (form_in f); size = tr_size; count = f.inner } → records_from (mark_at 84 82 s) r.at r.size r.count ≡ tr_marks s (form_of s)
  tr_same r is = ap (λ (x : Records). records_from (mark_at 84 82 s) x.at x.size x.count) is ∙ ap (λ (G : stored.Form). tr_marks s G) w.is

  lf_same : (r : Records) → r ≡ record { at = lfs_at (form_in f); size = lf_size; count = f.leaves } → records_from (mark_at 76 70 s) r.at r.size r.count ≡ lf_marks s (form_of s)
  lf_same r is = ap (λ (x : Records). records_from (mark_at 76 70 s) x.at x.size x.count) is ∙ ap (λ (G : stored.Form). lf_marks s G) w.is

  tr_first : (first : ℕ) → first ≡ record_no (form_in f) of_tr 0 → first ≡ (form_of s).n + 2
  tr_first first e = e ∙ ap (λ (G : stored.Form). G.n + 2 + 0) w.is ∙ omega arith

  lf_first : (first : ℕ) → first ≡ record_no (form_in f) of_lf 0 → first ≡ (form_of s).n + 2 + (form_of s).inner
  lf_first first e = e ∙ ap (λ (G : stored.Form). G.n + 2 + G.inner + 0) w.is ∙ omega arith

  -- the marks of one kind, and all of them in the file's order
  abbrev pub marks_part : List Bool → ℕ → Judged (Unit {0})
  marks_part xs first = need (passes (λ ok. ok) xs) (refusal 6 source (first + first_bad (λ ok. ok) xs)) (good tt)

  marks_of : (a b : ℕ) (says : ℕ → Option Reason → Type 0) → ((i : ℕ) (r : Option Reason) → says i r → r ≡ cond (mark_at a b s i) None (Some why.Mark))
      → (r : Records) (xs : List Bool) → records_from (mark_at a b s) r.at r.size r.count ≡ xs → (first place : ℕ) → first ≡ place → (o : Option (ℕ × Reason)) → FirstBad says r o
      → (x : Result (Unit {0}) Fault) → x ≡ fault_from first o → judged_at source x ≡ need (passes (λ ok. ok) xs) (refusal 6 source (place + first_bad (λ ok. ok) xs)) (good tt)
  marks_of a b says looks r xs same first place e o h x is =
      ap (judged_at source) is ∙ rule_judged (λ ok. ok) (mark_at a b s) why.Mark says looks first source r o h ∙ ap₂ marks_part same e

  module _ (says : ℕ → Option Reason → Type 0) where
    pub lv_marked : ((i : ℕ) (r : Option Reason) → says i r → r ≡ cond (mark_at 76 86 s i) None (Some why.Mark))
        → (r : Records) → r ≡ record { at = hd_size; size = lv_size; count = f.n + 1 } → (o : Option (ℕ × Reason)) → FirstBad says r o
        → (x : Result (Unit {0}) Fault) → x ≡ fault_from 1 o → judged_at source x ≡ marks_part (lv_marks s (form_of s)) 1
    lv_marked looks r is o h = marks_of 76 86 says looks r (lv_marks s (form_of s)) (lv_same r is) 1 1 refl o h

    pub tr_marked : ((i : ℕ) (r : Option Reason) → says i r → r ≡ cond (mark_at 84 82 s i) None (Some why.Mark))
        → (r : Records) → r ≡ record { at = trs_at (form_in f); size = tr_size; count = f.inner } → (first : ℕ) → first ≡ record_no (form_in f) of_tr 0
        → (o : Option (ℕ × Reason)) → FirstBad says r o → (x : Result (Unit {0}) Fault) → x ≡ fault_from first o
        → judged_at source x ≡ marks_part (tr_marks s (form_of s)) ((form_of s).n + 2)
    tr_marked looks r is first e o h = marks_of 84 82 says looks r (tr_marks s (form_of s)) (tr_same r is) first _ (tr_first first e) o h

    pub lf_marked : ((i : ℕ) (r : Option Reason) → says i r → r ≡ cond (mark_at 76 70 s i) None (Some why.Mark))
        → (r : Records) → r ≡ record { at = lfs_at (form_in f); size = lf_size; count = f.leaves } → (first : ℕ) → first ≡ record_no (form_in f) of_lf 0
        → (o : Option (ℕ × Reason)) → FirstBad says r o → (x : Result (Unit {0}) Fault) → x ≡ fault_from first o
        → judged_at source x ≡ marks_part (lf_marks s (form_of s)) ((form_of s).n + 2 + (form_of s).inner)
    lf_marked looks r is first e o h = marks_of 76 70 says looks r (lf_marks s (form_of s)) (lf_same r is) first _ (lf_first first e) o h

  pub marks_are : on_good (marks_part (lv_marks s (form_of s)) 1) (λ u. on_good (marks_part (tr_marks s (form_of s)) ((form_of s).n + 2)) (λ v.
      marks_part (lf_marks s (form_of s)) ((form_of s).n + 2 + (form_of s).inner))) ≡ marks_judged source s
  unfolding marks_judged marks_ok mark_place later_marks
  marks_are =
      let F = form_of s in
      let tl : length (tr_marks s F) ≡ F.inner = records-count (mark_at 84 82 s) (trs_at F) tr_size F.inner in
      let ll : length (lv_marks s F) ≡ F.n + 1 = records-count (mark_at 76 86 s) hd_size lv_size (F.n + 1) in
      ap (λ (j : Judged (Unit {0})). on_good (marks_part (lv_marks s F) 1) (λ u. j))
      (ap (λ (k : ℕ). on_good (marks_part (tr_marks s F) (F.n + 2)) (λ v. marks_part (lf_marks s F) (F.n + 2 + k))) (sym tl)
      ∙ run_on (λ ok. ok) 6 source (F.n + 2) (tr_marks s F) (lf_marks s F))
      ∙ ap (λ (k : ℕ). on_good (marks_part (lv_marks s F) 1) (λ u. marks_part (tr_marks s F ++ lf_marks s F) k)) (omega arith)
      ∙ run_on (λ ok. ok) 6 source 1 (lv_marks s F) (tr_marks s F ++ lf_marks s F)

  -- 10
  order_part : {X : Type 0} (ts : List (Rec X)) (count first : ℕ) → length ts ≡ count
      → judged_at source (fault_from first (clash_from count (first_clash [] ts))) ≡ need (ordered ts) (refusal 10 source (first + first_clash [] ts)) (good tt)
  unfolding ordered
  order_part ts count first e = rw e (go (eqb (first_clash [] ts) count))
    where
      go : (b : Bool) → judged_at source (fault_from first (cond b None (Some (first_clash [] ts, why.Order)))) ≡ need b (refusal 10 source (first + first_clash [] ts)) (good tt)
      go true = refl
      go false = refl

  -- the records of one kind, by their states and masks
  bares : Records → List (Rec (Unit {0}))
  bares r = records_from (λ (i : ℕ). bare (key_read s i)) r.at r.size r.count

  part : (r : Records) (first place : ℕ) → first ≡ place → {Y : Type 0} (ts : List (Rec Y)) → length ts ≡ r.count → first_clash [] (bares r) ≡ first_clash [] ts
      → judged_at source (fault_from first (clash_from r.count (first_clash [] (records_from (λ (i : ℕ). bare (key_read s i)) r.at r.size r.count))))
      ≡ need (ordered ts) (refusal 10 source (place + first_clash [] ts)) (good tt)
  unfolding bares
  part r first place e ts long same =
      ap₂ (λ (k p : ℕ). judged_at source (fault_from p (clash_from r.count k))) same e ∙ order_part ts r.count place long

  pub inner_order : (r : Records) → r ≡ record { at = trs_at (form_in f); size = tr_size; count = f.inner } → (first : ℕ) → first ≡ record_no (form_in f) of_tr 0
      → judged_at source (fault_from first (clash_from r.count (first_clash [] (records_from (λ (i : ℕ). bare (key_read s i)) r.at r.size r.count))))
      ≡ need (ordered (set_of s).inner) (refusal 10 source ((form_of s).n + 2 + first_clash [] (set_of s).inner)) (good tt)
  unfolding bares tr_at key_read
  inner_order r is first e =
      part r first _ (tr_first first e) (set_of s).inner
      (ap length (sym inner_is) ∙ records-count (tr_at s) (trs_at (form_of s)) tr_size (form_of s).inner ∙ ap (λ (G : stored.Form). G.inner) (sym w.is) ∙ ap (λ (x : Records). x.count) (sym is))
      (ap (λ (x : Records). first_clash [] (records_from (λ (i : ℕ). bare (key_read s i)) x.at x.size x.count)) is
      ∙ ap (λ (G : stored.Form). first_clash [] (records_from (λ (i : ℕ). bare (key_read s i)) (trs_at G) tr_size G.inner)) w.is
      ∙ clash_is s (tr_at s) (λ i. refl) (trs_at (form_of s)) tr_size (form_of s).inner ∙ ap (first_clash []) inner_is)

  pub leaves_order : (r : Records) → r ≡ record { at = lfs_at (form_in f); size = lf_size; count = f.leaves } → (first : ℕ) → first ≡ record_no (form_in f) of_lf 0
      → judged_at source (fault_from first (clash_from r.count (first_clash [] (records_from (λ (i : ℕ). bare (key_read s i)) r.at r.size r.count))))
      ≡ need (ordered (set_of s).leaves) (refusal 10 source ((form_of s).n + 2 + (form_of s).inner + first_clash [] (set_of s).leaves)) (good tt)
  unfolding bares lf_at key_read
  leaves_order r is first e =
      part r first _ (lf_first first e) (set_of s).leaves
      (ap length (sym leaves_is) ∙ records-count (lf_at (form_of s).k s) (lfs_at (form_of s)) lf_size (form_of s).leaves ∙ ap (λ (G : stored.Form). G.leaves) (sym w.is) ∙ ap (λ (x : Records). x.count) (sym is))
      (ap (λ (x : Records). first_clash [] (records_from (λ (i : ℕ). bare (key_read s i)) x.at x.size x.count)) is
      ∙ ap (λ (G : stored.Form). first_clash [] (records_from (λ (i : ℕ). bare (key_read s i)) (lfs_at G) lf_size G.leaves)) w.is
      ∙ clash_is s (lf_at (form_of s).k s) (λ i. refl) (lfs_at (form_of s)) lf_size (form_of s).leaves ∙ ap (first_clash []) leaves_is)

  pub orders_are : on_good (need (ordered (set_of s).inner) (refusal 10 source ((form_of s).n + 2 + first_clash [] (set_of s).inner)) (good (tt {0})))
      (λ u. need (ordered (set_of s).leaves) (refusal 10 source ((form_of s).n + 2 + (form_of s).inner + first_clash [] (set_of s).leaves)) (good (tt {0}))) ≡ order_judged source s
  unfolding order_judged order_ok clash_place
  orders_are = go (ordered (set_of s).inner) (ordered (set_of s).leaves)
    where
      go : (a b : Bool) → on_good (need a (refusal 10 source ((form_of s).n + 2 + first_clash [] (set_of s).inner)) (good (tt {0})))
          (λ u. need b (refusal 10 source ((form_of s).n + 2 + (form_of s).inner + first_clash [] (set_of s).leaves)) (good (tt {0})))
          ≡ need (a && b) (refusal 10 source (cond a ((form_of s).n + 2 + (form_of s).inner + first_clash [] (set_of s).leaves) ((form_of s).n + 2 + first_clash [] (set_of s).inner))) (good tt)
      go true true = refl
      go true false = refl
      go false b = refl
