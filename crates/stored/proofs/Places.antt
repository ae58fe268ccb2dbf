-- What the place of a refusal says: the record of that number breaks the rule, and no earlier one of the rule's records does. A search for the
-- first element that fails, after those before it, is told apart once; rules 6, 81 to 84, 9 and 10 are its uses. Assumes nothing.
use mathlib.Core.Path.{◌≡◌, refl, sym, ap, ◌∙◌}
use mathlib.Core.Bool.{Bool, true, false, cond, ◌&&◌, false≢true}
use mathlib.Core.Logic.{◌⊎◌, inl, inr}
use mathlib.Core.List.{List, [], ◌∷◌, ◌++◌}
use Prim.Native.Nat.{ℕ, suc, ◌+◌, ◌≤◌, ◌<◌}
use native.Mathlib.Omega.{arith}
use lib.ListN.{length}
use lib.Dec.{eqb, eqb-suc-suc}
use Rattle.automata.specs.Sets.{Rec, QSet}
use Rattle.stored.specs.Refusal.{Refusal, refusal, Judged, refused, good, need}
use Rattle.stored.specs.Form.{Form, form_of, levels, set_of}
use Rattle.stored.specs.Rules.{Bounds, first_bad, passes, first_fault, RecordKind, of_lv, of_tr, of_lf, record_no, head_ok, version_ok, ranges_ok, counts_ok, length_ok, later_marks, marks_ok, mark_place, levels_ok, tr_fault, trs_ok, tr_number, tr_place, lf_ok, lfs_ok, lf_place, fits_after, first_clash, ordered, order_ok, clash_place}
use Rattle.stored.specs.Judge.{judge_set}

-- ---- the first element that fails a test, which may look at the earlier elements, the latest of them first
module _ {X : Type 0} where
  -- the earlier ones after a further list has been passed
  abbrev pub onto : List X → List X → List X
  onto earlier [] = earlier
  onto earlier (x ∷ xs) = onto (x ∷ earlier) xs

  -- each element passes after those before it
  abbrev pub EachAfter : (List X → X → Bool) → List X → List X → Type 0
  EachAfter test earlier [] = Unit {0}
  EachAfter test earlier (x ∷ xs) = (test earlier x ≡ true) × EachAfter test (x ∷ earlier) xs

  -- element i of the list fails, and all before it pass
  pub record FirstAt (test : List X → X → Bool) (earlier xs : List X) (i : ℕ) : Type 0 where
    pub before : List X
    pub here : X
    pub after : List X
    pub is : xs ≡ before ++ (here ∷ after)
    pub number : length before ≡ i
    pub pass : EachAfter test earlier before
    pub fails : test (onto earlier before) here ≡ false

-- a search that stops at the first such element, and at their count where there is none
module _ {X : Type 0} (test : List X → X → Bool) (find : List X → List X → ℕ) (none : (e : List X) → find e [] ≡ 0)
    (turn : (e : List X) (x : X) (xs : List X) → find e (x ∷ xs) ≡ cond (test e x) (suc (find (x ∷ e) xs)) 0) where
  find_most : (e xs : List X) → find e xs ≤ length xs
  find_most e [] = omega (arith, none e)
  find_most e (x ∷ xs) = rw (turn e x xs) (go (test e x) (find_most (x ∷ e) xs))
    where
      go : (b : Bool) → find (x ∷ e) xs ≤ length xs → cond b (suc (find (x ∷ e) xs)) 0 ≤ suc (length xs)
      go true h = omega arith
      go false h = omega arith

  find_first : (e xs : List X) → eqb (find e xs) (length xs) ≡ false → FirstAt test e xs (find e xs)
  find_first e [] h = absurd (false≢true (sym h ∙ ap (λ (n : ℕ). eqb n 0) (none e)))
  find_first e (x ∷ xs) h = rw (turn e x xs) (go (test e x) refl (sym (ap (λ (n : ℕ). eqb n (suc (length xs))) (turn e x xs)) ∙ h) (find_first (x ∷ e) xs))
    where
      go : (b : Bool) → test e x ≡ b → eqb (cond b (suc (find (x ∷ e) xs)) 0) (suc (length xs)) ≡ false
          → (eqb (find (x ∷ e) xs) (length xs) ≡ false → FirstAt test (x ∷ e) xs (find (x ∷ e) xs))
          → FirstAt test e (x ∷ xs) (cond b (suc (find (x ∷ e) xs)) 0)
      go true t k ih =
          let r = ih (sym (eqb-suc-suc (find (x ∷ e) xs) (length xs)) ∙ k) in
          record {
            before = x ∷ r.before;
            here = r.here;
            after = r.after;
            is = ap (λ (ys : List X). x ∷ ys) r.is;
            number = ap suc r.number;
            pass = (t, r.pass);
            fails = r.fails;
          }
      go false t k ih = record { before = []; here = x; after = xs; is = refl; number = refl; pass = tt; fails = t }

-- ---- the two searches
pub bad-most : {X : Type 0} (test : X → Bool) (xs : List X) → first_bad test xs ≤ length xs
bad-most test xs = find_most (λ e. test) (λ e ys. first_bad test ys) (λ e. refl) (λ e y ys. refl) [] xs

pub clash_most : {X : Type 0} (ts : List (Rec X)) → first_clash [] ts ≤ length ts
clash_most ts = find_most fits_after first_clash (λ e. refl) (λ e t us. refl) [] ts

first-bad : {X : Type 0} (test : X → Bool) (xs : List X) → passes test xs ≡ false → FirstAt (λ earlier. test) [] xs (first_bad test xs)
first-bad test xs h = find_first (λ e. test) (λ e ys. first_bad test ys) (λ e. refl) (λ e y ys. refl) [] xs h

first_clash_lem : {X : Type 0} (ts : List (Rec X)) → ordered ts ≡ false → FirstAt fits_after [] ts (first_clash [] ts)
unfolding ordered
first_clash_lem ts h = find_first fits_after first_clash (λ e. refl) (λ e t us. refl) [] ts h

-- the first fault is that of the first element with a fault
module _ {X : Type 0} (fault : X → ℕ) where
  pub fault_of_first : (e before after : List X) (here : X) → EachAfter (λ earlier x. eqb (fault x) 0) e before → eqb (fault here) 0 ≡ false
      → first_fault fault (before ++ (here ∷ after)) ≡ fault here
  fault_of_first e [] after here h k = rw k
  fault_of_first e (x ∷ xs) after here h k = rw h.0 (fault_of_first (x ∷ e) xs after here h.1 k)

  first_fault_lem : (xs : List X) (i : ℕ) (w : FirstAt (λ earlier x. eqb (fault x) 0) [] xs i) → first_fault fault xs ≡ fault w.here
  first_fault_lem xs i w = ap (first_fault fault) w.is ∙ fault_of_first [] w.before w.after w.here w.pass w.fails

-- ---- the numbers of records run on from kind to kind, as the records stand in the file
pub trs_after_lvs : (F : Form) (i : ℕ) → record_no F of_tr i ≡ record_no F of_lv (levels F + i)
trs_after_lvs F i = omega arith

pub lfs_after_trs : (F : Form) (i : ℕ) → record_no F of_lf i ≡ record_no F of_tr (F.inner + i)
lfs_after_trs F i = omega arith

-- ---- what a refusal's place says
-- the place is the number of a kind's record that fails, and all records of the list before it pass
abbrev pub Names : {X : Type 0} → Form → RecordKind → (List X → X → Bool) → List X → ℕ → Type 0
Names F kind test xs place = (i : ℕ) × (place ≡ record_no F kind i) × FirstAt test [] xs i

-- a test that is passed, since the refusal has another number; and the test that gave it
module _ {X : Type 0} (t : Bool) (q : Refusal) (rest : Judged X) (r : Refusal) where
  past : need t q rest ≡ refused r → (q.number ≡ r.number → ⊥) → rest ≡ refused r
  past e h = go t e
    where
      go : (b : Bool) → need b q rest ≡ refused r → rest ≡ refused r
      go true k = k
      go false k = let same : q ≡ r = cc in absurd (h (ap (λ (z : Refusal). z.number) same))

  given : need t q rest ≡ refused r → (rest ≡ refused r → ⊥) → (t ≡ false) × (q ≡ r)
  given e h = go t refl e
    where
      go : (b : Bool) → t ≡ b → need b q rest ≡ refused r → (t ≡ false) × (q ≡ r)
      go true i k = absurd (h k)
      go false i k = let same : q ≡ r = cc in (i, same)

module _ (b : Bounds) (source : ℕ) (s : List ℕ) (r : Refusal) where
  abbrev F : Form
  F = form_of s

  abbrev Q : QSet
  Q = set_of s

  -- the judgement from each rule on
  abbrev from_order : Judged QSet
  from_order = need (order_ok Q) (refusal 10 source (clash_place F Q)) (good Q)

  abbrev from_leaves : Judged QSet
  from_leaves = need (lfs_ok Q) (refusal 9 source (lf_place F Q)) from_order

  abbrev from_inner : Judged QSet
  from_inner = need (trs_ok Q) (refusal (tr_number Q) source (tr_place F Q)) from_leaves

  abbrev from_levels : Judged QSet
  from_levels = need (levels_ok F.states Q) (refusal 7 source 0) from_inner

  never : good Q ≡ refused r → ⊥
  never e = let z : ◌≡◌ {A = ℕ} 0 1 = cc in omega arith

  over_order : (10 ≡ r.number → ⊥) → from_order ≡ refused r → ⊥
  over_order h e = never (past (order_ok Q) _ (good Q) r e h)

  over-leaves : (9 ≡ r.number → ⊥) → (10 ≡ r.number → ⊥) → from_leaves ≡ refused r → ⊥
  over-leaves h k e = over_order k (past (lfs_ok Q) _ from_order r e h)

  module _ (e : judge_set b source s ≡ refused r) where
    from-marks : 5 < r.number → need (marks_ok s F) (refusal 6 source (mark_place s F)) from_levels ≡ refused r
    unfolding judge_set
    from-marks h =
        let e₁ = past (head_ok s) _ _ r e (λ z. omega arith) in
        let e₂ = past (version_ok s) _ _ r e₁ (λ z. omega arith) in
        let e₃ = past (ranges_ok s F) _ _ r e₂ (λ z. omega arith) in
        let e₄ = past (counts_ok b F) _ _ r e₃ (λ z. omega arith) in
        past (length_ok s F) _ _ r e₄ (λ z. omega arith)

    from_inner_lem : 7 < r.number → from_inner ≡ refused r
    from_inner_lem h = past (levels_ok F.states Q) _ from_inner r (past (marks_ok s F) _ from_levels r (from-marks (omega arith)) (λ z. omega arith)) (λ z. omega arith)

    from-leaves : 7 < r.number → r.number < 80 → from_leaves ≡ refused r
    unfolding tr_number
    from-leaves h k = past (trs_ok Q) _ from_leaves r (from_inner_lem h) (λ z. omega arith)

    -- 6: the mark of that record is wrong; the list begins with LV 0, and the numbers run on
    pub mark-place : r.number ≡ 6 → Names F of_lv (λ earlier ok. ok) (later_marks s F) r.place
    unfolding marks_ok mark_place tr_number
    mark-place h =
        let w = given (marks_ok s F) _ from_levels r (from-marks (omega arith))
        (λ k. over-leaves (λ z. omega arith) (λ z. omega arith) (past (trs_ok Q) _ from_leaves r (past (levels_ok F.states Q) _ from_inner r k (λ z. omega arith)) (λ z. omega arith))) in
        (first_bad (λ ok. ok) (later_marks s F), sym (ap (λ (q : Refusal). q.place) w.1), first-bad (λ ok. ok) (later_marks s F) w.0)

    -- 80 + f: that TR record has the fault f, and no earlier one has any
    pub tr-place : (f : ℕ) → r.number ≡ 80 + f
        → (n : Names F of_tr (λ earlier t. eqb (tr_fault Q t) 0) Q.inner r.place) × (tr_fault Q n.2.here ≡ f)
    unfolding trs_ok tr_number tr_place
    tr-place f h =
        let w = given (trs_ok Q) _ from_leaves r (from_inner_lem (omega arith)) (over-leaves (λ z. omega arith) (λ z. omega arith)) in
        let at = first-bad (λ t. eqb (tr_fault Q t) 0) Q.inner w.0 in
        let number = ap (λ (q : Refusal). q.number) w.1 in
        ((first_bad (λ t. eqb (tr_fault Q t) 0) Q.inner, sym (ap (λ (q : Refusal). q.place) w.1), at), omega (arith, first_fault_lem (tr_fault Q) Q.inner _ at))

    -- 9: that LF record breaks its rule, and no earlier one does
    pub lf_place_lem : r.number ≡ 9 → Names F of_lf (λ earlier. lf_ok Q) Q.leaves r.place
    unfolding lfs_ok lf_place
    lf_place_lem h =
        let w = given (lfs_ok Q) _ from_order r (from-leaves (omega arith) (omega arith)) (over_order (λ z. omega arith)) in
        (first_bad (lf_ok Q) Q.leaves, sym (ap (λ (q : Refusal). q.place) w.1), first-bad (lf_ok Q) Q.leaves w.0)

    -- 10: that record does not fit after the earlier ones of its kind, and each earlier one does; an LF record only where all TR records do
    pub clash_place_lem : r.number ≡ 10 → Names F of_tr fits_after Q.inner r.place ⊎ ((ordered Q.inner ≡ true) × Names F of_lf fits_after Q.leaves r.place)
    unfolding order_ok clash_place
    clash_place_lem h =
        let w = given (order_ok Q) _ (good Q) r (past (lfs_ok Q) _ from_order r (from-leaves (omega arith) (omega arith)) (λ z. omega arith)) never in
        go (ordered Q.inner) refl w.0 (sym (ap (λ (q : Refusal). q.place) w.1))
      where
        go : (c : Bool) → ordered Q.inner ≡ c → c && ordered Q.leaves ≡ false
            → r.place ≡ cond c (record_no F of_lf (first_clash [] Q.leaves)) (record_no F of_tr (first_clash [] Q.inner))
            → Names F of_tr fits_after Q.inner r.place ⊎ ((ordered Q.inner ≡ true) × Names F of_lf fits_after Q.leaves r.place)
        go true i k p = inr (i, (first_clash [] Q.leaves, p, first_clash_lem Q.leaves k))
        go false i k p = inl (first_clash [] Q.inner, p, first_clash_lem Q.inner i)
