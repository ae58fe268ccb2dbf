-- A well-formed set: what rules 3, 4 and 7 to 10 ask of it, that its masks have 32 bits, and that its leaves have its k. Assumes nothing.
use mathlib.Core.Path.{◌≡◌, refl}
use mathlib.Core.Bool.{Bool, true, false, cond, not}
use Prim.Native.Nat.{ℕ, suc, ◌+◌, ◌^◌, ◌<◌, ◌≤◌}
use native.Mathlib.Omega.{arith}
use lib.ListN.{length}
use lib.Dec.{eqb, leb}
use lib.IntN.{ℤ, nat_abs}
use borrow.Author.Tests.{eqb-true, eqb-false, eq-eqb, ne_eqb, leb-true, le-leb, not-true}
use Rattle.amplitude.specs.Amp.{amp, most, in_range, in_range_a}
use Rattle.amplitude.specs.Leaf.{Leaf, k_most, k_of, in_range_l}
use Rattle.amplitude.proofs.Equal.{both}
use Rattle.automata.specs.Sets.{Rec, rec, TR, LF, QSet, sum, roots}
use Rattle.automata.proofs.Lists.{Each, each_map}
use Rattle.stored.specs.Rules.{Bounds, n_most, level_of, tr_fault, trs_ok, lf_ok, lfs_ok, order_ok}
use Rattle.stored.proofs.ScanLaws.{passes-each}
use Rattle.stored.proofs.Levels.{level-below}

-- bounds whose counts fit two bytes
pub record Narrow (b : Bounds) : Type 0 where
  pub states : b.states < 65536
  pub inner : b.inner < 65536
  pub leaves : b.leaves < 65536

abbrev pub mask_in : {X : Type 0} → Rec X → ℕ
mask_in (rec s m x) = m

abbrev pub k_in : LF → ℕ
k_in (rec s m x) = k_of x

pub record WellFormed (b : Bounds) (Q : QSet) : Type 0 where
  pub n_some : 1 ≤ Q.n
  pub n_few : Q.n ≤ n_most
  pub k_few : Q.k ≤ k_most
  pub counted : length Q.counts ≡ Q.n + 1
  pub rooted : 0 < roots Q
  pub states : sum Q.counts ≤ b.states
  pub inner : length Q.inner ≤ b.inner
  pub leaves : length Q.leaves ≤ b.leaves
  pub trs : trs_ok Q ≡ true
  pub lfs : lfs_ok Q ≡ true
  pub order : order_ok Q ≡ true
  pub tr_masks : Each (λ (t : TR). mask_in t < 2 ^ 32) Q.inner
  pub lf_masks : Each (λ (l : LF). mask_in l < 2 ^ 32) Q.leaves
  pub one_k : Each (λ (l : LF). k_in l ≡ Q.k) Q.leaves

-- ---- rule 8 of one record
pub record TrFine (Q : QSet) (s m l r : ℕ) : Type 0 where
  pub state : level_of Q s ≤ Q.n
  pub left : level_of Q l ≡ suc (level_of Q s)
  pub right : level_of Q r ≡ suc (level_of Q s)
  pub mask : 0 < m

pub tr_fine : (Q : QSet) (s m : ℕ) (p : ℕ × ℕ) → tr_fault Q (rec s m p) ≡ 0 → TrFine Q s m p.0 p.1
unfolding tr_fault
tr_fine Q s m p e = go (leb (level_of Q s) Q.n) refl (eqb (level_of Q p.0) (suc (level_of Q s))) refl (eqb (level_of Q p.1) (suc (level_of Q s))) refl (eqb m 0) refl e
  where
    go : (a : Bool) → leb (level_of Q s) Q.n ≡ a → (b : Bool) → eqb (level_of Q p.0) (suc (level_of Q s)) ≡ b → (c : Bool) → eqb (level_of Q p.1) (suc (level_of Q s)) ≡ c
        → (d : Bool) → eqb m 0 ≡ d → ◌≡◌ {A = ℕ} (cond a (cond b (cond c (cond d 4 0) 3) 2) 1) 0 → TrFine Q s m p.0 p.1
    go false h b i c j d k z = absurd (omega arith)
    go true h false i c j d k z = absurd (omega arith)
    go true h true i false j d k z = absurd (omega arith)
    go true h true i true j true k z = absurd (omega arith)
    go true h true i true j false k z =
        record { state = leb-true _ _ h; left = eqb-true _ _ i; right = eqb-true _ _ j; mask = omega (arith, eqb-false m 0 k) }

pub fine_tr_lem : (Q : QSet) (s m : ℕ) (p : ℕ × ℕ) → TrFine Q s m p.0 p.1 → eqb (tr_fault Q (rec s m p)) 0 ≡ true
unfolding tr_fault
fine_tr_lem Q s m p h = rw (le-leb (level_of Q s) Q.n h.state, eq-eqb _ _ h.left, eq-eqb _ _ h.right, ne_eqb m 0 (λ z. omega (arith, h.mask)))

-- ---- rule 9 of one record
pub record LfFine (Q : QSet) (s m : ℕ) (x : Leaf) : Type 0 where
  pub state : level_of Q s ≡ suc Q.n
  pub mask : 0 < m
  pub range : in_range_l x ≡ true

pub lf_fine : (Q : QSet) (s m : ℕ) (x : Leaf) → lf_ok Q (rec s m x) ≡ true → LfFine Q s m x
unfolding lf_ok
lf_fine Q s m x e =
    let p = both (eqb (level_of Q s) (suc Q.n)) _ e in
    let q = both (not (eqb m 0)) _ p.1 in
    record { state = eqb-true _ _ p.0; mask = omega (arith, eqb-false m 0 (not-true (eqb m 0) q.0)); range = q.1 }

pub fine_lf_lem : (Q : QSet) (s m : ℕ) (x : Leaf) → LfFine Q s m x → lf_ok Q (rec s m x) ≡ true
unfolding lf_ok
fine_lf_lem Q s m x h = rw (eq-eqb _ _ h.state, ne_eqb m 0 (λ z. omega (arith, h.mask))) h.range

pub in_range_lem : (a b c d : ℤ) → in_range_a (amp a b c d) ≡ true → (nat_abs a ≤ most) × (nat_abs b ≤ most) × (nat_abs c ≤ most) × (nat_abs d ≤ most)
in_range_lem a b c d e =
    let p = both (in_range a) _ e in
    let q = both (in_range b) _ p.1 in
    let r = both (in_range c) _ q.1 in
    (leb-true _ _ p.0, leb-true _ _ q.0, leb-true _ _ r.0, leb-true _ _ r.1)

-- ---- of a well-formed set
abbrev pub FineTR : QSet → TR → Type 0
FineTR Q (rec s m p) = TrFine Q s m p.0 p.1

abbrev pub FineLF : QSet → LF → Type 0
FineLF Q (rec s m x) = LfFine Q s m x

fine_tr : (Q : QSet) (t : TR) → eqb (tr_fault Q t) 0 ≡ true → FineTR Q t
fine_tr Q (rec s m p) e = tr_fine Q s m p (eqb-true _ 0 e)

fine_lf : (Q : QSet) (l : LF) → lf_ok Q l ≡ true → FineLF Q l
fine_lf Q (rec s m x) e = lf_fine Q s m x e

module _ (b : Bounds) (Q : QSet) (w : WellFormed b Q) where
  pub trs_fine : Each (FineTR Q) Q.inner
  unfolding trs_ok
  trs_fine = each_map (λ t. eqb (tr_fault Q t) 0 ≡ true) (FineTR Q) (fine_tr Q) Q.inner (passes-each (λ t. eqb (tr_fault Q t) 0) Q.inner w.trs)

  pub lfs_fine : Each (FineLF Q) Q.leaves
  unfolding lfs_ok
  lfs_fine = each_map (λ l. lf_ok Q l ≡ true) (FineLF Q) (fine_lf Q) Q.leaves (passes-each (lf_ok Q) Q.leaves w.lfs)

  -- a state on a level is below the bound
  pub state_small : (s : ℕ) → level_of Q s ≤ suc Q.n → s < sum Q.counts
  state_small s h = level-below 1 Q.counts s (omega (arith, w.counted))
