-- A set file that no rule refuses holds a well-formed set, the one that its bytes say. Assumes nothing.
use mathlib.Core.Path.{◌≡◌, refl, ap, subst}
use mathlib.Core.Bool.{Bool, true, false, not}
use mathlib.Core.List.{List}
use Prim.Native.Nat.{ℕ, zero, suc, ◌+◌, ◌^◌, ◌<◌, ◌≤◌}
use native.Mathlib.Omega.{arith}
use lib.ListN.{length, get_or}
use lib.Dec.{eqb, leb}
use borrow.Author.Tests.{eqb-true, eqb-false, leb-true, not-true}
use Rattle.amplitude.specs.Leaf.{k_most}
use Rattle.amplitude.proofs.Equal.{both}
use Rattle.automata.specs.Sets.{QSet, sum, roots}
use Rattle.automata.proofs.Lists.{Each}
use Rattle.stored.specs.Refusal.{Refusal, Judged, good, need}
use Rattle.stored.specs.Fields.{u16_at, u32_at, records_from}
use Rattle.stored.specs.Form.{Form, form_of, hd_size, lv_size, tr_size, lf_size, levels, trs_at, lfs_at, count_at, tr_at, lf_at, set_of}
use Rattle.stored.specs.Rules.{Bounds, n_most, ranges_ok, counts_ok, levels_ok, trs_ok, lfs_ok, order_ok, head_ok, version_ok, length_ok, marks_ok}
use Rattle.stored.specs.Judge.{judge_set}
use Rattle.stored.proofs.WellFormed.{WellFormed, mask_in, k_in}

pub need-good : {X : Type 0} (t : Bool) (r : Refusal) (rest : Judged X) (x : X) → need t r rest ≡ good x → (t ≡ true) × (rest ≡ good x)
need-good true r rest x e = (refl, e)
need-good false r rest x e = let z : ◌≡◌ {A = ℕ} 0 1 = cc in absurd (omega arith)

pub good-same : {X : Type 0} (x y : X) → good x ≡ good y → x ≡ y
good-same x y e = cc

-- ---- records read: their number, and what holds of each
module _ {X : Type 0} (read : ℕ → X) where
  pub records-count : (at size count : ℕ) → length (records_from read at size count) ≡ count
  unfolding records_from
  records-count at size zero = refl
  records-count at size (suc count) = ap suc (records-count (at + size) size count)

  pub records-each : (P : X → Type 0) → ((at : ℕ) → P (read at)) → (at size count : ℕ) → Each P (records_from read at size count)
  unfolding records_from
  records-each P h at size zero = tt
  records-each P h at size (suc count) = (h at, records-each P h (at + size) size count)

-- a list of bytes
pub record Bytes (s : List ℕ) : Type 0 where
  pub byte : (i : ℕ) → get_or s i 0 < 256

pub u32_small : (s : List ℕ) → Bytes s → (at : ℕ) → u32_at s at < 2 ^ 32
unfolding u32_at u16_at
u32_small s h at = omega (arith, h.byte at, h.byte (at + 1), h.byte (at + 2), h.byte (at + 2 + 1))

-- what the ten rules say together
pub record Passed (b : Bounds) (s : List ℕ) (F : Form) (Q : QSet) : Type 0 where
  pub ranges : ranges_ok s F ≡ true
  pub counts : counts_ok b F ≡ true
  pub levels : levels_ok F.states Q ≡ true
  pub trs : trs_ok Q ≡ true
  pub lfs : lfs_ok Q ≡ true
  pub order : order_ok Q ≡ true

pub judged : (b : Bounds) (source : ℕ) (s : List ℕ) (Q : QSet) → judge_set b source s ≡ good Q → Passed b s (form_of s) (set_of s) × (set_of s ≡ Q)
unfolding judge_set
judged b source s Q e =
    let e₁ = (need-good (head_ok s) _ _ Q e).1 in
    let e₂ = (need-good (version_ok s) _ _ Q e₁).1 in
    let e₃ = need-good (ranges_ok s (form_of s)) _ _ Q e₂ in
    let e₄ = need-good (counts_ok b (form_of s)) _ _ Q e₃.1 in
    let e₅ = (need-good (length_ok s (form_of s)) _ _ Q e₄.1).1 in
    let e₆ = (need-good (marks_ok s (form_of s)) _ _ Q e₅).1 in
    let e₇ = need-good (levels_ok (form_of s).states (set_of s)) _ _ Q e₆ in
    let e₈ = need-good (trs_ok (set_of s)) _ _ Q e₇.1 in
    let e₉ = need-good (lfs_ok (set_of s)) _ _ Q e₈.1 in
    let e₁₀ = need-good (order_ok (set_of s)) _ _ Q e₉.1 in
    (record { ranges = e₃.0; counts = e₄.0; levels = e₇.0; trs = e₈.0; lfs = e₉.0; order = e₁₀.0 }, good-same (set_of s) Q e₁₀.1)

module _ (b : Bounds) (s : List ℕ) (bytes : Bytes s) (p : Passed b s (form_of s) (set_of s)) where
  ranges : (1 ≤ (form_of s).n) × ((form_of s).n ≤ n_most) × ((form_of s).k ≤ k_most)
  unfolding ranges_ok
  ranges =
      let x = both (leb 1 (form_of s).n) _ p.ranges in
      let y = both (leb (form_of s).n n_most) _ x.1 in
      let z = both (leb (form_of s).k k_most) _ y.1 in
      (leb-true _ _ x.0, leb-true _ _ y.0, leb-true _ _ z.0)

  bounded : ((form_of s).states ≤ b.states) × ((form_of s).inner ≤ b.inner) × ((form_of s).leaves ≤ b.leaves)
  unfolding counts_ok
  bounded =
      let x = both (leb (form_of s).states b.states) _ p.counts in
      let y = both (leb (form_of s).inner b.inner) _ x.1 in
      (leb-true _ _ x.0, leb-true _ _ y.0, leb-true _ _ y.1)

  levelled : (0 < roots (set_of s)) × (sum (set_of s).counts ≡ (form_of s).states)
  unfolding levels_ok
  levelled =
      let x = both (not (eqb (roots (set_of s)) 0)) _ p.levels in
      (omega (arith, eqb-false (roots (set_of s)) 0 (not-true _ x.0)), eqb-true _ _ x.1)

  pub passed-formed : WellFormed b (set_of s)
  unfolding set_of tr_at lf_at
  passed-formed =
      let F : Form = form_of s in
      record {
        n_some = ranges.0;
        n_few = ranges.1;
        k_few = ranges.2;
        counted = records-count (count_at s) hd_size lv_size (levels F);
        rooted = levelled.0;
        states = (let x = levelled.1 in let y = bounded.0 in omega arith);
        inner = (let x = records-count (tr_at s) (trs_at F) tr_size F.inner in let y = bounded.1 in omega arith);
        leaves = (let x = records-count (lf_at F.k s) (lfs_at F) lf_size F.leaves in let y = bounded.2 in omega arith);
        trs = p.trs;
        lfs = p.lfs;
        order = p.order;
        tr_masks = records-each (tr_at s) (λ t. mask_in t < 2 ^ 32) (λ at. u32_small s bytes (at + 4)) (trs_at F) tr_size F.inner;
        lf_masks = records-each (lf_at F.k s) (λ l. mask_in l < 2 ^ 32) (λ at. u32_small s bytes (at + 4)) (lfs_at F) lf_size F.leaves;
        one_k = records-each (lf_at F.k s) (λ l. k_in l ≡ F.k) (λ at. refl) (lfs_at F) lf_size F.leaves;
      }

-- "Bad input is refused": what is not refused is a well-formed set
pub well_formed : (b : Bounds) (source : ℕ) (s : List ℕ) (Q : QSet) → Bytes s → judge_set b source s ≡ good Q → WellFormed b Q
well_formed b source s Q bytes e = let j = judged b source s Q e in subst (WellFormed b) j.1 (passed-formed b s bytes j.0)
