-- One LV record decides a state's level or passes it on, and adds its count to the sum. Assumes nothing.
use mathlib.Core.Path.{◌≡◌, sym, ap, ap₂, ◌∙◌}
use mathlib.Core.List.{List, [], ◌∷◌}
use Prim.Native.Nat.{ℕ, ◌+◌, ◌-◌, ◌*◌, ◌<◌, ◌≤◌}
use native.Mathlib.Numerals.{add-one}
use native.Mathlib.Omega.{arith}
use Rattle.automata.specs.Sets.{sum, roots_in, level_in}
use Rattle.stored.specs.Fields.{records_from}
use Rattle.stored.specs.Form.{set_of, hd_size, lv_size, count_at}
use Rattle.stored.proofs.Levels.{level-first, level-later}
use Rattle.records.proofs.Step.{records-step, records-end}
use Rattle.levels.specs.Levelled.{Levelled}

-- the counts of `left` LV records from a place on
abbrev pub counts_from : List ℕ → ℕ → ℕ → List ℕ
counts_from s at left = records_from (count_at s) at lv_size left

-- a set's counts are those of its n+1 LV records
pub counts-are : (s : List ℕ) (n : ℕ) → Levelled s n → counts_from s hd_size (n + 1) ≡ (set_of s).counts
unfolding set_of
counts-are s n h = ap (λ (m : ℕ). counts_from s hd_size (m + 1)) h.is

-- ---- from the level that so many stand above
module _ (s : List ℕ) (n : ℕ) where
  abbrev pub counts_below : ℕ → List ℕ
  counts_below above = records_from (count_at s) (hd_size + lv_size * above) lv_size (n + 1 - above)

  step : (above here : ℕ) → above < n + 1 → here ≡ count_at s (hd_size + lv_size * above) → counts_below above ≡ here ∷ counts_below (above + 1)
  step above here l is =
      records-step (count_at s) (hd_size + lv_size * above) lv_size (n + 1 - above) (λ z. omega arith)
      ∙ ap₂ (λ (c : ℕ) (cs : List ℕ). c ∷ cs) (sym is) (ap₂ (λ (p k : ℕ). records_from (count_at s) p lv_size k) (omega arith) (omega arith))

  end : (above : ℕ) → n + 1 ≤ above → counts_below above ≡ []
  end above l = records-end (count_at s) (hd_size + lv_size * above) lv_size (n + 1 - above) (omega arith)

  pub whole : Levelled s n → counts_below 0 ≡ (set_of s).counts
  whole h = ap₂ (λ (p k : ℕ). records_from (count_at s) p lv_size k) (omega arith) (omega arith) ∙ counts-are s n h

  pub level-here : (above here state : ℕ) → above < n + 1 → here ≡ count_at s (hd_size + lv_size * above) → state < here → above + 1 ≡ level_in (above + 1) (counts_below above) state
  level-here above here state l is h = sym (ap (λ (cs : List ℕ). level_in (above + 1) cs state) (step above here l is) ∙ level-first (above + 1) here (counts_below (above + 1)) state h)

  pub level_on : (above here state : ℕ) → above < n + 1 → here ≡ count_at s (hd_size + lv_size * above) → here ≤ state
      → level_in (above + 1 + 1) (counts_below (above + 1)) (state - here) ≡ level_in (above + 1) (counts_below above) state
  level_on above here state l is h =
      ap (λ (i : ℕ). level_in i (counts_below (above + 1)) (state - here)) (add-one (above + 1))
      ∙ sym (ap (λ (cs : List ℕ). level_in (above + 1) cs state) (step above here l is) ∙ level-later (above + 1) here (counts_below (above + 1)) state h)

  pub level-end : (above state : ℕ) → n + 1 ≤ above → above + 1 ≡ level_in (above + 1) (counts_below above) state
  level-end above state l = sym (ap (λ (cs : List ℕ). level_in (above + 1) cs state) (end above l))

  pub sum_on : (above here : ℕ) → above < n + 1 → here ≡ count_at s (hd_size + lv_size * above) → sum (counts_below above) ≡ here + sum (counts_below (above + 1))
  sum_on above here l is = ap sum (step above here l is)

  pub sum-end : (above : ℕ) → n + 1 ≤ above → sum (counts_below above) ≡ 0
  sum-end above l = ap sum (end above l)

  pub first-is : (here : ℕ) → here ≡ count_at s hd_size → roots_in (counts_below 0) ≡ here
  first-is here is = ap roots_in (step 0 here (omega arith) is)
