-- Of a key's places in a list the first is its place there, and a key that stands at no place is not in the list. Assumes nothing.
use mathlib.Core.Path.{◌≡◌, refl, sym, ap, ◌∙◌}
use mathlib.Core.Bool.{Bool, true, false, cond, ◌||◌, false≢true}
use mathlib.Core.List.{List, [], ◌∷◌}
use Prim.Native.Nat.{ℕ, zero, suc, ◌<◌}
use native.Mathlib.Omega.{arith}
use lib.Dec.{eqb}
use lib.ListN.{length, get_or}
use borrow.Author.Tests.{eq-eqb, ne_eqb, eqb-false}
use Rattle.std.specs.Prelude.{Option, Some, None}
use Rattle.gates.specs.Numbering.{is_in, place}
use Rattle.names.specs.Found.{found_in}

module _ (key : ℕ) where
  -- the key stands at no place
  abbrev Absent : List ℕ → Type 0
  Absent ks = (j : ℕ) → j < length ks → get_or ks j 0 ≡ key → ⊥

  pub absent_out : (ks : List ℕ) → Absent ks → is_in eqb key ks ≡ false
  absent_out [] h = refl
  absent_out (x ∷ ks) h = rw (ne_eqb x key (h 0 (omega arith))) (absent_out ks (λ j l. h (suc j) (omega arith)))

  pub out_absent : (ks : List ℕ) → is_in eqb key ks ≡ false → Absent ks
  out_absent [] e j l = absurd (omega arith)
  out_absent (x ∷ ks) e j l = at (eqb x key) refl e (out_absent ks) j l
    where
      at : (b : Bool) → eqb x key ≡ b → (b || is_in eqb key ks) ≡ false → (is_in eqb key ks ≡ false → Absent ks)
          → (i : ℕ) → i < suc (length ks) → get_or (x ∷ ks) i 0 ≡ key → ⊥
      at true t f ih i k q = false≢true (sym f)
      at false t f ih zero k q = eqb-false x key t q
      at false t f ih (suc i) k q = ih f i (omega arith) q

  -- it stands at a place
  pub stands_in : (ks : List ℕ) (p : ℕ) → p < length ks → get_or ks p 0 ≡ key → is_in eqb key ks ≡ true
  stands_in [] p l e = absurd (omega arith)
  stands_in (x ∷ ks) zero l e = rw (eq-eqb x key e)
  stands_in (x ∷ ks) (suc p) l e = or (eqb x key) (stands_in ks p (omega arith) e)
    where
      or : (b : Bool) {t : Bool} → t ≡ true → (b || t) ≡ true
      or true h = refl
      or false h = h

  -- it stands at a place, and at no place before
  pub first-place : (ks : List ℕ) (p : ℕ) → p < length ks → get_or ks p 0 ≡ key → ((j : ℕ) → j < p → get_or ks j 0 ≡ key → ⊥) → place eqb key ks ≡ p
  first-place [] p l e h = absurd (omega arith)
  first-place (x ∷ ks) zero l e h = rw (eq-eqb x key e)
  first-place (x ∷ ks) (suc p) l e h =
      rw (ne_eqb x key (h 0 (omega arith))) (ap suc (first-place ks p (omega arith) e (λ j k. h (suc j) (omega arith))))

  -- what a search's answer tells
  module _ {r : Option ℕ} (ks : List ℕ) (answer : r ≡ found_in key ks) where
    pub found_at : (p : ℕ) → r ≡ Some p → (is_in eqb key ks ≡ true) × (p ≡ place eqb key ks)
    unfolding found_in
    found_at p e = at (is_in eqb key ks) (sym e ∙ answer)
      where
        at : (b : Bool) → Some p ≡ cond b (Some (place eqb key ks)) None → (b ≡ true) × (p ≡ place eqb key ks)
        at true q = (refl, cc)
        at false q = let w : ◌≡◌ {A = ℕ} 0 1 = cc in absurd (omega arith)

    pub found_none : r ≡ None → is_in eqb key ks ≡ false
    unfolding found_in
    found_none e = at (is_in eqb key ks) (sym e ∙ answer)
      where
        at : (b : Bool) → None ≡ cond b (Some (place eqb key ks)) None → b ≡ false
        at true q = let w : ◌≡◌ {A = ℕ} 0 1 = cc in absurd (omega arith)
        at false q = refl
