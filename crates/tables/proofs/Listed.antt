-- Records read at places that run evenly: what stands where, and when two runs give the same list. Assumes nothing.
use mathlib.Core.Path.{◌≡◌, refl, sym, ap, ap₂, ◌∙◌}
use mathlib.Core.List.{List, ◌∷◌, ◌++◌, map}
use Prim.Native.Nat.{ℕ, zero, suc, ◌+◌, ◌*◌, ◌<◌, ◌≤◌}
use native.Mathlib.Nat.{suc-mul}
use native.Mathlib.Omega.{arith}
use lib.ListN.{length, get_or, take}
use lib.Seq.{ext_get_or, length-take-le, get_or-take}
use Rattle.stored.specs.Fields.{records_from}
use Rattle.stored.proofs.Reading.{records-count}

-- record i + 1 from a place on is record i from the next place on
shifted : (at size i : ℕ) → at + suc i * size ≡ at + size + i * size
shifted at size i = let e = suc-mul i size in omega arith

module _ {X : Type 0} where
  pub same-records : (f g : ℕ → X) (a b p q count : ℕ) → ((i : ℕ) → i < count → f (a + i * p) ≡ g (b + i * q)) → records_from f a p count ≡ records_from g b q count
  unfolding records_from
  same-records f g a b p q zero h = refl
  same-records f g a b p q (suc count) h =
      let l : a + 0 * p ≡ a = omega arith in
      let r : b + 0 * q ≡ b = omega arith in
      ap₂ (λ (x : X) (xs : List X). x ∷ xs) (sym (ap f l) ∙ h 0 (omega arith) ∙ ap g r)
      (same-records f g (a + p) (b + q) p q count (λ i lt. sym (ap f (shifted a p i)) ∙ h (suc i) (omega arith) ∙ ap g (shifted b q i)))

  pub record_at : (f : ℕ → X) (a p count i : ℕ) (d : X) → i < count → get_or (records_from f a p count) i d ≡ f (a + i * p)
  unfolding records_from
  record_at f a p zero i d h = absurd (omega arith)
  record_at f a p (suc count) zero d h = ap f (omega arith)
  record_at f a p (suc count) (suc i) d h = record_at f (a + p) p count i d (omega arith) ∙ ap f (sym (shifted a p i))

  pub records_append : (f : ℕ → X) (a more count : ℕ) → records_from f a 1 count ++ records_from f (a + count) 1 more ≡ records_from f a 1 (count + more)
  unfolding records_from
  records_append f a more zero =
      let e : a + 0 ≡ a = omega arith in
      let n : more ≡ 0 + more = omega arith in
      ap₂ (λ (i m : ℕ). records_from f i 1 m) e n
  records_append f a more (suc count) =
      let e : a + suc count ≡ a + 1 + count = omega arith in
      let n : suc count + more ≡ suc (count + more) = omega arith in
      ap (λ (i : ℕ). f a ∷ (records_from f (a + 1) 1 count ++ records_from f i 1 more)) e
      ∙ ap (λ (xs : List X). f a ∷ xs) (records_append f (a + 1) more count)
      ∙ ap (records_from f a 1) (sym n)

  pub map-records : {Y : Type 0} (g : X → Y) (f : ℕ → X) (a p count : ℕ) → map g (records_from f a p count) ≡ records_from (λ (i : ℕ). g (f i)) a p count
  unfolding records_from
  map-records g f a p zero = refl
  map-records {Y} g f a p (suc count) = ap (λ (ys : List Y). g (f a) ∷ ys) (map-records g f (a + p) p count)

-- the front of a list that holds what is read
pub take-records : (xs : List ℕ) (g : ℕ → ℕ) (b q count : ℕ) → count ≤ length xs → ((i : ℕ) → i < count → get_or xs i 0 ≡ g (b + i * q)) → take count xs ≡ records_from g b q count
take-records xs g b q count room h =
    let l = length-take-le count xs room in
    ext_get_or 0 (take count xs) (records_from g b q count) (l ∙ sym (records-count g b q count))
    (λ i lt. let k : i < count = omega arith in get_or-take count xs i 0 k ∙ h i k ∙ sym (record_at g b q count i 0 k))
