-- Laws of lists for the members: what a list made part by part has in it, and when it is strictly in order. Assumes nothing.
use mathlib.Core.Path.{◌≡◌, refl, sym, ap, ap₂, subst}
use mathlib.Core.Bool.{Bool, true, false}
use mathlib.Core.Logic.{◌⊎◌, inl, inr}
use mathlib.Core.List.Memᴰ
use mathlib.Core.List.{List, [], ◌∷◌, ◌++◌, map, Memᴰ}
use Prim.Native.Nat.{ℕ, zero, suc, ◌+◌, ◌<◌, ◌≤◌}
use native.Mathlib.Omega.{arith}
use lib.Dec.{eqb}
use borrow.Author.Tests.{eqb-true, eqb-false}
use Rattle.automata.specs.Members.{flat, up_to}

-- ---- what is in a list
pub flat_mem : {X Y : Type 0} (f : X → List Y) {x : X} {y : Y} {xs : List X} → Memᴰ x xs → Memᴰ y (f x) → Memᴰ y (flat f xs)
flat_mem f {x} {y} (Memᴰ.head {x = x'} {xs = xs} e) k = Memᴰ.append_left (flat f xs) (subst (λ z. Memᴰ y (f z)) e k)
flat_mem f {x} {y} (Memᴰ.tail {x = x'} {xs = xs} h) k = Memᴰ.append_right (f x') (flat_mem f h k)

pub flat_inv : {X Y : Type 0} (f : X → List Y) {y : Y} (xs : List X) → Memᴰ y (flat f xs) → (x : X) × Memᴰ x xs × Memᴰ y (f x)
flat_inv f [] h = absurd (Memᴰ.not-nil h)
flat_inv {X} {Y} f {y} (x ∷ xs) h = go (Memᴰ.append_cases (f x) h) (flat_inv f xs)
  where
    go : Memᴰ y (f x) ⊎ Memᴰ y (flat f xs) → (Memᴰ y (flat f xs) → (z : X) × Memᴰ z xs × Memᴰ y (f z)) → (z : X) × Memᴰ z (x ∷ xs) × Memᴰ y (f z)
    go (inl m) ih = (x, Memᴰ.head refl, m)
    go (inr m) ih = let r : (z : X) × Memᴰ z xs × Memᴰ y (f z) = ih m in (r.0, Memᴰ.tail r.1, r.2)

pub map_mem : {X Y : Type 0} (f : X → Y) {x : X} {xs : List X} → Memᴰ x xs → Memᴰ (f x) (map f xs)
map_mem f (Memᴰ.head e) = Memᴰ.head (ap f e)
map_mem f (Memᴰ.tail h) = Memᴰ.tail (map_mem f h)

pub map_inv : {X Y : Type 0} (f : X → Y) {y : Y} (xs : List X) → Memᴰ y (map f xs) → (x : X) × Memᴰ x xs × (y ≡ f x)
map_inv f [] h = absurd (Memᴰ.not-nil h)
map_inv {X} {Y} f {y} (x ∷ xs) h = go (Memᴰ.cases_cons h) (map_inv f xs)
  where
    go : (y ≡ f x) ⊎ Memᴰ y (map f xs) → (Memᴰ y (map f xs) → (z : X) × Memᴰ z xs × (y ≡ f z)) → (z : X) × Memᴰ z (x ∷ xs) × (y ≡ f z)
    go (inl e) ih = (x, Memᴰ.head refl, e)
    go (inr m) ih = let r : (z : X) × Memᴰ z xs × (y ≡ f z) = ih m in (r.0, Memᴰ.tail r.1, r.2)

pub up_to_mem : (m i c : ℕ) → i ≤ c → c < i + m → Memᴰ c (up_to i m)
up_to_mem zero i c h k = absurd (omega arith)
up_to_mem (suc m) i c h k = go (eqb i c) refl (λ e. up_to_mem m (suc i) c e (omega arith))
  where
    go : (b : Bool) → eqb i c ≡ b → (suc i ≤ c → Memᴰ c (up_to (suc i) m)) → Memᴰ c (i ∷ up_to (suc i) m)
    go true e ih = Memᴰ.head (sym (eqb-true i c e))
    go false e ih = Memᴰ.tail (ih (omega (arith, eqb-false i c e)))

pub up_to_inv : (m i c : ℕ) → Memᴰ c (up_to i m) → (i ≤ c) × (c < i + m)
up_to_inv zero i c h = absurd (Memᴰ.not-nil h)
up_to_inv (suc m) i c h = go (Memᴰ.cases_cons h) (up_to_inv m (suc i) c)
  where
    go : (c ≡ i) ⊎ Memᴰ c (up_to (suc i) m) → (Memᴰ c (up_to (suc i) m) → (suc i ≤ c) × (c < suc i + m)) → (i ≤ c) × (c < i + suc m)
    go (inl e) ih = (omega arith, omega arith)
    go (inr k) ih = let r = ih k in (omega arith, omega arith)

-- ---- strictly in order
module _ {A : Type 0} where
  abbrev pub Each : (A → Type 0) → List A → Type 0
  Each P [] = Unit {0}
  Each P (x ∷ xs) = P x × Each P xs

  -- each element stands before all later ones
  abbrev pub Strictly : (A → A → Type 0) → List A → Type 0
  Strictly R [] = Unit {0}
  Strictly R (x ∷ xs) = Each (R x) xs × Strictly R xs

  pub each_map : (P Q : A → Type 0) → ((x : A) → P x → Q x) → (xs : List A) → Each P xs → Each Q xs
  each_map P Q f [] h = tt
  each_map P Q f (x ∷ xs) h = (f x h.0, each_map P Q f xs h.1)

  pub each_append : (P : A → Type 0) (xs ys : List A) → Each P xs → Each P ys → Each P (xs ++ ys)
  each_append P [] ys h k = k
  each_append P (x ∷ xs) ys h k = (h.0, each_append P xs ys h.1 k)

  pub each_mem : (P : A → Type 0) {x : A} {xs : List A} → Each P xs → Memᴰ x xs → P x
  each_mem P h (Memᴰ.head e) = subst P (sym e) h.0
  each_mem P h (Memᴰ.tail k) = each_mem P h.1 k

  strict_append : (R : A → A → Type 0) (xs ys : List A) → Strictly R xs → Strictly R ys → Each (λ (x : A). Each (R x) ys) xs → Strictly R (xs ++ ys)
  strict_append R [] ys h k l = k
  strict_append R (x ∷ xs) ys h k l = (each_append (R x) xs ys h.0 l.0, strict_append R xs ys h.1 k l.1)

  -- parts that belong to rising numbers, each strictly in order
  module _ (R : A → A → Type 0) (H : ℕ → A → Type 0) (f : ℕ → List A) (mine : (c : ℕ) → Each (H c) (f c)) (inside : (c : ℕ) → Strictly R (f c))
      (across : (c d : ℕ) (x y : A) → c < d → H c x → H d y → R x y) where
    flat_later : (m i c : ℕ) (x : A) → c < i → H c x → Each (R x) (flat f (up_to i m))
    flat_later zero i c x h k = tt
    flat_later (suc m) i c x h k =
        each_append (R x) (f i) (flat f (up_to (suc i) m)) (each_map (H i) (R x) (λ y l. across c i x y h k l) (f i) (mine i)) (flat_later m (suc i) c x (omega arith) k)

    pub strict_flat : (m i : ℕ) → Strictly R (flat f (up_to i m))
    strict_flat zero i = tt
    strict_flat (suc m) i =
        strict_append R (f i) (flat f (up_to (suc i) m)) (inside i) (strict_flat m (suc i))
        (each_map (H i) (λ (x : A). Each (R x) (flat f (up_to (suc i) m))) (λ x k. flat_later m (suc i) i x (omega arith) k) (f i) (mine i))

  -- two lists strictly in order with the same elements are the same list
  module _ (R : A → A → Type 0) (asym : (x y : A) → R x y → R y x → ⊥) where
    head_first : (x : A) (xs : List A) (y : A) (ys : List A) → Strictly R (x ∷ xs) → Strictly R (y ∷ ys) → Memᴰ x (y ∷ ys) → Memᴰ y (x ∷ xs) → x ≡ y
    head_first x xs y ys h k m l = go (Memᴰ.cases_cons m) (Memᴰ.cases_cons l)
      where
        go : (x ≡ y) ⊎ Memᴰ x ys → (y ≡ x) ⊎ Memᴰ y xs → x ≡ y
        go (inl e) q = e
        go (inr p) (inl e) = sym e
        go (inr p) (inr q) = absurd (asym x y (each_mem (R x) h.0 q) (each_mem (R y) k.0 p))

    -- what is in the rest is not the head
    in_rest : (x : A) (xs ys : List A) (z : A) → Each (R x) xs → Memᴰ z xs → Memᴰ z (x ∷ ys) → Memᴰ z ys
    in_rest x xs ys z h m l = go (Memᴰ.cases_cons l)
      where
        go : (z ≡ x) ⊎ Memᴰ z ys → Memᴰ z ys
        go (inl e) = let r : R x x = subst (R x) e (each_mem (R x) h m) in absurd (asym x x r r)
        go (inr q) = q

    pub strict_same : (xs ys : List A) → Strictly R xs → Strictly R ys → ((z : A) → Memᴰ z xs → Memᴰ z ys) → ((z : A) → Memᴰ z ys → Memᴰ z xs) → xs ≡ ys
    strict_same [] [] h k f g = refl
    strict_same [] (y ∷ ys) h k f g = absurd (Memᴰ.not-nil (g y (Memᴰ.head refl)))
    strict_same (x ∷ xs) [] h k f g = absurd (Memᴰ.not-nil (f x (Memᴰ.head refl)))
    strict_same (x ∷ xs) (y ∷ ys) h k f g =
        let e : x ≡ y = head_first x xs y ys h k (f x (Memᴰ.head refl)) (g y (Memᴰ.head refl)) in
        ap₂ (λ (a : A) (l : List A). a ∷ l) e
        (strict_same xs ys h.1 k.1
        (λ z m. in_rest x xs ys z h.0 m (subst (λ (a : A). Memᴰ z (a ∷ ys)) (sym e) (f z (Memᴰ.tail m))))
        (λ z m. in_rest y ys xs z k.0 m (subst (λ (a : A). Memᴰ z (a ∷ xs)) e (g z (Memᴰ.tail m)))))

pub strict_map : {A B : Type 0} (R : A → A → Type 0) (S : B → B → Type 0) (f : A → B) → ((x y : A) → R x y → S (f x) (f y)) → (xs : List A) → Strictly R xs → Strictly S (map f xs)
strict_map R S f g [] h = tt
strict_map {A} {B} R S f g (x ∷ xs) h = (go xs h.0, strict_map R S f g xs h.1)
  where
    go : (ys : List A) → Each (R x) ys → Each (S (f x)) (map f ys)
    go [] k = tt
    go (y ∷ ys) k = (g x y k.0, go ys k.1)

pub each_mapped : {A B : Type 0} (P : B → Type 0) (f : A → B) → ((x : A) → P (f x)) → (xs : List A) → Each P (map f xs)
each_mapped P f h [] = tt
each_mapped P f h (x ∷ xs) = (h x, each_mapped P f h xs)
