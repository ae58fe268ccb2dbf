-- What is in a meeting of two states: just the pairs of alternatives whose masks meet; and the alternative that has a choice. Assumes nothing.
use mathlib.Core.Path.{◌≡◌, refl, sym, ap, ◌∙◌, subst}
use mathlib.Core.Bool.{Bool, true, false, cond, ◌||◌}
use mathlib.Core.Logic.{◌⊎◌, inl, inr}
use mathlib.Core.List.Memᴰ
use mathlib.Core.List.{List, [], ◌∷◌, ◌++◌, Memᴰ}
use Prim.Native.Nat.{ℕ, ◌<◌}
use native.Mathlib.Omega.{arith}
use lib.Dec.{eqb, ltb}
use lib.Bits.{bit_and}
use borrow.Author.Tests.{eqb-true, eqb-false}
use Rattle.automata.specs.Choice.{has, least, Alt, alt, mask_of, insert, sorted, meet_one, meets}
use Rattle.automata.proofs.Masks.{has_or, has-zero, Mask}
use Rattle.automata.proofs.Choosing.{Apart, Disjoint}
use Rattle.automata.proofs.Order.{Masked, Above, Rising}
use Rattle.automata.proofs.Lists.{Each, Strictly}
use Rattle.stepwise.specs.Meet.{union, pick, joined}

-- ---- alternatives with a choice
module _ {X : Type 0} where
  -- some alternative has the choice exactly if the union has it
  pub union-has : (us : List (Alt X)) (c : ℕ) (d : Alt X) → has (union us) c ≡ true → Memᴰ (pick d c us) us × (has (mask_of (pick d c us)) c ≡ true)
  union-has [] c d h = let z : ◌≡◌ {A = ℕ} 0 1 = cc (h, has-zero c) in absurd (omega arith)
  union-has (alt m x ∷ us) c d h = go (has m c) refl (sym (has_or m (union us) c) ∙ h) (union-has us c d)
    where
      go : (b : Bool) → has m c ≡ b → b || has (union us) c ≡ true → (has (union us) c ≡ true → Memᴰ (pick d c us) us × (has (mask_of (pick d c us)) c ≡ true))
          → Memᴰ (cond b (alt m x) (pick d c us)) (alt m x ∷ us) × (has (mask_of (cond b (alt m x) (pick d c us))) c ≡ true)
      go true e k ih = (Memᴰ.head refl, e)
      go false e k ih = let r = ih k in (Memᴰ.tail r.0, r.1)

  pub has-union : (us : List (Alt X)) (m c : ℕ) (x : X) → Memᴰ (alt m x) us → has m c ≡ true → has (union us) c ≡ true
  has-union [] m c x h e = absurd (Memᴰ.not-nil h)
  has-union (alt k y ∷ us) m c x h e = has_or k (union us) c ∙ go (Memᴰ.cases_cons h) (λ l. has-union us m c x l e)
    where
      right : (a b : Bool) → b ≡ true → a || b ≡ true
      right true b f = refl
      right false b f = f

      go : (alt m x ≡ alt k y) ⊎ Memᴰ (alt m x) us → (Memᴰ (alt m x) us → has (union us) c ≡ true) → has k c || has (union us) c ≡ true
      go (inl f) ih = ap (λ (b : Bool). b || has (union us) c) (ap (λ (a : Alt X). has (mask_of a) c) (sym f) ∙ e)
      go (inr l) ih = right (has k c) (has (union us) c) (ih l)

  apart_mem : (k m c : ℕ) (x : X) (us : List (Alt X)) → Apart k us → Memᴰ (alt m x) us → has k c ≡ true → has m c ≡ true → ⊥
  apart_mem k m c x [] a h e f = Memᴰ.not-nil h
  apart_mem k m c x (alt n y ∷ us) a h e f = go (Memᴰ.cases_cons h) (λ l. apart_mem k m c x us a.1 l e f)
    where
      go : (alt m x ≡ alt n y) ⊎ Memᴰ (alt m x) us → (Memᴰ (alt m x) us → ⊥) → ⊥
      go (inl g) ih = let z : ◌≡◌ {A = ℕ} 0 1 = cc (a.0.never c, e, f, ap (λ (b : Alt X). has (mask_of b) c) g) in omega arith
      go (inr l) ih = ih l

  -- with no choice in common, the alternative with a choice is the one picked
  pub pick_is : (us : List (Alt X)) (m c : ℕ) (x : X) (d : Alt X) → Disjoint us → Memᴰ (alt m x) us → has m c ≡ true → pick d c us ≡ alt m x
  pick_is [] m c x d dj h e = absurd (Memᴰ.not-nil h)
  pick_is (alt k y ∷ us) m c x d dj h e = go (has k c) refl (Memᴰ.cases_cons h) (λ l. pick_is us m c x d dj.1 l e)
    where
      go : (b : Bool) → has k c ≡ b → (alt m x ≡ alt k y) ⊎ Memᴰ (alt m x) us → (Memᴰ (alt m x) us → pick d c us ≡ alt m x) → cond b (alt k y) (pick d c us) ≡ alt m x
      go true f (inl g) ih = sym g
      go true f (inr l) ih = absurd (apart_mem k m c x us dj.0 l f e)
      go false f (inl g) ih = let z : ◌≡◌ {A = ℕ} 0 1 = cc (e, ap (λ (a : Alt X). has (mask_of a) c) g, f) in absurd (omega arith)
      go false f (inr l) ih = ih l

  pub masked_mem : (us : List (Alt X)) (m : ℕ) (x : X) → Masked us → Memᴰ (alt m x) us → Mask m
  masked_mem [] m x k h = absurd (Memᴰ.not-nil h)
  masked_mem (alt n y ∷ us) m x k h = go (Memᴰ.cases_cons h) (λ l. masked_mem us m x k.1 l)
    where
      go : (alt m x ≡ alt n y) ⊎ Memᴰ (alt m x) us → (Memᴰ (alt m x) us → Mask m) → Mask m
      go (inl g) ih = subst (λ (a : Alt X). Mask (mask_of a)) (sym g) k.0
      go (inr l) ih = ih l

  -- ---- order by least choice
  abbrev pub Sooner : Alt X → Alt X → Type 0
  Sooner a b = least (mask_of a) < least (mask_of b)

  pub sooner_asym : (a b : Alt X) → Sooner a b → Sooner b a → ⊥
  sooner_asym a b h k = omega arith

  pub rising_strict : (us : List (Alt X)) → Rising us → Strictly Sooner us
  rising_strict [] r = tt
  rising_strict (alt m x ∷ us) r = (go us r.0, rising_strict us r.1)
    where
      go : (vs : List (Alt X)) → Above (least m) vs → Each (Sooner (alt m x)) vs
      go [] a = tt
      go (alt n y ∷ vs) a = (a.0, go vs a.1)

  -- ---- sorting keeps what is in a list
  insert_mem : (a b : Alt X) (us : List (Alt X)) → Memᴰ b (insert a us) → Memᴰ b (a ∷ us)
  insert_mem a b [] h = h
  insert_mem a b (u ∷ us) h = go (ltb (least (mask_of a)) (least (mask_of u))) h (insert_mem a b us)
    where
      behind : Memᴰ b (a ∷ us) → Memᴰ b (a ∷ u ∷ us)
      behind k = by (Memᴰ.cases_cons k)
        where
          by : (b ≡ a) ⊎ Memᴰ b us → Memᴰ b (a ∷ u ∷ us)
          by (inl e) = Memᴰ.head e
          by (inr l) = Memᴰ.tail (Memᴰ.tail l)

      go : (t : Bool) → Memᴰ b (cond t (a ∷ u ∷ us) (u ∷ insert a us)) → (Memᴰ b (insert a us) → Memᴰ b (a ∷ us)) → Memᴰ b (a ∷ u ∷ us)
      go true k ih = k
      go false k ih = by (Memᴰ.cases_cons k)
        where
          by : (b ≡ u) ⊎ Memᴰ b (insert a us) → Memᴰ b (a ∷ u ∷ us)
          by (inl e) = Memᴰ.tail (Memᴰ.head e)
          by (inr l) = behind (ih l)

  mem_insert : (a b : Alt X) (us : List (Alt X)) → Memᴰ b (a ∷ us) → Memᴰ b (insert a us)
  mem_insert a b [] h = h
  mem_insert a b (u ∷ us) h = go (ltb (least (mask_of a)) (least (mask_of u))) (Memᴰ.cases_cons h) (mem_insert a b us)
    where
      go : (t : Bool) → (b ≡ a) ⊎ Memᴰ b (u ∷ us) → (Memᴰ b (a ∷ us) → Memᴰ b (insert a us)) → Memᴰ b (cond t (a ∷ u ∷ us) (u ∷ insert a us))
      go true (inl e) ih = Memᴰ.head e
      go true (inr l) ih = Memᴰ.tail l
      go false (inl e) ih = Memᴰ.tail (ih (Memᴰ.head e))
      go false (inr l) ih = by (Memᴰ.cases_cons l)
        where
          by : (b ≡ u) ⊎ Memᴰ b us → Memᴰ b (u ∷ insert a us)
          by (inl e) = Memᴰ.head e
          by (inr k) = Memᴰ.tail (ih (Memᴰ.tail k))

  pub sorted_mem : (b : Alt X) (us : List (Alt X)) → Memᴰ b (sorted us) → Memᴰ b us
  sorted_mem b [] h = h
  sorted_mem b (a ∷ us) h = go (Memᴰ.cases_cons (insert_mem a b (sorted us) h)) (sorted_mem b us)
    where
      go : (b ≡ a) ⊎ Memᴰ b (sorted us) → (Memᴰ b (sorted us) → Memᴰ b us) → Memᴰ b (a ∷ us)
      go (inl e) ih = Memᴰ.head e
      go (inr l) ih = Memᴰ.tail (ih l)

  pub mem_sorted : (b : Alt X) (us : List (Alt X)) → Memᴰ b us → Memᴰ b (sorted us)
  mem_sorted b [] h = h
  mem_sorted b (a ∷ us) h = mem_insert a b (sorted us) (go (Memᴰ.cases_cons h) (mem_sorted b us))
    where
      go : (b ≡ a) ⊎ Memᴰ b us → (Memᴰ b us → Memᴰ b (sorted us)) → Memᴰ b (a ∷ sorted us)
      go (inl e) ih = Memᴰ.head e
      go (inr l) ih = Memᴰ.tail (ih l)

module _ {X Y Z : Type 0} (f : X → Y → Z) where
  -- ---- what is in the definitions' meeting: pairs of alternatives whose masks meet
  pub record Met (us : List (Alt X)) (vs : List (Alt Y)) (a : Alt Z) : Type 0 where
    pub m : ℕ
    pub x : X
    pub m' : ℕ
    pub y : Y
    pub left : Memᴰ (alt m x) us
    pub right : Memᴰ (alt m' y) vs
    pub some : bit_and m m' ≡ 0 → ⊥
    pub is : a ≡ alt (bit_and m m') (f x y)

  one_met : (us : List (Alt X)) (m : ℕ) (x : X) (vs all : List (Alt Y)) (a : Alt Z) → Memᴰ (alt m x) us → ((v : Alt Y) → Memᴰ v vs → Memᴰ v all)
      → Memᴰ a (meet_one f m x vs) → Met us all a
  one_met us m x [] all a h i k = absurd (Memᴰ.not-nil k)
  one_met us m x (alt n y ∷ vs) all a h i k = go (eqb (bit_and m n) 0) refl k (one_met us m x vs all a h (λ v l. i v (Memᴰ.tail l)))
    where
      go : (b : Bool) → eqb (bit_and m n) 0 ≡ b → Memᴰ a (cond b (meet_one f m x vs) (alt (bit_and m n) (f x y) ∷ meet_one f m x vs)) → (Memᴰ a (meet_one f m x vs) → Met us all a) → Met us all a
      go true e l ih = ih l
      go false e l ih = by (Memᴰ.cases_cons l)
        where
          by : (a ≡ alt (bit_and m n) (f x y)) ⊎ Memᴰ a (meet_one f m x vs) → Met us all a
          by (inl g) = record { m = m; x = x; m' = n; y = y; left = h; right = i (alt n y) (Memᴰ.head refl); some = eqb-false (bit_and m n) 0 e; is = g }
          by (inr g) = ih g

  pub meets_met : (us all : List (Alt X)) (vs : List (Alt Y)) (a : Alt Z) → ((u : Alt X) → Memᴰ u us → Memᴰ u all) → Memᴰ a (meets f us vs) → Met all vs a
  meets_met [] all vs a i h = absurd (Memᴰ.not-nil h)
  meets_met (alt m x ∷ us) all vs a i h = go (Memᴰ.append_cases (meet_one f m x vs) h) (meets_met us all vs a (λ u l. i u (Memᴰ.tail l)))
    where
      go : Memᴰ a (meet_one f m x vs) ⊎ Memᴰ a (meets f us vs) → (Memᴰ a (meets f us vs) → Met all vs a) → Met all vs a
      go (inl l) ih = one_met all m x vs vs a (i (alt m x) (Memᴰ.head refl)) (λ v k. k) l
      go (inr l) ih = ih l

  met_one : (m n : ℕ) (x : X) (y : Y) (vs : List (Alt Y)) → Memᴰ (alt n y) vs → (bit_and m n ≡ 0 → ⊥) → Memᴰ (alt (bit_and m n) (f x y)) (meet_one f m x vs)
  met_one m n x y [] h s = absurd (Memᴰ.not-nil h)
  met_one m n x y (alt k z ∷ vs) h s = go (eqb (bit_and m k) 0) refl (Memᴰ.cases_cons h) (λ l. met_one m n x y vs l s)
    where
      go : (b : Bool) → eqb (bit_and m k) 0 ≡ b → (alt n y ≡ alt k z) ⊎ Memᴰ (alt n y) vs → (Memᴰ (alt n y) vs → Memᴰ (alt (bit_and m n) (f x y)) (meet_one f m x vs))
          → Memᴰ (alt (bit_and m n) (f x y)) (cond b (meet_one f m x vs) (alt (bit_and m k) (f x z) ∷ meet_one f m x vs))
      go true e (inl g) ih = absurd (s (ap (λ (a : Alt Y). bit_and m (mask_of a)) g ∙ eqb-true (bit_and m k) 0 e))
      go true e (inr l) ih = ih l
      go false e (inl g) ih = Memᴰ.head (ap (λ (a : Alt Y). joined f (alt m x) (alt k z) (alt m x) a) g)
      go false e (inr l) ih = Memᴰ.tail (ih l)

  pub met_meets : (us : List (Alt X)) (vs : List (Alt Y)) (m n : ℕ) (x : X) (y : Y) → Memᴰ (alt m x) us → Memᴰ (alt n y) vs → (bit_and m n ≡ 0 → ⊥)
      → Memᴰ (alt (bit_and m n) (f x y)) (meets f us vs)
  met_meets [] vs m n x y h k s = absurd (Memᴰ.not-nil h)
  met_meets (alt l z ∷ us) vs m n x y h k s = go (Memᴰ.cases_cons h) (λ i. met_meets us vs m n x y i k s)
    where
      go : (alt m x ≡ alt l z) ⊎ Memᴰ (alt m x) us → (Memᴰ (alt m x) us → Memᴰ (alt (bit_and m n) (f x y)) (meets f us vs)) → Memᴰ (alt (bit_and m n) (f x y)) (meet_one f l z vs ++ meets f us vs)
      go (inl g) ih =
          Memᴰ.append_left (meets f us vs)
          (subst (λ (a : Alt X). Memᴰ (alt (bit_and m n) (f x y)) (first a)) g (met_one m n x y vs k s))
        where
          first : Alt X → List (Alt Z)
          first (alt l' z') = meet_one f l' z' vs
      go (inr i) ih = Memᴰ.append_right (meet_one f l z vs) (ih i)
