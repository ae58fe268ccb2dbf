-- Laws of choosing: through a map, through the alternatives of two states together, and through the order of least choice. Assumes nothing.
use mathlib.Core.Path.{◌≡◌, refl, sym, ap, ◌∙◌}
use mathlib.Core.Bool.{Bool, true, false, cond, ◌&&◌}
use mathlib.Core.List.{List, [], ◌∷◌, ◌++◌}
use mathlib.Core.Option.{Option, none, some}
use Prim.Native.Nat.{ℕ}
use lib.Dec.{eqb, ltb}
use lib.Bits.{bit_and}
use borrow.Author.Tests.{eqb-true}
use Rattle.automata.specs.Choice.{has, least, Alt, alt, map_o, zip_o, choose, insert, sorted, map_alt, meet_one, meets, together}
use Rattle.automata.proofs.Masks.{has-and, has-zero, Never, never_sym, never_right, never_left}

module _ {X : Type 0} where
  abbrev pub Apart : ℕ → List (Alt X) → Type 0
  Apart m [] = Unit {0}
  Apart m (alt m' x ∷ us) = Never m m' × Apart m us

  abbrev pub Disjoint : List (Alt X) → Type 0
  Disjoint [] = Unit {0}
  Disjoint (alt m x ∷ us) = Apart m us × Disjoint us

  abbrev pub or_else : Option X → Option X → Option X
  or_else none y = y
  or_else (some x) y = some x

  pub choose_append : (c : ℕ) (us vs : List (Alt X)) → choose c (us ++ vs) ≡ or_else (choose c us) (choose c vs)
  choose_append c [] vs = refl
  choose_append c (alt m x ∷ us) vs = go (has m c) (choose_append c us vs)
    where
      go : (b : Bool) → choose c (us ++ vs) ≡ or_else (choose c us) (choose c vs) → cond b (some x) (choose c (us ++ vs)) ≡ or_else (cond b (some x) (choose c us)) (choose c vs)
      go true e = refl
      go false e = e

  -- two tests that are never both true may be made in either order
  swap : (b b' : Bool) (x y z : Option X) → b && b' ≡ false → cond b x (cond b' y z) ≡ cond b' y (cond b x z)
  swap true true x y z e = cc
  swap true false x y z e = refl
  swap false true x y z e = refl
  swap false false x y z e = refl

  pub choose-insert : (c m : ℕ) (x : X) (us : List (Alt X)) → Apart m us → choose c (insert (alt m x) us) ≡ choose c (alt m x ∷ us)
  choose-insert c m x [] h = refl
  choose-insert c m x (alt m' y ∷ us) h = go (ltb (least m) (least m')) (choose-insert c m x us h.1)
    where
      go : (b : Bool) → choose c (insert (alt m x) us) ≡ cond (has m c) (some x) (choose c us)
          → choose c (cond b (alt m x ∷ alt m' y ∷ us) (alt m' y ∷ insert (alt m x) us)) ≡ cond (has m c) (some x) (cond (has m' c) (some y) (choose c us))
      go true e = refl
      go false e = ap (λ (o : Option X). cond (has m' c) (some y) o) e ∙ sym (swap (has m c) (has m' c) (some x) (some y) (choose c us) (h.0.never c))

  pub apart-insert : (m m' : ℕ) (x : X) (us : List (Alt X)) → Never m m' → Apart m us → Apart m (insert (alt m' x) us)
  apart-insert m m' x [] h k = (h, tt)
  apart-insert m m' x (alt m'' y ∷ us) h k = go (ltb (least m') (least m'')) (apart-insert m m' x us h k.1)
    where
      go : (b : Bool) → Apart m (insert (alt m' x) us) → Apart m (cond b (alt m' x ∷ alt m'' y ∷ us) (alt m'' y ∷ insert (alt m' x) us))
      go true r = (h, k)
      go false r = (k.0, r)

  pub disjoint-insert : (m : ℕ) (x : X) (us : List (Alt X)) → Apart m us → Disjoint us → Disjoint (insert (alt m x) us)
  disjoint-insert m x [] h k = (tt, tt)
  disjoint-insert m x (alt m' y ∷ us) h k = go (ltb (least m) (least m')) (disjoint-insert m x us h.1 k.1)
    where
      go : (b : Bool) → Disjoint (insert (alt m x) us) → Disjoint (cond b (alt m x ∷ alt m' y ∷ us) (alt m' y ∷ insert (alt m x) us))
      go true r = (h, k)
      go false r = (apart-insert m' m x us (never_sym m m' h.0) k.0, r)

  pub apart-sorted : (m : ℕ) (us : List (Alt X)) → Apart m us → Apart m (sorted us)
  apart-sorted m [] h = tt
  apart-sorted m (alt m' x ∷ us) h = apart-insert m m' x (sorted us) h.0 (apart-sorted m us h.1)

  pub disjoint-sorted : (us : List (Alt X)) → Disjoint us → Disjoint (sorted us)
  disjoint-sorted [] h = tt
  disjoint-sorted (alt m x ∷ us) h = disjoint-insert m x (sorted us) (apart-sorted m us h.0) (disjoint-sorted us h.1)

  pub choose-sorted : (c : ℕ) (us : List (Alt X)) → Disjoint us → choose c (sorted us) ≡ choose c us
  choose-sorted c [] h = refl
  choose-sorted c (alt m x ∷ us) h =
      choose-insert c m x (sorted us) (apart-sorted m us h.0) ∙ ap (λ (o : Option X). cond (has m c) (some x) o) (choose-sorted c us h.1)

module _ {X Y : Type 0} (f : X → Y) where
  pub choose-map : (c : ℕ) (us : List (Alt X)) → choose c (map_alt f us) ≡ map_o f (choose c us)
  choose-map c [] = refl
  choose-map c (alt m x ∷ us) = go (has m c) (choose-map c us)
    where
      go : (b : Bool) → choose c (map_alt f us) ≡ map_o f (choose c us) → cond b (some (f x)) (choose c (map_alt f us)) ≡ map_o f (cond b (some x) (choose c us))
      go true e = refl
      go false e = e

  apart-map : (m : ℕ) (us : List (Alt X)) → Apart m us → Apart m (map_alt f us)
  apart-map m [] h = tt
  apart-map m (alt m' x ∷ us) h = (h.0, apart-map m us h.1)

  pub disjoint_map : (us : List (Alt X)) → Disjoint us → Disjoint (map_alt f us)
  disjoint_map [] h = tt
  disjoint_map (alt m x ∷ us) h = (apart-map m us h.0, disjoint_map us h.1)

module _ {X Y Z : Type 0} (f : X → Y → Z) where
  pub choose-meet_one : (c m : ℕ) (x : X) (vs : List (Alt Y)) → choose c (meet_one f m x vs) ≡ cond (has m c) (map_o (f x) (choose c vs)) none
  choose-meet_one c m x [] = go (has m c)
    where
      go : (b : Bool) → none ≡ cond {A = Option Z} b none none
      go true = refl
      go false = refl
  choose-meet_one c m x (alt m' y ∷ vs) = go (eqb (bit_and m m') 0) refl (choose-meet_one c m x vs)
    where
      fin : (b b' : Bool) → cond (b && b') (some (f x y)) (cond b (map_o (f x) (choose c vs)) none) ≡ cond b (map_o (f x) (cond b' (some y) (choose c vs))) none
      fin true true = refl
      fin true false = refl
      fin false b' = refl

      step : choose c (meet_one f m x vs) ≡ cond (has m c) (map_o (f x) (choose c vs)) none
          → cond (has (bit_and m m') c) (some (f x y)) (choose c (meet_one f m x vs)) ≡ cond (has m c) (map_o (f x) (cond (has m' c) (some y) (choose c vs))) none
      step ih = rw (has-and m m' c, ih) (fin (has m c) (has m' c))

      -- an empty intersection has no choice
      go : (e : Bool) → eqb (bit_and m m') 0 ≡ e → choose c (meet_one f m x vs) ≡ cond (has m c) (map_o (f x) (choose c vs)) none
          → choose c (cond e (meet_one f m x vs) (alt (bit_and m m') (f x y) ∷ meet_one f m x vs)) ≡ cond (has m c) (map_o (f x) (cond (has m' c) (some y) (choose c vs))) none
      go true e ih = sym (ap (λ (b : Bool). cond b (some (f x y)) (choose c (meet_one f m x vs))) (ap (λ (k : ℕ). has k c) (eqb-true (bit_and m m') 0 e) ∙ has-zero c)) ∙ step ih
      go false e ih = step ih

  pub choose-meets : (c : ℕ) (us : List (Alt X)) (vs : List (Alt Y)) → choose c (meets f us vs) ≡ zip_o f (choose c us) (choose c vs)
  choose-meets c [] vs = refl
  choose-meets c (alt m x ∷ us) vs =
      choose_append c (meet_one f m x vs) (meets f us vs) ∙ rw (choose-meet_one c m x vs, choose-meets c us vs) (fin (has m c) (choose c us) (choose c vs))
    where
      fin : (b : Bool) (u : Option X) (v : Option Y) → or_else (cond b (map_o (f x) v) none) (zip_o f u v) ≡ zip_o f (cond b (some x) u) v
      fin true none none = refl
      fin true (some u) none = refl
      fin true u (some v) = refl
      fin false u v = refl

  -- ---- the product's masks are disjoint
  apart_append : (m : ℕ) (us vs : List (Alt Z)) → Apart m us → Apart m vs → Apart m (us ++ vs)
  apart_append m [] vs h k = k
  apart_append m (alt m' x ∷ us) vs h k = (h.0, apart_append m us vs h.1 k)

  apart-meet_one : (n m : ℕ) (x : X) (vs : List (Alt Y)) → ((m' : ℕ) → Never n (bit_and m m')) → Apart n (meet_one f m x vs)
  apart-meet_one n m x [] h = tt
  apart-meet_one n m x (alt m' y ∷ vs) h = go (eqb (bit_and m m') 0) (apart-meet_one n m x vs h)
    where
      go : (e : Bool) → Apart n (meet_one f m x vs) → Apart n (cond e (meet_one f m x vs) (alt (bit_and m m') (f x y) ∷ meet_one f m x vs))
      go true r = r
      go false r = (h m', r)

  apart-meet_one' : (m n : ℕ) (x : X) (vs : List (Alt Y)) → Apart n vs → Apart (bit_and m n) (meet_one f m x vs)
  apart-meet_one' m n x [] h = tt
  apart-meet_one' m n x (alt m' y ∷ vs) h = go (eqb (bit_and m m') 0) (apart-meet_one' m n x vs h.1)
    where
      go : (e : Bool) → Apart (bit_and m n) (meet_one f m x vs) → Apart (bit_and m n) (cond e (meet_one f m x vs) (alt (bit_and m m') (f x y) ∷ meet_one f m x vs))
      go true r = r
      go false r = (never_right m n m' h.0, r)

  apart-meets : (m k : ℕ) (us : List (Alt X)) (vs : List (Alt Y)) → Apart m us → Apart (bit_and m k) (meets f us vs)
  apart-meets m k [] vs h = tt
  apart-meets m k (alt m' x ∷ us) vs h =
      apart_append (bit_and m k) (meet_one f m' x vs) (meets f us vs)
      (apart-meet_one (bit_and m k) m' x vs (λ m''. never_left m k m' m'' h.0)) (apart-meets m k us vs h.1)

  disjoint-front : (m : ℕ) (x : X) (vs : List (Alt Y)) (rest : List (Alt Z)) → ((k : ℕ) → Apart (bit_and m k) rest) → Disjoint vs → Disjoint rest
      → Disjoint (meet_one f m x vs ++ rest)
  disjoint-front m x [] rest h d r = r
  disjoint-front m x (alt m' y ∷ vs) rest h d r = go (eqb (bit_and m m') 0) (disjoint-front m x vs rest h d.1 r)
    where
      go : (e : Bool) → Disjoint (meet_one f m x vs ++ rest) → Disjoint (cond e (meet_one f m x vs) (alt (bit_and m m') (f x y) ∷ meet_one f m x vs) ++ rest)
      go true q = q
      go false q = (apart_append (bit_and m m') (meet_one f m x vs) rest (apart-meet_one' m m' x vs d.0) (h m'), q)

  pub disjoint-meets : (us : List (Alt X)) (vs : List (Alt Y)) → Disjoint us → Disjoint vs → Disjoint (meets f us vs)
  disjoint-meets [] vs d e = tt
  disjoint-meets (alt m x ∷ us) vs d e =
      disjoint-front m x vs (meets f us vs) (λ k. apart-meets m k us vs d.0) e (disjoint-meets us vs d.1 e)

  pub choose-together : (c : ℕ) (us : List (Alt X)) (vs : List (Alt Y)) → Disjoint us → Disjoint vs → choose c (together f us vs) ≡ zip_o f (choose c us) (choose c vs)
  choose-together c us vs d e = choose-sorted c (meets f us vs) (disjoint-meets us vs d e) ∙ choose-meets c us vs

  pub disjoint-together : (us : List (Alt X)) (vs : List (Alt Y)) → Disjoint us → Disjoint vs → Disjoint (together f us vs)
  disjoint-together us vs d e = disjoint-sorted (meets f us vs) (disjoint-meets us vs d e)
