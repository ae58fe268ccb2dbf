-- Rule 10 says what it should: records are in order exactly if any two of them stand by state, then by least choice, and share no choice within
-- one state. Assumes nothing.
use mathlib.Core.Path.{◌≡◌, refl, ap, ◌∙◌}
use mathlib.Core.Bool.{Bool, true, false, cond, ◌&&◌, ◌||◌, not, false≢true}
use mathlib.Core.Logic.{◌⊎◌, inl, inr}
use mathlib.Core.List.{List, [], ◌∷◌}
use Prim.Native.Nat.{ℕ, suc, ◌<◌}
use native.Mathlib.Omega.{arith}
use lib.ListN.{length}
use lib.Dec.{eqb, ltb}
use lib.Bits.{bit_and}
use borrow.Author.Tests.{eqb-true, eq-eqb, ne_eqb, ltb-true, lt-ltb}
use Rattle.amplitude.proofs.Equal.{both}
use Rattle.automata.specs.Choice.{least, alt}
use Rattle.automata.specs.Sets.{Rec, rec, own}
use Rattle.automata.proofs.Masks.{never_of}
use Rattle.automata.proofs.Choosing.{Apart, Disjoint}
use Rattle.automata.proofs.Order.{Above, Rising}
use Rattle.automata.proofs.Lists.{Each, Strictly, each_map}
use Rattle.stored.specs.Rules.{precedes, apart, fits_after, first_clash, ordered}
use Rattle.stored.proofs.ScanLaws.{each-passes, passes-each}

either : (a b : Bool) → a || b ≡ true → (a ≡ true) ⊎ (b ≡ true)
either true b e = inl refl
either false b e = inr e

-- of one state, the earlier least choice and no choice in common
pub record Sibling (s m q m' : ℕ) : Type 0 where
  pub state : s ≡ q
  pub rises : least m < least m'
  pub apart : bit_and m m' ≡ 0

module _ {X : Type 0} where
  -- the second record may stand anywhere after the first
  abbrev pub Follows : Rec X → Rec X → Type 0
  Follows (rec s m x) (rec q m' y) = (s < q) ⊎ Sibling s m q m'

  -- ---- where the rule holds: the latest record decides the order, since the earlier ones stand before it
  -- the earlier records, the latest first: each follows those behind it
  abbrev Behind : List (Rec X) → Type 0
  Behind [] = Unit {0}
  Behind (p ∷ ps) = Each (λ q. Follows q p) ps × Behind ps

  after_latest : (q p t : Rec X) → Follows q p → precedes p t ≡ true → apart q t ≡ true → Follows q t
  after_latest (rec s m x) (rec r k y) (rec q m' z) f e a = go f (either (ltb r q) _ e)
    where
      share : s ≡ q → bit_and m m' ≡ 0
      share h = eqb-true (bit_and m m') 0 (drop-not (eqb s q) (eq-eqb s q h) a)
        where
          drop-not : (b : Bool) → b ≡ true → not b || eqb (bit_and m m') 0 ≡ true → eqb (bit_and m m') 0 ≡ true
          drop-not true i j = j
          drop-not false i j = absurd (false≢true i)

      go : (s < r) ⊎ Sibling s m r k → (ltb r q ≡ true) ⊎ (eqb r q && ltb (least k) (least m') ≡ true) → (s < q) ⊎ Sibling s m q m'
      go (inl h) (inl l) = let l' = ltb-true r q l in inl (omega arith)
      go (inl h) (inr l) = let l' = eqb-true r q (both (eqb r q) _ l).0 in inl (omega arith)
      go (inr h) (inl l) = let l' = ltb-true r q l in inl (omega (arith, h.state))
      go (inr h) (inr l) =
          let b = both (eqb r q) _ l in
          let same : s ≡ q = h.state ∙ eqb-true r q b.0 in
          let up : least k < least m' = ltb-true (least k) (least m') b.1 in
          let low : least m < least k = h.rises in
          inr (record { state = same; rises = omega arith; apart = share same })

  latest : (p t : Rec X) → precedes p t ≡ true → apart p t ≡ true → Follows p t
  latest (rec s m x) (rec q m' y) e a = go (either (ltb s q) _ e)
    where
      go : (ltb s q ≡ true) ⊎ (eqb s q && ltb (least m) (least m') ≡ true) → (s < q) ⊎ Sibling s m q m'
      go (inl l) = inl (ltb-true s q l)
      go (inr l) =
          let b = both (eqb s q) _ l in
          let same : s ≡ q = eqb-true s q b.0 in
          inr (record { state = same; rises = ltb-true (least m) (least m') b.1; apart = share (eqb s q) b.0 a })
        where
          share : (c : Bool) → c ≡ true → not c || eqb (bit_and m m') 0 ≡ true → bit_and m m' ≡ 0
          share true i j = eqb-true (bit_and m m') 0 j
          share false i j = absurd (false≢true i)

  fits_tells : (ps : List (Rec X)) (t : Rec X) → Behind ps → fits_after ps t ≡ true → Each (λ p. Follows p t) ps
  fits_tells [] t h e = tt
  fits_tells (p ∷ ps) t h e =
      let b = both (precedes p t) _ e in
      let a = passes-each (λ q. apart q t) (p ∷ ps) b.1 in
      (latest p t b.0 a.0, go ps h.0 a.1 b.0)
    where
      go : (qs : List (Rec X)) → Each (λ q. Follows q p) qs → Each (λ q. apart q t ≡ true) qs → precedes p t ≡ true → Each (λ q. Follows q t) qs
      go [] f a l = tt
      go (q ∷ qs) f a l = (after_latest q p t f.0 l a.0, go qs f.1 a.1 l)

  -- what follows each of the earlier ones, and strictly one another
  record Placed (ps ts : List (Rec X)) : Type 0 where
    behind : Each (λ p. Each (Follows p) ts) ps
    among : Strictly Follows ts

  clash_none : (ps ts : List (Rec X)) → Behind ps → first_clash ps ts ≡ length ts → Placed ps ts
  clash_none ps [] h e = record { behind = none ps; among = tt }
    where
      none : (qs : List (Rec X)) → Each (λ p. Unit {0}) qs
      none [] = tt
      none (q ∷ qs) = (tt, none qs)
  clash_none ps (t ∷ ts) h e =
      let r = step (fits_after ps t) (first_clash (t ∷ ps) ts) (length ts) e in
      let f = fits_tells ps t h r.0 in
      let later = clash_none (t ∷ ps) ts (f, h) r.1 in
      record { behind = join ps f later.behind.1; among = (later.behind.0, later.among) }
    where
      step : (b : Bool) (n m : ℕ) → cond b (suc n) 0 ≡ suc m → (b ≡ true) × (n ≡ m)
      step true n m k = (refl, omega arith)
      step false n m k = absurd (omega arith)

      join : (qs : List (Rec X)) → Each (λ p. Follows p t) qs → Each (λ p. Each (Follows p) ts) qs → Each (λ p. Each (Follows p) (t ∷ ts)) qs
      join [] f g = tt
      join (q ∷ qs) f g = ((f.0, g.0), join qs f.1 g.1)

  pub ordered_strictly : (ts : List (Rec X)) → ordered ts ≡ true → Strictly Follows ts
  unfolding ordered
  ordered_strictly ts h = (clash_none [] ts tt (eqb-true (first_clash [] ts) (length ts) h)).among

  -- ---- and the other way round
  precedes_of : (p t : Rec X) → Follows p t → precedes p t ≡ true
  precedes_of (rec s m x) (rec q m' y) (inl h) = rw (lt-ltb s q h)
  precedes_of (rec s m x) (rec q m' y) (inr h) = go (ltb s q)
    where
      go : (b : Bool) → b || (eqb s q && ltb (least m) (least m')) ≡ true
      go true = refl
      go false = rw (eq-eqb s q h.state, lt-ltb (least m) (least m') h.rises)

  apart_of : (p t : Rec X) → Follows p t → apart p t ≡ true
  apart_of (rec s m x) (rec q m' y) (inl h) = rw (ne_eqb s q (λ e. omega arith))
  apart_of (rec s m x) (rec q m' y) (inr h) = rw (eq-eqb s q h.state, eq-eqb (bit_and m m') 0 h.apart)

  fits_of : (ps : List (Rec X)) (t : Rec X) → Each (λ p. Follows p t) ps → fits_after ps t ≡ true
  fits_of [] t h = refl
  fits_of (p ∷ ps) t h =
      rw (precedes_of p t h.0) (each-passes (λ q. apart q t) (p ∷ ps) (each_map (λ q. Follows q t) (λ q. apart q t ≡ true) (λ q k. apart_of q t k) (p ∷ ps) h))

  no_clash : (ps ts : List (Rec X)) → Each (λ p. Each (Follows p) ts) ps → Strictly Follows ts → first_clash ps ts ≡ length ts
  no_clash ps [] h k = refl
  no_clash ps (t ∷ ts) h k =
      rw (fits_of ps t (each_map (λ p. Each (Follows p) (t ∷ ts)) (λ p. Follows p t) (λ p a. a.0) ps h))
      (ap suc (no_clash (t ∷ ps) ts (k.0, each_map (λ p. Each (Follows p) (t ∷ ts)) (λ p. Each (Follows p) ts) (λ p a. a.1) ps h) k.1))

  pub strictly_ordered : (ts : List (Rec X)) → Strictly Follows ts → ordered ts ≡ true
  unfolding ordered
  strictly_ordered ts h = eq-eqb (first_clash [] ts) (length ts) (no_clash [] ts tt h)

  -- ---- the records of one state: masks that share no choice, in order of least choice
  own-after : (q m : ℕ) (x : X) (ts : List (Rec X)) → Each (Follows (rec q m x)) ts → Apart m (own q ts) × Above (least m) (own q ts)
  own-after q m x [] h = (tt, tt)
  own-after q m x (rec s m' y ∷ ts) h = go (eqb s q) refl (own-after q m x ts h.1)
    where
      go : (b : Bool) → eqb s q ≡ b → Apart m (own q ts) × Above (least m) (own q ts)
          → Apart m (cond b (alt m' y ∷ own q ts) (own q ts)) × Above (least m) (cond b (alt m' y ∷ own q ts) (own q ts))
      go true e r = sibling h.0
        where
          sibling : (q < s) ⊎ Sibling q m s m' → Apart m (alt m' y ∷ own q ts) × Above (least m) (alt m' y ∷ own q ts)
          sibling (inl l) = absurd (omega (arith, eqb-true s q e))
          sibling (inr l) = ((never_of m m' l.apart, r.0), (l.rises, r.1))
      go false e r = r

  pub own-good : (q : ℕ) (ts : List (Rec X)) → Strictly Follows ts → Disjoint (own q ts) × Rising (own q ts)
  own-good q [] h = (tt, tt)
  own-good q (rec s m x ∷ ts) h = go (eqb s q) refl (own-good q ts h.1)
    where
      go : (b : Bool) → eqb s q ≡ b → Disjoint (own q ts) × Rising (own q ts) → Disjoint (cond b (alt m x ∷ own q ts) (own q ts)) × Rising (cond b (alt m x ∷ own q ts) (own q ts))
      go true e r =
          let same : s ≡ q = eqb-true s q e in
          let a : Apart m (own q ts) × Above (least m) (own q ts) = own-after q m x ts (rw same at h.0) in
          ((a.0, r.0), (a.1, r.1))
      go false e r = r
