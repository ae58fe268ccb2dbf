-- Alternatives in order: sorted by least choice they strictly rise, because masks that share no choice have different least ones. Assumes nothing.
use mathlib.Core.Path.{◌≡◌, refl}
use mathlib.Core.Bool.{Bool, true, false, cond}
use mathlib.Core.List.{List, [], ◌∷◌, ◌++◌}
use Prim.Native.Nat.{ℕ, ◌^◌, ◌<◌, ◌≤◌}
use native.Mathlib.Omega.{arith}
use lib.Dec.{eqb, ltb}
use lib.Bits.{bit_and, and_le_l}
use borrow.Author.Tests.{eqb-false, ltb-true, ltb-false}
use Rattle.automata.specs.Choice.{least, Alt, alt, insert, sorted, map_alt, meet_one, meets, together}
use Rattle.automata.proofs.Masks.{Mask, least-apart}
use Rattle.automata.proofs.Choosing.{Apart, Disjoint, disjoint-meets, apart-sorted}

module _ {X : Type 0} where
  -- every mask is a 32-bit mask that is not empty
  abbrev pub Masked : List (Alt X) → Type 0
  Masked [] = Unit {0}
  Masked (alt m x ∷ us) = Mask m × Masked us

  -- every least choice is above c
  abbrev pub Above : ℕ → List (Alt X) → Type 0
  Above c [] = Unit {0}
  Above c (alt m x ∷ us) = (c < least m) × Above c us

  -- "strictly increase .. by least choice"
  abbrev pub Rising : List (Alt X) → Type 0
  Rising [] = Unit {0}
  Rising (alt m x ∷ us) = Above (least m) us × Rising us

  pub above_less : (c d : ℕ) (us : List (Alt X)) → c ≤ d → Above d us → Above c us
  above_less c d [] h a = tt
  above_less c d (alt m x ∷ us) h a = let l : d < least m = a.0 in (omega arith, above_less c d us h a.1)

  masked-insert : (m : ℕ) (x : X) (us : List (Alt X)) → Mask m → Masked us → Masked (insert (alt m x) us)
  masked-insert m x [] h k = (h, tt)
  masked-insert m x (alt m' y ∷ us) h k = go (ltb (least m) (least m')) (masked-insert m x us h k.1)
    where
      go : (b : Bool) → Masked (insert (alt m x) us) → Masked (cond b (alt m x ∷ alt m' y ∷ us) (alt m' y ∷ insert (alt m x) us))
      go true r = (h, k)
      go false r = (k.0, r)

  masked-sorted : (us : List (Alt X)) → Masked us → Masked (sorted us)
  masked-sorted [] h = tt
  masked-sorted (alt m x ∷ us) h = masked-insert m x (sorted us) h.0 (masked-sorted us h.1)

  above_insert : (c m : ℕ) (x : X) (us : List (Alt X)) → c < least m → Above c us → Above c (insert (alt m x) us)
  above_insert c m x [] h a = (h, tt)
  above_insert c m x (alt m' y ∷ us) h a = go (ltb (least m) (least m')) (above_insert c m x us h a.1)
    where
      go : (b : Bool) → Above c (insert (alt m x) us) → Above c (cond b (alt m x ∷ alt m' y ∷ us) (alt m' y ∷ insert (alt m x) us))
      go true r = (h, a)
      go false r = (a.0, r)

  rising-insert : (m : ℕ) (x : X) (us : List (Alt X)) → Mask m → Masked us → Apart m us → Rising us → Rising (insert (alt m x) us)
  rising-insert m x [] h k d r = (tt, tt)
  rising-insert m x (alt m' y ∷ us) h k d r = go (ltb (least m) (least m')) refl (rising-insert m x us h k.1 d.1 r.1)
    where
      go : (b : Bool) → ltb (least m) (least m') ≡ b → Rising (insert (alt m x) us) → Rising (cond b (alt m x ∷ alt m' y ∷ us) (alt m' y ∷ insert (alt m x) us))
      go true e q = let l : least m < least m' = ltb-true (least m) (least m') e in ((l, above_less (least m) (least m') us (omega arith) r.0), r)
      go false e q =
          let l : least m' ≤ least m = ltb-false (least m) (least m') e in
          let f : least m ≡ least m' → ⊥ = least-apart m m' h k.0 d.0 in
          (above_insert (least m') m x us (omega (arith, f)) r.0, q)

  pub rising-sorted : (us : List (Alt X)) → Masked us → Disjoint us → Rising (sorted us)
  rising-sorted [] h d = tt
  rising-sorted (alt m x ∷ us) h d =
      rising-insert m x (sorted us) h.0 (masked-sorted us h.1) (apart-sorted m us d.0) (rising-sorted us h.1 d.1)

module _ {X Y : Type 0} (f : X → Y) where
  pub masked-map : (us : List (Alt X)) → Masked us → Masked (map_alt f us)
  masked-map [] h = tt
  masked-map (alt m x ∷ us) h = (h.0, masked-map us h.1)

  above_map : (c : ℕ) (us : List (Alt X)) → Above c us → Above c (map_alt f us)
  above_map c [] h = tt
  above_map c (alt m x ∷ us) h = (h.0, above_map c us h.1)

  pub rising-map : (us : List (Alt X)) → Rising us → Rising (map_alt f us)
  rising-map [] h = tt
  rising-map (alt m x ∷ us) h = (above_map (least m) us h.0, rising-map us h.1)

module _ {X Y Z : Type 0} (f : X → Y → Z) where
  masked-front : (m : ℕ) (x : X) (vs : List (Alt Y)) (rest : List (Alt Z)) → m < 2 ^ 32 → Masked rest → Masked (meet_one f m x vs ++ rest)
  masked-front m x [] rest h r = r
  masked-front m x (alt m' y ∷ vs) rest h r = go (eqb (bit_and m m') 0) refl (masked-front m x vs rest h r)
    where
      go : (b : Bool) → eqb (bit_and m m') 0 ≡ b → Masked (meet_one f m x vs ++ rest) → Masked (cond b (meet_one f m x vs) (alt (bit_and m m') (f x y) ∷ meet_one f m x vs) ++ rest)
      go true e q = q
      go false e q = (record { some = omega (arith, eqb-false (bit_and m m') 0 e); small = omega (arith, and_le_l m m') }, q)

  pub masked-meets : (us : List (Alt X)) (vs : List (Alt Y)) → Masked us → Masked (meets f us vs)
  masked-meets [] vs h = tt
  masked-meets (alt m x ∷ us) vs h = masked-front m x vs (meets f us vs) h.0.small (masked-meets us vs h.1)

  pub masked-together : (us : List (Alt X)) (vs : List (Alt Y)) → Masked us → Masked (together f us vs)
  masked-together us vs h = masked-sorted (meets f us vs) (masked-meets us vs h)

  pub rising-together : (us : List (Alt X)) (vs : List (Alt Y)) → Masked us → Disjoint us → Disjoint vs → Rising (together f us vs)
  rising-together us vs h d e = rising-sorted (meets f us vs) (masked-meets us vs h) (disjoint-meets f us vs d e)
