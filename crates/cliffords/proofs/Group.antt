-- The numbers and the images determine each other, and the rule of the products is a group's: each law is a test that is computed over all elements,
-- or follows from one. Assumes nothing.
use mathlib.Core.Path.{◌≡◌, refl, sym, ap, ap₂, ◌∙◌}
use mathlib.Core.Bool.{Bool, true, false, cond, ◌&&◌, ◌||◌, not}
use mathlib.Core.List.{List, [], ◌∷◌}
use Prim.Native.Nat.{ℕ, ◌<◌}
use native.Mathlib.Omega.{arith}
use lib.Dec.{eqb, ltb}
use borrow.Author.Tests.{eqb-true, eq-eqb, ltb-true}
use Rattle.amplitude.proofs.Equal.{both}
use Rattle.cliffords.specs.Elements.{+X, +Z, line, changed, others, left, place_in, number, image_x, image_y, image_z, i_times, image, then, identity, elements_most}
use Rattle.cliffords.specs.Words.{H, S, element_of, from, comes_to}
use Rattle.cliffords.specs.Sequences.{inverse, first_back}
use Rattle.cliffords.proofs.Table.{every, at, every_two, at_two}

-- "The identity is 2, S is 10, H is 16, Z is 6": Z is S twice
pub numbered : ◌≡◌ {A = List ℕ} (identity ∷ element_of S ∷ element_of H ∷ comes_to (S ∷ S ∷ []) ∷ []) (2 ∷ 10 ∷ 16 ∷ 6 ∷ [])
unfolding changed others left place_in number image_x image_y image_z i_times image then from comes_to
numbered = refl

-- ---- one product
then_below : ℕ → ℕ → Bool
then_below p q = ltb (then p q) elements_most

all-below : every_two then_below elements_most elements_most ≡ true
unfolding then_below changed others left place_in number image_x image_y image_z i_times image then
all-below = refl

pub then-below : (p q : ℕ) → p < elements_most → q < elements_most → then p q < elements_most
unfolding then_below
then-below p q h k = ltb-true (then p q) elements_most (at_two then_below elements_most elements_most all-below p q h k)

-- the images of an element give its number back
number_back : ℕ → Bool
number_back e = eqb (number (image_x e) (image_z e)) e

all_back : every number_back 0 elements_most ≡ true
unfolding number_back changed others left place_in number image_x image_z
all_back = refl

pub number_images : (e : ℕ) → e < elements_most → number (image_x e) (image_z e) ≡ e
unfolding number_back
number_images e h = eqb-true (number (image_x e) (image_z e)) e (at number_back elements_most all_back e h)

-- two axes on different lines are the images of the element that they number
images_back : ℕ → ℕ → Bool
images_back x z = eqb (line x) (line z) || (ltb (number x z) elements_most && (eqb (image_x (number x z)) x && eqb (image_z (number x z)) z))

all_images : every_two images_back 6 6 ≡ true
unfolding images_back changed others left place_in number image_x image_z
all_images = refl

pub record Numbers (x z e : ℕ) : Type 0 where
  pub below : e < elements_most
  pub of_x : image_x e ≡ x
  pub of_z : image_z e ≡ z

or_right : (a b : Bool) → a ≡ false → a || b ≡ true → b ≡ true
or_right true b e t = absurd (let z : ◌≡◌ {A = ℕ} 0 1 = ap (λ (c : Bool). cond c 1 0) (sym e) in omega arith)
or_right false b e t = t

pub images_number : (x z : ℕ) → x < 6 → z < 6 → eqb (line x) (line z) ≡ false → Numbers x z (number x z)
unfolding images_back
images_number x z h k apart =
    let e = number x z in
    let r = or_right (eqb (line x) (line z)) _ apart (at_two images_back 6 6 all_images x z h k) in
    let p = both (ltb e elements_most) _ r in
    let q = both (eqb (image_x e) x) (eqb (image_z e) z) p.1 in
    record { below = ltb-true e elements_most p.0; of_x = eqb-true (image_x e) x q.0; of_z = eqb-true (image_z e) z q.1 }

-- ---- "composition of the images", for every axis
image_then : ℕ → ℕ → Bool
image_then p q = every (λ a. eqb (image (then p q) a) (image q (image p a)) && ltb (image p a) 6) 0 6

all_composed : every_two image_then elements_most elements_most ≡ true
unfolding image_then changed others left place_in number image_x image_y image_z i_times image then
all_composed = refl

module _ (p q : ℕ) (h : p < elements_most) (k : q < elements_most) where
  composed : (a : ℕ) → a < 6 → (eqb (image (then p q) a) (image q (image p a)) ≡ true) × (ltb (image p a) 6 ≡ true)
  unfolding image_then
  composed a l = both (eqb (image (then p q) a) (image q (image p a))) (ltb (image p a) 6) (at (λ b. eqb (image (then p q) b) (image q (image p b)) && ltb (image p b) 6) 6 (at_two image_then elements_most elements_most all_composed p q h k) a l)

  pub image-then : (a : ℕ) → a < 6 → image (then p q) a ≡ image q (image p a)
  image-then a l = eqb-true (image (then p q) a) (image q (image p a)) (composed a l).0

  pub image_axis : (a : ℕ) → a < 6 → image p a < 6
  image_axis a l = ltb-true (image p a) 6 (composed a l).1

-- an element is known by what it does to X and Z
image_xz : ℕ → Bool
image_xz e = eqb (image e +X) (image_x e) && eqb (image e +Z) (image_z e)

all-at-XZ : every image_xz 0 elements_most ≡ true
unfolding image_xz changed others left place_in number image_x image_y image_z i_times image
all-at-XZ = refl

pub known : (e : ℕ) → e < elements_most → e ≡ number (image e +X) (image e +Z)
unfolding image_xz
known e h =
    let p = both (eqb (image e +X) (image_x e)) (eqb (image e +Z) (image_z e)) (at image_xz elements_most all-at-XZ e h) in
    sym (number_images e h) ∙ ap₂ number (sym (eqb-true (image e +X) (image_x e) p.0)) (sym (eqb-true (image e +Z) (image_z e) p.1))

pub then_assoc : (p q r : ℕ) → p < elements_most → q < elements_most → r < elements_most → then (then p q) r ≡ then p (then q r)
then_assoc p q r h k l =
    let m = then-below p q h k in
    let n = then-below q r k l in
    let x : image (then (then p q) r) +X ≡ image (then p (then q r)) +X
    = image-then (then p q) r m l +X (omega arith) ∙ ap (image r) (image-then p q h k +X (omega arith))
    ∙ sym (image-then q r k l (image p +X) (image_axis p q h k +X (omega arith))) ∙ sym (image-then p (then q r) h n +X (omega arith)) in
    let z : image (then (then p q) r) +Z ≡ image (then p (then q r)) +Z
    = image-then (then p q) r m l +Z (omega arith) ∙ ap (image r) (image-then p q h k +Z (omega arith))
    ∙ sym (image-then q r k l (image p +Z) (image_axis p q h k +Z (omega arith))) ∙ sym (image-then p (then q r) h n +Z (omega arith)) in
    known (then (then p q) r) (then-below (then p q) r m l) ∙ ap₂ number x z ∙ sym (known (then p (then q r)) (then-below p (then q r) h n))

-- ---- the identity, and the closing element
units_test : ℕ → Bool
units_test p = eqb (then identity p) p && eqb (then p identity) p

all_units : every units_test 0 elements_most ≡ true
unfolding units_test changed others left place_in number image_x image_y image_z i_times image then
all_units = refl

pub then-identity : (p : ℕ) → p < elements_most → (then identity p ≡ p) × (then p identity ≡ p)
unfolding units_test
then-identity p h =
    let r = both (eqb (then identity p) p) (eqb (then p identity) p) (at units_test elements_most all_units p h) in
    (eqb-true (then identity p) p r.0, eqb-true (then p identity) p r.1)

inverse_test : ℕ → Bool
inverse_test p = ltb (inverse p) elements_most && eqb (then p (inverse p)) identity

all_inverses : every inverse_test 0 elements_most ≡ true
unfolding inverse_test inverse first_back changed others left place_in number image_x image_y image_z i_times image then
all_inverses = refl

-- the closing element is there ..
pub record Closes (p q : ℕ) : Type 0 where
  pub below : q < elements_most
  pub back : then p q ≡ identity

pub closes : (p : ℕ) → p < elements_most → Closes p (inverse p)
unfolding inverse_test
closes p h =
    let r = both (ltb (inverse p) elements_most) (eqb (then p (inverse p)) identity) (at inverse_test elements_most all_inverses p h) in
    record { below = ltb-true (inverse p) elements_most r.0; back = eqb-true (then p (inverse p)) identity r.1 }

only_test : ℕ → ℕ → Bool
only_test p q = not (eqb (then p q) identity) || eqb q (inverse p)

all_only : every_two only_test elements_most elements_most ≡ true
unfolding only_test inverse first_back changed others left place_in number image_x image_y image_z i_times image then
all_only = refl

-- .. and is the only one
pub only : (p q : ℕ) → p < elements_most → Closes p q → q ≡ inverse p
unfolding only_test
only p q h c =
    let e : not (eqb (then p q) identity) ≡ false = ap not (eq-eqb (then p q) identity c.back) in
    eqb-true q (inverse p) (or_right (not (eqb (then p q) identity)) (eqb q (inverse p)) e (at_two only_test elements_most elements_most all_only p q h c.below))
