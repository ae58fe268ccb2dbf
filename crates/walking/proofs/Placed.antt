-- A word in 21 places, with 0 in those that it does not use: choices written one after the other into places of zeros. Assumes nothing.
use mathlib.Core.Path.{◌≡◌, refl, sym, ap, ap₂, ◌∙◌}
use mathlib.Core.List.{List, [], ◌∷◌, ◌++◌}
use Prim.Native.Nat.{ℕ, zero, suc, ◌+◌, ◌-◌, ◌≤◌}
use native.Mathlib.Omega.{arith}
use lib.ListN.{length, set, take, replicate}
use Rattle.jobs.specs.Reply.{in_places, word_places}
use Rattle.walking.specs.Walk.{filled}

take-front : (k : ℕ) (w z : List ℕ) → length w ≡ k → take k (w ++ z) ≡ w
take-front zero [] z e = refl
take-front zero (c ∷ w) z e = absurd (omega arith)
take-front (suc k) [] z e = absurd (omega arith)
take-front (suc k) (c ∷ w) z e = ap (λ (v : List ℕ). c ∷ v) (take-front k w z (omega arith))

-- a word of all places stands in its places
pub in_places_lem : (w : List ℕ) → length w ≡ word_places → w ≡ in_places w
in_places_lem w e = sym (take-front word_places w (replicate word_places 0) e)

take_zeros : (k z : ℕ) → k ≤ z → take {A = ℕ} k (replicate z 0) ≡ replicate k 0
take_zeros zero z h = refl
take_zeros (suc k) zero h = absurd (omega arith)
take_zeros (suc k) (suc z) h = ap (λ (v : List ℕ). 0 ∷ v) (take_zeros k z (omega arith))

take_padded : (k z : ℕ) (w : List ℕ) → length w ≤ k → k ≤ z → take k (w ++ replicate z 0) ≡ w ++ replicate (k - length w) 0
take_padded k z [] h l = let e : k ≡ k - 0 = omega arith in take_zeros k z l ∙ ap (λ (i : ℕ). replicate i 0) e
take_padded zero z (c ∷ w) h l = absurd (omega arith)
take_padded (suc k) z (c ∷ w) h l =
    let e : k - length w ≡ suc k - suc (length w) = omega arith in
    ap (λ (v : List ℕ). c ∷ v) (take_padded k z w (omega arith) (omega arith) ∙ ap (λ (i : ℕ). w ++ replicate i 0) e)

-- ---- choices written one after the other
set_after : (pre : List ℕ) (x c : ℕ) (z : List ℕ) → set (pre ++ (x ∷ z)) (length pre) c ≡ (pre ++ (c ∷ [])) ++ z
set_after [] x c z = refl
set_after (a ∷ pre) x c z = ap (λ (v : List ℕ). a ∷ v) (set_after pre x c z)

together : (pre : List ℕ) (c : ℕ) (z : List ℕ) → (pre ++ (c ∷ [])) ++ z ≡ pre ++ (c ∷ z)
together [] c z = refl
together (a ∷ pre) c z = ap (λ (v : List ℕ). a ∷ v) (together pre c z)

long-one : (pre : List ℕ) (c : ℕ) → length (pre ++ (c ∷ [])) ≡ length pre + 1
long-one [] c = refl
long-one (a ∷ pre) c = omega (arith, long-one pre c)

fill-after : (w pre : List ℕ) (k : ℕ) → filled (pre ++ replicate (length w + k) 0) (length pre) w ≡ pre ++ (w ++ replicate k 0)
unfolding filled
fill-after [] pre k = let e : 0 + k ≡ k = omega arith in ap (λ (i : ℕ). pre ++ replicate i 0) e
fill-after (c ∷ w) pre k =
    let e : length (c ∷ w) + k ≡ suc (length w + k) = omega arith in
    ap (λ (i : ℕ). filled (set (pre ++ replicate i 0) (length pre) c) (length pre + 1) w) e
    ∙ ap₂ (λ (u : List ℕ) (i : ℕ). filled u i w) (set_after pre 0 c (replicate (length w + k) 0)) (sym (long-one pre c))
    ∙ fill-after w (pre ++ (c ∷ [])) k
    ∙ together pre c (w ++ replicate k 0)

-- the places of a word written into zeros
pub fill_zeros : (w : List ℕ) → length w ≤ word_places → filled (replicate word_places 0) 0 w ≡ w ++ replicate (word_places - length w) 0
fill_zeros w h =
    let e : word_places ≡ length w + (word_places - length w) = omega arith in
    ap (λ (i : ℕ). filled (replicate i 0) 0 w) e ∙ fill-after w [] (word_places - length w)

pub placed : (w : List ℕ) → length w ≤ word_places → filled (replicate word_places 0) 0 w ≡ in_places w
placed w h = fill_zeros w h ∙ sym (take_padded word_places word_places w h (omega arith))

-- and it is read back from its first places
pub read_back : (w : List ℕ) (k : ℕ) → length w ≡ k → k ≤ word_places → take k (filled (replicate word_places 0) 0 w) ≡ w
read_back w k e h = ap (take k) (fill_zeros w (omega arith)) ∙ take-front k w (replicate (word_places - length w) 0) e
