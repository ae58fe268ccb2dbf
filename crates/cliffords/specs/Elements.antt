-- Document 02, request 10: the 24 elements, numbered by the images of X and Z under U P U†, and one played after another.
use Rattle.std.specs.Prelude.{cond, List, [], ◌∷◌, ℕ, suc, ◌+◌, ◌*◌, ◌-◌, ◌/◌, ◌%◌, get_or, eqb}

-- "+X, −X, +Y, −Y, +Z, −Z (i from 0)": an axis is its place in this order
abbrev pub axes : List ℕ
axes = 0 ∷ 1 ∷ 2 ∷ 3 ∷ 4 ∷ 5 ∷ []

abbrev pub +X : ℕ
+X = 0

abbrev pub +Y : ℕ
+Y = 2

abbrev pub +Z : ℕ
+Z = 4

-- 0 for X, 1 for Y, 2 for Z, whatever the sign; 1 for a minus
abbrev pub line : ℕ → ℕ
line a = a / 2

abbrev pub sign : ℕ → ℕ
sign a = a % 2

-- the axis with its sign changed so many times
unfoldable pub changed : ℕ → ℕ → ℕ
changed s a = 2 * line a + (s + sign a) % 2

-- "one of the four axes left, in that order": those on another line
unfoldable pub others : ℕ → List ℕ → List ℕ
others x [] = []
others x (a ∷ rest) = cond (eqb (line a) (line x)) (others x rest) (a ∷ others x rest)

unfoldable pub left : ℕ → List ℕ
left x = others x axes

unfoldable pub place_in : ℕ → List ℕ → ℕ
place_in z [] = 0
place_in z (a ∷ rest) = cond (eqb z a) 0 (suc (place_in z rest))

-- "the number is 4i+j": from the images of X and Z, and back to each
unfoldable pub number : ℕ → ℕ → ℕ
number x z = 4 * x + place_in z (left x)

unfoldable pub image_x : ℕ → ℕ
image_x e = e / 4

unfoldable pub image_z : ℕ → ℕ
image_z e = get_or (left (e / 4)) (e % 4) 0

-- "Y = iXZ": i times the product of two axes is the axis on the third line, with a minus where the lines follow each other as X, Y, Z, X do
unfoldable pub i_times : ℕ → ℕ → ℕ
i_times p q = changed (sign p + sign q + cond (eqb ((line p + 1) % 3) (line q)) 1 0) (2 * (3 - line p - line q))

unfoldable pub image_y : ℕ → ℕ
image_y e = i_times (image_x e) (image_z e)

-- the image of any axis
unfoldable pub image : ℕ → ℕ → ℕ
image e a = changed (sign a) (get_or (image_x e ∷ image_y e ∷ image_z e ∷ []) (line a) 0)

-- "row p, column q is p played first, then q": "composition of the images"
unfoldable pub then : ℕ → ℕ → ℕ
then p q = number (image q (image_x p)) (image q (image_z p))

-- "The identity is 2", and elements are below 24
abbrev pub identity : ℕ
identity = number +X +Z

abbrev pub elements_most : ℕ
elements_most = 24
