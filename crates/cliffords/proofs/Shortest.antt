-- "shortest first, H before S among equals": no word that comes to an element, of any length, stands before the element's own. Up to six letters that
-- is computed over all words, and an element's word has no more. Assumes nothing.
use mathlib.Core.Path.{◌≡◌, refl, ap, ◌∙◌}
use mathlib.Core.Bool.{Bool, true, false, ◌&&◌, ◌||◌}
use mathlib.Core.List.Memᴰ
use mathlib.Core.List.{List, [], ◌∷◌, ◌++◌, map, Memᴰ}
use Prim.Native.Nat.{ℕ, zero, suc, ◌<◌, ◌≤◌}
use native.Mathlib.Omega.{arith}
use lib.Dec.{eqb, ltb, leb}
use lib.ListN.{length, get_or}
use borrow.Author.Tests.{eqb-true, eqb-false, leb-true, leb-false, lt-ltb}
use Rattle.amplitude.proofs.Equal.{both}
use Rattle.automata.proofs.Lists.{map_mem}
use Rattle.cliffords.specs.Elements.{changed, others, left, place_in, number, image_x, image_y, image_z, i_times, image, then, identity, elements_most}
use Rattle.cliffords.specs.Words.{Letter, H, S, element_of, from, comes_to, words_of, words_to, letters_most, word_of}
use Rattle.cliffords.proofs.Group.{then-below, then-identity}
use Rattle.cliffords.proofs.Spelling.{words, word_is, word_added, word_short}
use Rattle.cliffords.proofs.Returns.{letter-below, identity-below}

-- of two words of one length: H before S at the first letter in which they differ
unfoldable pub in_order : List Letter → List Letter → Bool
in_order [] w = true
in_order (l ∷ v) [] = true
in_order (H ∷ v) (H ∷ w) = in_order v w
in_order (H ∷ v) (S ∷ w) = true
in_order (S ∷ v) (H ∷ w) = false
in_order (S ∷ v) (S ∷ w) = in_order v w

unfoldable pub not_after : List Letter → List Letter → Bool
not_after v w = ltb (length v) (length w) || (eqb (length v) (length w) && in_order v w)

-- ---- every word of up to six letters is among those that are tried
among : (n : ℕ) (w : List Letter) → length w ≡ n → Memᴰ w (words_of n)
unfolding words_of
among zero [] e = Memᴰ.head refl
among zero (l ∷ w) e = absurd (omega arith)
among (suc n) [] e = absurd (omega arith)
among (suc n) (H ∷ w) e = Memᴰ.append_left (map (λ v. S ∷ v) (words_of n)) (map_mem (λ v. H ∷ v) (among n w (omega arith)))
among (suc n) (S ∷ w) e = Memᴰ.append_right (map (λ v. H ∷ v) (words_of n)) (map_mem (λ v. S ∷ v) (among n w (omega arith)))

tried : (n : ℕ) (w : List Letter) → length w ≤ n → Memᴰ w (words_to n)
unfolding words_to
tried zero w h = among zero w (omega arith)
tried (suc n) w h = go (eqb (length w) (suc n)) refl (tried n w)
  where
    go : (b : Bool) → eqb (length w) (suc n) ≡ b → (length w ≤ n → Memᴰ w (words_to n)) → Memᴰ w (words_to n ++ words_of (suc n))
    go true e ih = Memᴰ.append_right (words_to n) (among (suc n) w (eqb-true (length w) (suc n) e))
    go false e ih = Memᴰ.append_left (words_of (suc n)) (ih (omega (arith, eqb-false (length w) (suc n) e)))

-- ---- the test
first : List Letter → Bool
first w = not_after (get_or words (comes_to w) []) w

all_first : List (List Letter) → Bool
all_first [] = true
all_first (w ∷ ws) = first w && all_first ws

all_first_lem : all_first (words_to letters_most) ≡ true
unfolding all_first first not_after in_order words_to words_of comes_to from changed others left place_in number image_x image_y image_z i_times image then
all_first_lem = refl

first_of : (ws : List (List Letter)) → all_first ws ≡ true → {w : List Letter} → Memᴰ w ws → first w ≡ true
unfolding all_first
first_of [] t {w = w} x'' = elim x'' [ ]
first_of (v ∷ ws) t (Memᴰ.head e) = ap first e ∙ (both (first v) (all_first ws) t).0
first_of (v ∷ ws) t (Memᴰ.tail m) = first_of ws (both (first v) (all_first ws) t).1 m

-- ---- any word
from-below : (w : List Letter) (p : ℕ) → p < elements_most → from p w < elements_most
unfolding from
from-below [] p h = h
from-below (l ∷ w) p h = from-below w (then p (element_of l)) (then-below p (element_of l) h (letter-below l))

pub comes_below : (w : List Letter) → comes_to w < elements_most
unfolding comes_to
comes_below w = from-below w identity identity-below

pub word_comes : (e : ℕ) → e < elements_most → comes_to (word_of e) ≡ e
unfolding comes_to
word_comes e h = word_added identity e identity-below h ∙ (then-identity e h).0

-- shorter than a word of more than six letters
shorter : (v w : List Letter) → length v < length w → not_after v w ≡ true
unfolding not_after
shorter v w h = ap (λ (b : Bool). b || (eqb (length v) (length w) && in_order v w)) (lt-ltb (length v) (length w) h)

pub shortest : (w : List Letter) → not_after (word_of (comes_to w)) w ≡ true
unfolding first
shortest w = go (leb (length w) letters_most) refl
  where
    go : (b : Bool) → leb (length w) letters_most ≡ b → not_after (word_of (comes_to w)) w ≡ true
    go true e =
        ap (λ (v : List Letter). not_after v w) (word_is (comes_to w) (comes_below w))
        ∙ first_of (words_to letters_most) all_first_lem (tried letters_most w (leb-true (length w) letters_most e))
    go false e =
        shorter (word_of (comes_to w)) w
        (omega (arith, leb-false (length w) letters_most e, word_short identity (comes_to w) identity-below (comes_below w)))
