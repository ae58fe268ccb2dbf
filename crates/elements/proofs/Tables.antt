-- The rules of the tables: each is one test, computed over the whole table, and a law that turns the test into the rule at each entry. The lists below
-- are the code's constants: where one of them differs, the proofs of the functions that read it do not go through. Assumes nothing.
use mathlib.Core.Path.{◌≡◌, refl, sym, ap, ◌∙◌}
use mathlib.Core.Bool.{Bool, true, ◌&&◌}
use mathlib.Core.List.{List, [], ◌∷◌, ◌++◌, map}
use Prim.Native.Nat.{ℕ, ◌+◌, ◌*◌, ◌<◌, ◌≤◌}
use lib.Dec.{eqb, leb}
use lib.ListN.{length, get_or, take, drop}
use lib.Seq.{take-length}
use borrow.Author.Tests.{eqb-true, leb-true}
use Rattle.amplitude.proofs.Equal.{both}
use Rattle.automata.specs.Members.{up_to}
use Rattle.cliffords.specs.Elements.{changed, others, left, place_in, number, image_x, image_y, image_z, i_times, image, then, elements_most}
use Rattle.cliffords.specs.Words.{from, comes_to, words_of, words_to, first_to, word_of, codes_of, letters_most}
use Rattle.cliffords.proofs.Table.{every, at, every_two, at_two, listed}

abbrev pub products : List ℕ
products =
    3 ∷ 2 ∷ 0 ∷ 1 ∷ 6 ∷ 7 ∷ 5 ∷ 4 ∷ 10 ∷ 11 ∷ 9 ∷ 8 ∷ 15 ∷ 14 ∷ 12 ∷ 13 ∷ 19 ∷ 18 ∷ 16 ∷ 17 ∷ 22 ∷ 23 ∷ 21 ∷ 20 ∷
    2 ∷ 3 ∷ 1 ∷ 0 ∷ 7 ∷ 6 ∷ 4 ∷ 5 ∷ 11 ∷ 10 ∷ 8 ∷ 9 ∷ 14 ∷ 15 ∷ 13 ∷ 12 ∷ 18 ∷ 19 ∷ 17 ∷ 16 ∷ 23 ∷ 22 ∷ 20 ∷ 21 ∷
    0 ∷ 1 ∷ 2 ∷ 3 ∷ 4 ∷ 5 ∷ 6 ∷ 7 ∷ 8 ∷ 9 ∷ 10 ∷ 11 ∷ 12 ∷ 13 ∷ 14 ∷ 15 ∷ 16 ∷ 17 ∷ 18 ∷ 19 ∷ 20 ∷ 21 ∷ 22 ∷ 23 ∷
    1 ∷ 0 ∷ 3 ∷ 2 ∷ 5 ∷ 4 ∷ 7 ∷ 6 ∷ 9 ∷ 8 ∷ 11 ∷ 10 ∷ 13 ∷ 12 ∷ 15 ∷ 14 ∷ 17 ∷ 16 ∷ 19 ∷ 18 ∷ 21 ∷ 20 ∷ 23 ∷ 22 ∷
    7 ∷ 6 ∷ 4 ∷ 5 ∷ 2 ∷ 3 ∷ 1 ∷ 0 ∷ 14 ∷ 15 ∷ 13 ∷ 12 ∷ 11 ∷ 10 ∷ 8 ∷ 9 ∷ 23 ∷ 22 ∷ 20 ∷ 21 ∷ 18 ∷ 19 ∷ 17 ∷ 16 ∷
    6 ∷ 7 ∷ 5 ∷ 4 ∷ 3 ∷ 2 ∷ 0 ∷ 1 ∷ 15 ∷ 14 ∷ 12 ∷ 13 ∷ 10 ∷ 11 ∷ 9 ∷ 8 ∷ 22 ∷ 23 ∷ 21 ∷ 20 ∷ 19 ∷ 18 ∷ 16 ∷ 17 ∷
    4 ∷ 5 ∷ 6 ∷ 7 ∷ 0 ∷ 1 ∷ 2 ∷ 3 ∷ 12 ∷ 13 ∷ 14 ∷ 15 ∷ 8 ∷ 9 ∷ 10 ∷ 11 ∷ 20 ∷ 21 ∷ 22 ∷ 23 ∷ 16 ∷ 17 ∷ 18 ∷ 19 ∷
    5 ∷ 4 ∷ 7 ∷ 6 ∷ 1 ∷ 0 ∷ 3 ∷ 2 ∷ 13 ∷ 12 ∷ 15 ∷ 14 ∷ 9 ∷ 8 ∷ 11 ∷ 10 ∷ 21 ∷ 20 ∷ 23 ∷ 22 ∷ 17 ∷ 16 ∷ 19 ∷ 18 ∷
    20 ∷ 16 ∷ 8 ∷ 12 ∷ 17 ∷ 21 ∷ 13 ∷ 9 ∷ 18 ∷ 22 ∷ 4 ∷ 0 ∷ 23 ∷ 19 ∷ 1 ∷ 5 ∷ 14 ∷ 10 ∷ 2 ∷ 6 ∷ 11 ∷ 15 ∷ 7 ∷ 3 ∷
    21 ∷ 17 ∷ 9 ∷ 13 ∷ 16 ∷ 20 ∷ 12 ∷ 8 ∷ 19 ∷ 23 ∷ 5 ∷ 1 ∷ 22 ∷ 18 ∷ 0 ∷ 4 ∷ 15 ∷ 11 ∷ 3 ∷ 7 ∷ 10 ∷ 14 ∷ 6 ∷ 2 ∷
    22 ∷ 19 ∷ 10 ∷ 15 ∷ 18 ∷ 23 ∷ 14 ∷ 11 ∷ 16 ∷ 21 ∷ 6 ∷ 3 ∷ 20 ∷ 17 ∷ 2 ∷ 7 ∷ 12 ∷ 9 ∷ 0 ∷ 5 ∷ 8 ∷ 13 ∷ 4 ∷ 1 ∷
    23 ∷ 18 ∷ 11 ∷ 14 ∷ 19 ∷ 22 ∷ 15 ∷ 10 ∷ 17 ∷ 20 ∷ 7 ∷ 2 ∷ 21 ∷ 16 ∷ 3 ∷ 6 ∷ 13 ∷ 8 ∷ 1 ∷ 4 ∷ 9 ∷ 12 ∷ 5 ∷ 0 ∷
    16 ∷ 20 ∷ 12 ∷ 8 ∷ 21 ∷ 17 ∷ 9 ∷ 13 ∷ 22 ∷ 18 ∷ 0 ∷ 4 ∷ 19 ∷ 23 ∷ 5 ∷ 1 ∷ 10 ∷ 14 ∷ 6 ∷ 2 ∷ 15 ∷ 11 ∷ 3 ∷ 7 ∷
    17 ∷ 21 ∷ 13 ∷ 9 ∷ 20 ∷ 16 ∷ 8 ∷ 12 ∷ 23 ∷ 19 ∷ 1 ∷ 5 ∷ 18 ∷ 22 ∷ 4 ∷ 0 ∷ 11 ∷ 15 ∷ 7 ∷ 3 ∷ 14 ∷ 10 ∷ 2 ∷ 6 ∷
    18 ∷ 23 ∷ 14 ∷ 11 ∷ 22 ∷ 19 ∷ 10 ∷ 15 ∷ 20 ∷ 17 ∷ 2 ∷ 7 ∷ 16 ∷ 21 ∷ 6 ∷ 3 ∷ 8 ∷ 13 ∷ 4 ∷ 1 ∷ 12 ∷ 9 ∷ 0 ∷ 5 ∷
    19 ∷ 22 ∷ 15 ∷ 10 ∷ 23 ∷ 18 ∷ 11 ∷ 14 ∷ 21 ∷ 16 ∷ 3 ∷ 6 ∷ 17 ∷ 20 ∷ 7 ∷ 2 ∷ 9 ∷ 12 ∷ 5 ∷ 0 ∷ 13 ∷ 8 ∷ 1 ∷ 4 ∷
    8 ∷ 12 ∷ 16 ∷ 20 ∷ 9 ∷ 13 ∷ 17 ∷ 21 ∷ 0 ∷ 4 ∷ 18 ∷ 22 ∷ 1 ∷ 5 ∷ 19 ∷ 23 ∷ 2 ∷ 6 ∷ 10 ∷ 14 ∷ 3 ∷ 7 ∷ 11 ∷ 15 ∷
    9 ∷ 13 ∷ 17 ∷ 21 ∷ 8 ∷ 12 ∷ 16 ∷ 20 ∷ 1 ∷ 5 ∷ 19 ∷ 23 ∷ 0 ∷ 4 ∷ 18 ∷ 22 ∷ 3 ∷ 7 ∷ 11 ∷ 15 ∷ 2 ∷ 6 ∷ 10 ∷ 14 ∷
    11 ∷ 14 ∷ 18 ∷ 23 ∷ 10 ∷ 15 ∷ 19 ∷ 22 ∷ 2 ∷ 7 ∷ 17 ∷ 20 ∷ 3 ∷ 6 ∷ 16 ∷ 21 ∷ 1 ∷ 4 ∷ 8 ∷ 13 ∷ 0 ∷ 5 ∷ 9 ∷ 12 ∷
    10 ∷ 15 ∷ 19 ∷ 22 ∷ 11 ∷ 14 ∷ 18 ∷ 23 ∷ 3 ∷ 6 ∷ 16 ∷ 21 ∷ 2 ∷ 7 ∷ 17 ∷ 20 ∷ 0 ∷ 5 ∷ 9 ∷ 12 ∷ 1 ∷ 4 ∷ 8 ∷ 13 ∷
    12 ∷ 8 ∷ 20 ∷ 16 ∷ 13 ∷ 9 ∷ 21 ∷ 17 ∷ 4 ∷ 0 ∷ 22 ∷ 18 ∷ 5 ∷ 1 ∷ 23 ∷ 19 ∷ 6 ∷ 2 ∷ 14 ∷ 10 ∷ 7 ∷ 3 ∷ 15 ∷ 11 ∷
    13 ∷ 9 ∷ 21 ∷ 17 ∷ 12 ∷ 8 ∷ 20 ∷ 16 ∷ 5 ∷ 1 ∷ 23 ∷ 19 ∷ 4 ∷ 0 ∷ 22 ∷ 18 ∷ 7 ∷ 3 ∷ 15 ∷ 11 ∷ 6 ∷ 2 ∷ 14 ∷ 10 ∷
    15 ∷ 10 ∷ 22 ∷ 19 ∷ 14 ∷ 11 ∷ 23 ∷ 18 ∷ 6 ∷ 3 ∷ 21 ∷ 16 ∷ 7 ∷ 2 ∷ 20 ∷ 17 ∷ 5 ∷ 0 ∷ 12 ∷ 9 ∷ 4 ∷ 1 ∷ 13 ∷ 8 ∷
    14 ∷ 11 ∷ 23 ∷ 18 ∷ 15 ∷ 10 ∷ 22 ∷ 19 ∷ 7 ∷ 2 ∷ 20 ∷ 17 ∷ 6 ∷ 3 ∷ 21 ∷ 16 ∷ 4 ∷ 1 ∷ 13 ∷ 8 ∷ 5 ∷ 0 ∷ 12 ∷ 9 ∷ []

abbrev pub codes : List ℕ
codes =
    5 ∷ 4 ∷ 5 ∷ 0 ∷ 0 ∷ 0 ∷ 4 ∷ 5 ∷ 4 ∷ 0 ∷ 0 ∷ 0 ∷ 0 ∷ 0 ∷ 0 ∷ 0 ∷ 0 ∷ 0 ∷ 4 ∷ 5 ∷ 5 ∷ 4 ∷ 0 ∷ 0 ∷
    4 ∷ 5 ∷ 4 ∷ 5 ∷ 5 ∷ 0 ∷ 5 ∷ 4 ∷ 5 ∷ 5 ∷ 5 ∷ 0 ∷ 5 ∷ 5 ∷ 0 ∷ 0 ∷ 0 ∷ 0 ∷ 4 ∷ 5 ∷ 5 ∷ 4 ∷ 5 ∷ 5 ∷
    4 ∷ 5 ∷ 4 ∷ 5 ∷ 0 ∷ 0 ∷ 5 ∷ 4 ∷ 5 ∷ 5 ∷ 0 ∷ 0 ∷ 5 ∷ 0 ∷ 0 ∷ 0 ∷ 0 ∷ 0 ∷ 4 ∷ 5 ∷ 5 ∷ 4 ∷ 5 ∷ 0 ∷
    5 ∷ 4 ∷ 0 ∷ 0 ∷ 0 ∷ 0 ∷ 4 ∷ 5 ∷ 4 ∷ 5 ∷ 5 ∷ 5 ∷ 5 ∷ 5 ∷ 5 ∷ 0 ∷ 0 ∷ 0 ∷ 5 ∷ 4 ∷ 5 ∷ 5 ∷ 4 ∷ 0 ∷
    4 ∷ 0 ∷ 0 ∷ 0 ∷ 0 ∷ 0 ∷ 4 ∷ 5 ∷ 5 ∷ 0 ∷ 0 ∷ 0 ∷ 4 ∷ 5 ∷ 0 ∷ 0 ∷ 0 ∷ 0 ∷ 4 ∷ 5 ∷ 5 ∷ 5 ∷ 0 ∷ 0 ∷
    5 ∷ 5 ∷ 4 ∷ 0 ∷ 0 ∷ 0 ∷ 5 ∷ 5 ∷ 4 ∷ 5 ∷ 5 ∷ 0 ∷ 5 ∷ 5 ∷ 4 ∷ 5 ∷ 0 ∷ 0 ∷ 4 ∷ 5 ∷ 4 ∷ 5 ∷ 5 ∷ 4 ∷ []

abbrev pub letters : List ℕ
letters = 3 ∷ 3 ∷ 0 ∷ 4 ∷ 5 ∷ 5 ∷ 2 ∷ 6 ∷ 4 ∷ 4 ∷ 1 ∷ 5 ∷ 2 ∷ 6 ∷ 3 ∷ 5 ∷ 1 ∷ 3 ∷ 2 ∷ 4 ∷ 3 ∷ 5 ∷ 4 ∷ 6 ∷ []

-- ---- "whose rule is composition of the images; row p, column q is p played first, then q"
product_right : ℕ → ℕ → Bool
product_right p q = eqb (get_or products (p * 24 + q) 0) (then p q)

products_right : every_two product_right elements_most elements_most ≡ true
unfolding product_right changed others left place_in number image_x image_y image_z i_times image then
products_right = refl

pub product_rule : (p q : ℕ) → p < elements_most → q < elements_most → get_or products (p * 24 + q) 0 ≡ then p q
unfolding product_right
product_rule p q h k = eqb-true (get_or products (p * 24 + q) 0) (then p q) (at_two product_right elements_most elements_most products_right p q h k)

-- ---- the letters of each word are those of the first word that comes to its element
word_at : ℕ → List ℕ
word_at e = take (get_or letters e 0) (drop (e * 6) codes)

words_right : map word_at (up_to 0 elements_most) ≡ map codes_of (up_to 0 elements_most)
unfolding word_at codes_of word_of first_to words_to words_of comes_to from changed others left place_in number image_x image_y image_z i_times image then
words_right = refl

letters_right : ℕ → Bool
letters_right e = eqb (get_or letters e 0) (length (codes_of e)) && leb (get_or letters e 0) letters_most

letters-right : every letters_right 0 elements_most ≡ true
unfolding letters_right codes_of word_of first_to words_to words_of comes_to from changed others left place_in number image_x image_y image_z i_times image then
letters-right = refl

module _ (e : ℕ) (h : e < elements_most) where
  lettered : (eqb (get_or letters e 0) (length (codes_of e)) ≡ true) × (leb (get_or letters e 0) letters_most ≡ true)
  unfolding letters_right
  lettered = both (eqb (get_or letters e 0) (length (codes_of e))) (leb (get_or letters e 0) letters_most) (at letters_right elements_most letters-right e h)

  pub letters_rule : (get_or letters e 0 ≡ length (codes_of e)) × (get_or letters e 0 ≤ letters_most)
  letters_rule = (eqb-true (get_or letters e 0) (length (codes_of e)) lettered.0, leb-true (get_or letters e 0) letters_most lettered.1)

  word_at_lem : word_at e ≡ codes_of e
  word_at_lem = listed word_at [] elements_most (map codes_of (up_to 0 elements_most)) words_right e h ∙ sym (listed codes_of [] elements_most (map codes_of (up_to 0 elements_most)) refl e h)

  -- a part of so many letters, copied to the front
  module _ (n : ℕ) (k : n ≡ length (codes_of e)) (out exit : List ℕ) where
    abbrev part : List ℕ
    part = take n (drop (e * 6) codes)

    pub word_rule : part ≡ codes_of e
    unfolding word_at
    word_rule = ap (λ (m : ℕ). take m (drop (e * 6) codes)) (k ∙ sym letters_rule.0) ∙ word_at_lem

    pub word_left : exit ≡ take (length part) part ++ drop (length part) out → exit ≡ codes_of e ++ drop (length (codes_of e)) out
    word_left left = left ∙ ap (λ (l : List ℕ). l ++ drop (length part) out) (take-length part) ∙ ap (λ (l : List ℕ). l ++ drop (length l) out) word_rule
