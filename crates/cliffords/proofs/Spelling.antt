-- The 24 words, computed once as the definition finds them. A word comes to its element, after any other element too. Assumes nothing.
use mathlib.Core.Path.{◌≡◌, refl, ap, ◌∙◌}
use mathlib.Core.Bool.{Bool, true, ◌&&◌}
use mathlib.Core.List.{List, [], ◌∷◌, map}
use mathlib.Core.Option.{some}
use Prim.Native.Nat.{ℕ, ◌<◌, ◌≤◌}
use lib.Dec.{eqb, leb}
use lib.ListN.{length, get_or}
use borrow.Author.Tests.{eqb-true, leb-true}
use Rattle.amplitude.proofs.Equal.{both}
use Rattle.automata.specs.Members.{up_to}
use Rattle.gates.specs.Circuit as circuit
use Rattle.cliffords.specs.Elements.{changed, others, left, place_in, number, image_x, image_y, image_z, i_times, image, then, elements_most}
use Rattle.cliffords.specs.Words.{Letter, H, S, code, kind, from, comes_to, words_of, words_to, letters_most, first_to, word_of}
use Rattle.cliffords.proofs.Table.{every_two, at_two, listed}

-- the letters' codes are document 01's
pub letter-code : (l : Letter) → circuit.kind_of (code l) ≡ some (kind l)
letter-code H = refl
letter-code S = refl

abbrev pub words : List (List Letter)
words =
    (S ∷ H ∷ S ∷ []) ∷ (H ∷ S ∷ H ∷ []) ∷ [] ∷ (H ∷ S ∷ S ∷ H ∷ []) ∷ (H ∷ S ∷ H ∷ S ∷ S ∷ []) ∷ (S ∷ H ∷ S ∷ S ∷ S ∷ []) ∷
    (S ∷ S ∷ []) ∷ (H ∷ S ∷ S ∷ H ∷ S ∷ S ∷ []) ∷ (H ∷ S ∷ H ∷ S ∷ []) ∷ (S ∷ H ∷ S ∷ S ∷ []) ∷ (S ∷ []) ∷ (H ∷ S ∷ S ∷ H ∷ S ∷ []) ∷
    (S ∷ H ∷ []) ∷ (H ∷ S ∷ H ∷ S ∷ S ∷ S ∷ []) ∷ (S ∷ S ∷ S ∷ []) ∷ (S ∷ H ∷ S ∷ S ∷ H ∷ []) ∷ (H ∷ []) ∷ (H ∷ S ∷ S ∷ []) ∷
    (H ∷ S ∷ []) ∷ (H ∷ S ∷ S ∷ S ∷ []) ∷ (S ∷ S ∷ H ∷ []) ∷ (S ∷ S ∷ H ∷ S ∷ S ∷ []) ∷ (S ∷ S ∷ H ∷ S ∷ []) ∷ (H ∷ S ∷ H ∷ S ∷ S ∷ H ∷ []) ∷ []

all_words : map word_of (up_to 0 elements_most) ≡ words
unfolding word_of first_to words_to words_of comes_to from changed others left place_in number image_x image_y image_z i_times image then
all_words = refl

pub word_is : (e : ℕ) → e < elements_most → word_of e ≡ get_or words e []
word_is e h = listed word_of [] elements_most words all_words e h

-- ---- what a word comes to, after p
word_adds : ℕ → ℕ → Bool
word_adds p q = eqb (from p (get_or words q [])) (then p q) && leb (length (get_or words q [])) letters_most

all-added : every_two word_adds elements_most elements_most ≡ true
unfolding word_adds from changed others left place_in number image_x image_y image_z i_times image then
all-added = refl

module _ (p q : ℕ) (h : p < elements_most) (k : q < elements_most) where
  added : (eqb (from p (get_or words q [])) (then p q) ≡ true) × (leb (length (get_or words q [])) letters_most ≡ true)
  unfolding word_adds
  added = both (eqb (from p (get_or words q [])) (then p q)) (leb (length (get_or words q [])) letters_most) (at_two word_adds elements_most elements_most all-added p q h k)

  pub word_added : from p (word_of q) ≡ then p q
  word_added = ap (from p) (word_is q k) ∙ eqb-true (from p (get_or words q [])) (then p q) added.0

  pub word_short : length (word_of q) ≤ letters_most
  word_short = leb-true (length (word_of q)) letters_most (ap (λ (w : List Letter). leb (length w) letters_most) (word_is q k) ∙ added.1)
