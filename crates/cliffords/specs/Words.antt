-- Document 02, request 10: "spell any element in H and S gates, shortest first, H before S among equals".
use Rattle.std.specs.Prelude.{cond, List, [], ◌∷◌, ◌++◌, map, ℕ, zero, suc, eqb}
use Rattle.gates.specs.Gate as gate
use Rattle.gates.specs.Gate.{Kind, phase}
use Rattle.cliffords.specs.Elements.{+X, +Y, +Z, number, then, identity}

pub data Letter : Type 0 where
  H : Letter
  S : Letter

-- document 01's codes
abbrev pub code : Letter → ℕ
code H = 4
code S = 5

abbrev pub kind : Letter → Kind
kind H = gate.H
kind S = phase 2

-- H X H† = Z and H Z H† = X; S X S† = Y and S Z S† = Z
abbrev pub element_of : Letter → ℕ
element_of H = number +Z +X
element_of S = number +Y +Z

-- an element, then a word's letters, one after the other
unfoldable pub from : ℕ → List Letter → ℕ
from e [] = e
from e (l ∷ w) = from (then e (element_of l)) w

unfoldable pub comes_to : List Letter → ℕ
comes_to w = from identity w

-- all words of n letters, "H before S" from the first letter on
unfoldable pub words_of : ℕ → List (List Letter)
words_of zero = [] ∷ []
words_of (suc n) = map (λ w. H ∷ w) (words_of n) ++ map (λ w. S ∷ w) (words_of n)

-- "shortest first": those of up to n letters
unfoldable pub words_to : ℕ → List (List Letter)
words_to zero = words_of zero
words_to (suc n) = words_to n ++ words_of (suc n)

-- the longest word that is needed
abbrev pub letters_most : ℕ
letters_most = 6

unfoldable pub first_to : ℕ → List (List Letter) → List Letter
first_to e [] = []
first_to e (w ∷ ws) = cond (eqb (comes_to w) e) w (first_to e ws)

-- the first word that comes to the element
unfoldable pub word_of : ℕ → List Letter
word_of e = first_to e (words_to letters_most)

unfoldable pub codes_of : ℕ → List ℕ
codes_of e = map code (word_of e)
