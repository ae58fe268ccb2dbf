-- By the matrices an element's word takes X, Y and Z to the images that its number says: U P is (U P U†) U. One test of 72 comparisons. Assumes
-- nothing.
use mathlib.Core.Path.{◌≡◌, refl, sym, subst}
use mathlib.Core.Bool.{Bool, true}
use mathlib.Core.List.{List, [], ◌∷◌, ◌++◌, map}
use Prim.Native.Nat.{ℕ, ◌*◌, ◌<◌, ◌≤◌}
use lib.ListN.{get_or}
use Rattle.amplitude.specs.Leaf.{turn}
use Rattle.automata.specs.Tree.{Tree, map_t, same_t}
use Rattle.gates.specs.Gate.{Kind, phase, flip}
use Rattle.gates.specs.Matrix.{carried}
use Rattle.cliffords.specs.Elements.{line, sign, changed, others, left, place_in, number, image_x, image_y, image_z, i_times, image, elements_most}
use Rattle.cliffords.specs.Words.{Letter, kind, word_of}
use Rattle.cliffords.proofs.Table.{every_two, at_two}
use Rattle.cliffords.proofs.Spelling.{words, word_is}
use Rattle.cliffords.proofs.Alike.{Alike, is_alike, is_alike_lem}
use Rattle.cliffords.proofs.Trees.{at_qubit, alike_trees}

-- X, Y and Z, by the line of an axis
abbrev pub pauli : ℕ → Kind
pauli l = get_or (flip 0 ∷ flip 2 ∷ phase 4 ∷ []) l (flip 0)

-- a word's gates without their qubit
abbrev pub kinds : List Letter → List Kind
kinds w = map kind w

-- the word after the Pauli gate on line l, and the image's after the word
abbrev before : List Letter → ℕ → List Kind
before w l = pauli l ∷ kinds w

abbrev behind : List Letter → ℕ → ℕ → List Kind
behind w e l = kinds w ++ (pauli (line (image e (2 * l))) ∷ [])

-- a minus is ω⁴
abbrev turns : ℕ → ℕ → ℕ
turns e l = 4 * sign (image e (2 * l))

image_test : ℕ → ℕ → Bool
image_test e l = is_alike (turns e l) (before (get_or words e []) l) (behind (get_or words e []) e l)

all_images : every_two image_test elements_most 3 ≡ true
unfolding image_test changed others left place_in number image_x image_y image_z i_times image
all_images = refl

images_alike : (e l : ℕ) → e < elements_most → l < 3 → Alike (turns e l) (before (word_of e) l) (behind (word_of e) e l)
unfolding image_test
images_alike e l h k =
    subst (λ (w : List Letter). Alike (turns e l) (before w l) (behind w e l)) (sym (word_is e h))
    (is_alike_lem (turns e l) (before (get_or words e []) l) (behind (get_or words e []) e l) (at_two image_test elements_most 3 all_images e l h k))

-- the same of every tree
pub images : (e l t n : ℕ) → e < elements_most → l < 3 → 1 ≤ t → t ≤ n → (x : Tree n)
    → same_t n (carried (at_qubit t (before (word_of e) l)) n x) (map_t n (turn (turns e l)) (carried (at_qubit t (behind (word_of e) e l)) n x)) ≡ true
images e l t n h k a b x = alike_trees (turns e l) (before (word_of e) l) (behind (word_of e) e l) (images_alike e l h k) t n a b x
