-- Document 02, request 10: "by the matrices the spelled sequence, then its closing element, returns every member to itself up to one power of ω". A word
-- and one letter more is alike the word of the product: 48 comparisons. So are a word and another word, and the words of a sequence; and the
-- product of a sequence with its closing element is the identity, whose word is empty. Assumes nothing.
use mathlib.Core.Path.{◌≡◌, refl, sym, ap, ap₂, ◌∙◌, subst}
use mathlib.Core.Bool.{Bool, true, cond}
use mathlib.Core.List.{List, [], ◌∷◌, ◌++◌, map, append_assoc}
use Prim.Native.Nat.{ℕ, ◌+◌, ◌<◌, ◌≤◌}
use native.Mathlib.Omega.{arith}
use lib.Dec.{eqb}
use lib.ListN.{get_or}
use Rattle.amplitude.specs.Leaf.{turn}
use Rattle.automata.specs.Members.{up_to}
use Rattle.automata.specs.Tree.{Tree, map_t, same_t}
use Rattle.automata.proofs.Lists.{Each}
use Rattle.gates.specs.Gate.{Kind, Gate, plain}
use Rattle.gates.specs.Matrix.{carried}
use Rattle.cliffords.specs.Elements.{changed, others, left, place_in, number, image_x, image_y, image_z, i_times, image, then, identity, elements_most}
use Rattle.cliffords.specs.Words.{Letter, H, S, kind, element_of, from, word_of}
use Rattle.cliffords.specs.Sequences.{after, all_of, closing, gates_of, spelled}
use Rattle.cliffords.proofs.Table.{every_two, at_two}
use Rattle.cliffords.proofs.Group.{then-below, closes}
use Rattle.cliffords.proofs.Spelling.{words, word_is, word_added}
use Rattle.cliffords.proofs.Alike.{Alike, is_alike, is_alike_lem, alike_refl, alike_after, alike_trans}
use Rattle.cliffords.proofs.Trees.{at_qubit, alike_trees}
use Rattle.cliffords.proofs.Images.{kinds}

-- alike up to some power of ω
abbrev AlikeSome : List Kind → List Kind → Type 0
AlikeSome v w = (j : ℕ) × Alike j v w

-- ---- the 48 comparisons: which power of ω, if any
first_power : List Kind → List Kind → List ℕ → ℕ
first_power v w [] = 8
first_power v w (j ∷ js) = cond (is_alike j v w) j (first_power v w js)

power : List Kind → List Kind → ℕ
power v w = first_power v w (up_to 0 8)

abbrev letter : ℕ → Letter
letter g = cond (eqb g 0) H S

abbrev and-letter : ℕ → Letter → List Kind
and-letter p l = kinds (get_or words p []) ++ (kind l ∷ [])

letter_test : ℕ → ℕ → Bool
letter_test p g = is_alike (power (and-letter p (letter g)) (kinds (get_or words (then p (element_of (letter g))) []))) (and-letter p (letter g)) (kinds (get_or words (then p (element_of (letter g))) []))

all-letters : every_two letter_test elements_most 2 ≡ true
unfolding letter_test power first_power changed others left place_in number image_x image_y image_z i_times image then
all-letters = refl

letters_alike : (p g : ℕ) → p < elements_most → g < 2 → then p (element_of (letter g)) < elements_most → AlikeSome (kinds (word_of p) ++ (kind (letter g) ∷ [])) (kinds (word_of (then p (element_of (letter g)))))
unfolding letter_test
letters_alike p g h k b =
    let q = then p (element_of (letter g)) in
    let v = and-letter p (letter g) in
    let w = kinds (get_or words q []) in (
      power v w,
      subst (λ (x : List Letter). Alike (power v w) (kinds x ++ (kind (letter g) ∷ [])) (kinds (word_of q))) (sym (word_is p h))
          (subst (λ (x : List Letter). Alike (power v w) v (kinds x)) (sym (word_is q b)) (is_alike_lem (power v w) v w (at_two letter_test elements_most 2 all-letters p g h k))),
    )

pub letter-below : (l : Letter) → element_of l < elements_most
unfolding number left others place_in
letter-below H = omega arith
letter-below S = omega arith

letter_alike : (p : ℕ) (l : Letter) → p < elements_most → AlikeSome (kinds (word_of p) ++ (kind l ∷ [])) (kinds (word_of (then p (element_of l))))
letter_alike p H h = letters_alike p 0 h (omega arith) (then-below p (element_of H) h (letter-below H))
letter_alike p S h = letters_alike p 1 h (omega arith) (then-below p (element_of S) h (letter-below S))

-- ---- what is alike one word, with the same after it, is alike another
onward : (u v r w : List Kind) → AlikeSome u v → AlikeSome (v ++ r) w → AlikeSome (u ++ r) w
onward u v r w h k = (h.0 + k.0, alike_trans h.0 k.0 (u ++ r) (v ++ r) w (alike_after h.0 u v r h.1) k.1)

append_none : {X : Type 0} (l : List X) → l ++ [] ≡ l
append_none [] = refl
append_none (x ∷ l) = ap (λ m. x ∷ m) (append_none l)

-- a word after the word of p
word_alike : (w : List Letter) (p : ℕ) → p < elements_most → AlikeSome (kinds (word_of p) ++ kinds w) (kinds (word_of (from p w)))
unfolding from
word_alike [] p h = (0, subst (λ (v : List Kind). Alike 0 v (kinds (word_of p))) (sym (append_none (kinds (word_of p)))) (alike_refl (kinds (word_of p))))
word_alike (l ∷ w) p h =
    subst (λ (v : List Kind). AlikeSome v (kinds (word_of (from (then p (element_of l)) w)))) (append_assoc (kinds (word_of p)) (kind l ∷ []) (kinds w))
    (onward (kinds (word_of p) ++ (kind l ∷ [])) (kinds (word_of (then p (element_of l)))) (kinds w) (kinds (word_of (from (then p (element_of l)) w))) (letter_alike p l h) (word_alike w (then p (element_of l)) (then-below p (element_of l) h (letter-below l))))

-- ---- a sequence
abbrev pub Elements : List ℕ → Type 0
Elements seq = Each (λ e. e < elements_most) seq

abbrev kinds_of : List ℕ → List Kind
kinds_of [] = []
kinds_of (e ∷ seq) = kinds (word_of e) ++ kinds_of seq

pub after-below : (seq : List ℕ) (p : ℕ) → p < elements_most → Elements seq → after p seq < elements_most
unfolding after
after-below [] p h k = h
after-below (q ∷ seq) p h k = after-below seq (then p q) (then-below p q h k.0) k.1

sequence_alike : (seq : List ℕ) (p : ℕ) → p < elements_most → Elements seq → AlikeSome (kinds (word_of p) ++ kinds_of seq) (kinds (word_of (after p seq)))
unfolding after
sequence_alike [] p h k = (0, subst (λ (v : List Kind). Alike 0 v (kinds (word_of p))) (sym (append_none (kinds (word_of p)))) (alike_refl (kinds (word_of p))))
sequence_alike (q ∷ seq) p h k =
    let one : AlikeSome (kinds (word_of p) ++ kinds (word_of q)) (kinds (word_of (then p q))) = subst (λ (e : ℕ). AlikeSome (kinds (word_of p) ++ kinds (word_of q)) (kinds (word_of e))) (word_added p q h k.0) (word_alike (word_of q) p h) in
    subst (λ (v : List Kind). AlikeSome v (kinds (word_of (after (then p q) seq)))) (append_assoc (kinds (word_of p)) (kinds (word_of q)) (kinds_of seq))
    (onward (kinds (word_of p) ++ kinds (word_of q)) (kinds (word_of (then p q))) (kinds_of seq) (kinds (word_of (after (then p q) seq))) one (sequence_alike seq (then p q) (then-below p q h k.0) k.1))

after_append : (seq : List ℕ) (p q : ℕ) → after p (seq ++ (q ∷ [])) ≡ then (after p seq) q
unfolding after
after_append [] p q = refl
after_append (e ∷ seq) p q = after_append seq (then p e) q

elements_append : (seq : List ℕ) (q : ℕ) → Elements seq → q < elements_most → Elements (seq ++ (q ∷ []))
elements_append [] q k h = (h, tt)
elements_append (e ∷ seq) q k h = (k.0, elements_append seq q k.1 h)

pub identity-below : identity < elements_most
unfolding number left others place_in
identity-below = omega arith

identity_word : kinds (word_of identity) ≡ []
unfolding number left others place_in
identity_word = ap kinds (word_is 2 (omega arith))

pub all-below : (seq : List ℕ) → Elements seq → all_of seq < elements_most
unfolding all_of
all-below seq k = after-below seq identity identity-below k

closed : (seq : List ℕ) → Elements seq → AlikeSome (kinds_of (seq ++ (closing seq ∷ []))) []
unfolding all_of closing
closed seq k =
    let c = closes (all_of seq) (all-below seq k) in
    let whole = seq ++ (closing seq ∷ []) in
    let end : after identity whole ≡ identity = after_append seq identity (closing seq) ∙ c.back in
    let it : AlikeSome (kinds (word_of identity) ++ kinds_of whole) (kinds (word_of (after identity whole))) = sequence_alike whole identity identity-below (elements_append seq (closing seq) k c.below) in
    subst (λ (v : List Kind). AlikeSome (kinds_of whole) v) (ap (λ (e : ℕ). kinds (word_of e)) end ∙ identity_word)
    (subst (λ (v : List Kind). AlikeSome (v ++ kinds_of whole) (kinds (word_of (after identity whole)))) identity_word it)

-- ---- as gates
map_append : {X Y : Type 0} (f : X → Y) (v w : List X) → map f (v ++ w) ≡ map f v ++ map f w
map_append f [] w = refl
map_append f (x ∷ v) w = ap (λ l. f x ∷ l) (map_append f v w)

gates_kinds : (t : ℕ) (w : List Letter) → gates_of t w ≡ at_qubit t (kinds w)
gates_kinds t [] = refl
gates_kinds t (l ∷ w) = ap (λ g. plain (kind l) t ∷ g) (gates_kinds t w)

spelled_kinds : (seq : List ℕ) (t : ℕ) → spelled seq t ≡ at_qubit t (kinds_of seq)
unfolding spelled
spelled_kinds [] t = refl
spelled_kinds (e ∷ seq) t =
    ap₂ (λ (g h : List Gate). g ++ h) (gates_kinds t (word_of e)) (spelled_kinds seq t) ∙ sym (map_append (λ k. plain k t) (kinds (word_of e)) (kinds_of seq))

spelled_append : (seq rest : List ℕ) (t : ℕ) → spelled seq t ++ spelled rest t ≡ spelled (seq ++ rest) t
unfolding spelled
spelled_append [] rest t = refl
spelled_append (e ∷ seq) rest t = append_assoc (gates_of t (word_of e)) (spelled seq t) (spelled rest t) ∙ ap (λ (g : List Gate). gates_of t (word_of e) ++ g) (spelled_append seq rest t)

-- one power of ω for all trees, so for every member of every set
pub returns : (n t : ℕ) → 1 ≤ t → t ≤ n → (seq : List ℕ) → Elements seq
    → (j : ℕ) × ((x : Tree n) → same_t n (carried (spelled seq t ++ spelled (closing seq ∷ []) t) n x) (map_t n (turn j) x) ≡ true)
returns n t a b seq k =
    let r = closed seq k in
    let e : spelled seq t ++ spelled (closing seq ∷ []) t ≡ at_qubit t (kinds_of (seq ++ (closing seq ∷ []))) = spelled_append seq (closing seq ∷ []) t ∙ spelled_kinds (seq ++ (closing seq ∷ [])) t in
    (r.0, λ x. ap (λ (g : List Gate). same_t n (carried g n x) (map_t n (turn r.0) x)) e ∙ alike_trees r.0 (kinds_of (seq ++ (closing seq ∷ []))) [] r.1 t n a b x)
