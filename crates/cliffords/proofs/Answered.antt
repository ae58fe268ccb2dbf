-- What a reply that is no refusal means: the element that is told returns every tree, and so every member of every set. Assumes nothing.
use mathlib.Core.Path.{◌≡◌, refl, sym, ap, ◌∙◌}
use mathlib.Core.Bool.{true}
use mathlib.Core.List.{List, [], ◌∷◌, ◌++◌}
use mathlib.Core.Option.{some}
use Prim.Native.Nat.{ℕ, ◌≤◌}
use lib.Dec.{leb}
use lib.ListN.{length}
use borrow.Author.Tests.{ltb-true}
use Rattle.amplitude.specs.Leaf.{turn}
use Rattle.amplitude.proofs.Equal.{both}
use Rattle.automata.specs.Members.{Member, state_of}
use Rattle.automata.specs.Sets.{QSet}
use Rattle.automata.specs.Tree.{Tree, map_t, same_t}
use Rattle.stored.specs.Refusal.{good, refusal, circuit_source}
use Rattle.stored.proofs.Reading.{need-good}
use Rattle.gates.specs.Matrix.{carried}
use Rattle.cliffords.specs.Elements.{changed, others, left, place_in, number, image_x, image_y, image_z, i_times, image, then, identity, elements_most}
use Rattle.cliffords.specs.Words.{from, comes_to, words_of, words_to, first_to, word_of}
use Rattle.cliffords.specs.Sequences.{after, all_of, first_back, inverse, closing, spelled}
use Rattle.cliffords.specs.Jobs.{sequence_most, is_element, all_elements, closing_judged}
use Rattle.cliffords.proofs.Returns.{Elements, returns}

-- the test is the fact
pub all_elements_lem : (seq : List ℕ) → all_elements seq ≡ true → Elements seq
unfolding all_elements
all_elements_lem [] e = tt
all_elements_lem (q ∷ seq) e = let h = both (is_element q) (all_elements seq) e in (ltb-true q elements_most h.0, all_elements_lem seq h.1)

-- the element that is told, played after the sequence, returns every tree up to one power of ω
pub closing_answered : (seq : List ℕ) (q : ℕ) → closing_judged seq ≡ good q → (n t : ℕ) → 1 ≤ t → t ≤ n
    → (j : ℕ) × ((x : Tree n) → same_t n (carried (spelled seq t ++ spelled (q ∷ []) t) n x) (map_t n (turn j) x) ≡ true)
unfolding closing_judged
closing_answered seq q e n t a b =
    let p = need-good (leb (length seq) sequence_most) (refusal 23 circuit_source 0) _ q e in
    let r = need-good (all_elements seq) (refusal 22 circuit_source 0) _ q p.1 in
    let same : closing seq ≡ q = cc r.1 in
    let it = returns n t a b seq (all_elements_lem seq r.0) in
    (it.0, λ x. ap (λ (c : ℕ). same_t n (carried (spelled seq t ++ spelled (c ∷ []) t) n x) (map_t n (turn it.0) x)) (sym same) ∙ it.1 x)

-- "returns every member to itself up to one power of ω": one power for all members of a set
pub members_return : (Q : QSet) (seq : List ℕ) (q : ℕ) → closing_judged seq ≡ good q → (t : ℕ) → 1 ≤ t → t ≤ Q.n
    → (j : ℕ) × ((m : Member) (x : Tree Q.n) → state_of Q m ≡ some x → same_t Q.n (carried (spelled seq t ++ spelled (q ∷ []) t) Q.n x) (map_t Q.n (turn j) x) ≡ true)
members_return Q seq q e t a b = let it = closing_answered seq q e Q.n t a b in (it.0, λ m x is. it.1 x)

-- the empty sequence is closed by the identity, which is spelled by no letter
pub nothing_closed : (closing [] ≡ identity) × (word_of identity ≡ [])
unfolding closing inverse first_back all_of after word_of first_to words_to words_of comes_to from changed others left place_in number image_x image_y image_z i_times image then
nothing_closed = (refl, refl)
