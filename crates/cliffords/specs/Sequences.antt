-- Document 02, request 10: "From a sequence of up to 4,096 numbers give the element that brings it to identity", and a sequence as gates.
use Rattle.std.specs.Prelude.{cond, List, [], ◌∷◌, ◌++◌, map, ℕ, eqb}
use Rattle.gates.specs.Gate.{Gate, plain}
use Rattle.automata.specs.Members.{up_to}
use Rattle.cliffords.specs.Elements.{then, identity, elements_most}
use Rattle.cliffords.specs.Words.{Letter, kind, word_of}

-- an element, then the sequence's, the first played first
unfoldable pub after : ℕ → List ℕ → ℕ
after e [] = e
after e (q ∷ seq) = after (then e q) seq

-- all of a sequence as one element
unfoldable pub all_of : List ℕ → ℕ
all_of seq = after identity seq

unfoldable pub first_back : ℕ → List ℕ → ℕ
first_back p [] = identity
first_back p (q ∷ qs) = cond (eqb (then p q) identity) q (first_back p qs)

-- the element that, played after p, comes to the identity
unfoldable pub inverse : ℕ → ℕ
inverse p = first_back p (up_to 0 elements_most)

-- "the element that brings it to identity"
unfoldable pub closing : List ℕ → ℕ
closing seq = inverse (all_of seq)

-- a word as gates at qubit t
abbrev pub gates_of : ℕ → List Letter → List Gate
gates_of t w = map (λ l. plain (kind l) t) w

-- the words of a sequence, one after the other, at qubit t
unfoldable pub spelled : List ℕ → ℕ → List Gate
spelled [] t = []
spelled (e ∷ seq) t = gates_of t (word_of e) ++ spelled seq t
