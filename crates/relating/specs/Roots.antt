-- Relations of one pair each, the image's root and a root of the end set: what making them asks and leaves.
use Rattle.std.specs.Prelude.{◌≡◌, true, List, [], ◌∷◌, ◌⊎◌, ℕ, ◌+◌, ◌*◌, ◌<◌, ◌≤◌, length, get_or, take}
use Rattle.automata.specs.Choice.{choices_most}
use Rattle.automata.specs.Tree.{Automaton}
use Rattle.verdict.specs.Search.{found as pair_found}
use Rattle.meeting.specs.declared.Level.{Level}
use Rattle.relating.specs.Found.{found}

-- the root stands on the level, and its pairs have their places in a plane and in the row of pairs that could match
pub record Rooted (plane wide may root : ℕ) (l : Level) : Type 0 where
  pub after : l.from ≤ root
  pub before : root < l.to
  pub long : l.to * wide ≤ plane
  pub fits : l.to * wide ≤ may
  pub narrow : l.stop ≤ wide * 32

-- the word has n + 1 choices
pub record Whole (word : List ℕ) (n : ℕ) : Type 0 where
  pub letters : n + 1 ≤ length word
  pub small : (i : ℕ) → i ≤ n → get_or word i 0 < choices_most

-- one relation more, or none: what is found from them was found before, or is found for the pair
pub record Begun (wide plane : ℕ) (stack : List ℕ) (p root e : ℕ) (l : Level) (stack' : List ℕ) (r : ℕ) : Type 0 where
  pub least : p ≤ r
  pub most : r ≤ p + 1
  pub is : (S E : Automaton ℕ) (word : List ℕ) (n : ℕ) → Whole word n → found S E word 0 n wide plane stack' r l ≡ true
      → (found S E word 0 n wide plane stack p l ≡ true) ⊎ (pair_found S E 1 n (take (n + 1) word) ((root, e) ∷ []) ≡ true)
