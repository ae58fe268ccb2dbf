-- Words that are copied from one slice to another, and what stays of a stack of planes when one plane takes the words of a level.
use Rattle.std.specs.Prelude.{◌≡◌, List, ℕ, ◌+◌, ◌*◌, ◌<◌, ◌≤◌, get_or}
use Rattle.meeting.specs.declared.Level.{Level}

-- the words from `there` on are those of `source` from `at` on, `count` of them, and the others are what they were
pub record Copied (source : List ℕ) (at : ℕ) (words : List ℕ) (there count : ℕ) (words' : List ℕ) : Type 0 where
  pub taken : (i : ℕ) → i < count → get_or words' (there + i) 0 ≡ get_or source (at + i) 0
  pub before : (i : ℕ) → i < there → get_or words' i 0 ≡ get_or words i 0
  pub after : (i : ℕ) → there + count ≤ i → get_or words' i 0 ≡ get_or words i 0

-- ---- planes
-- q planes stand in the stack, and the level's words in each of them and in another row of so many words
pub record Room (plane size q wide : ℕ) (l : Level) (scratch : ℕ) : Type 0 where
  pub high : q * plane + plane ≤ size
  pub levels : l.from ≤ l.to
  pub long : l.to * wide ≤ plane
  pub fits : l.to * wide ≤ scratch

-- plane q has the level's words of another row now if r is past q, and r is q or q + 1; the other planes are what they were, and so are the
-- words of plane q that stand before the level's
pub record Added (plane wide : ℕ) (stack : List ℕ) (q : ℕ) (row : List ℕ) (l : Level) (stack' : List ℕ) (r : ℕ) : Type 0 where
  pub least : q ≤ r
  pub most : r ≤ q + 1
  pub taken : q < r → (i : ℕ) → l.from * wide ≤ i → i < l.to * wide → get_or stack' (q * plane + i) 0 ≡ get_or row i 0
  pub others : (j i : ℕ) → i < plane → (j ≡ q → ⊥) → get_or stack' (j * plane + i) 0 ≡ get_or stack (j * plane + i) 0
  pub low : (i : ℕ) → i < l.from * wide → get_or stack' (q * plane + i) 0 ≡ get_or stack (q * plane + i) 0
