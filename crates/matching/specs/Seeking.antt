-- The search on tables, level by level over the marks of the pairs that are met: some word of the end set gives every such pair equal trees.
-- What it asks: both tables hold well-formed sets of n qubits, the word has their choices, and every pair has its place in the row of marks.
use Rattle.std.specs.Prelude.{◌≡◌, Bool, true, List, [], ◌∷◌, ℕ, zero, suc, ◌+◌, ◌*◌, ◌<◌, ◌≤◌, ℤ, length, get_or}
use Rattle.automata.specs.Choice.{choices_most}
use Rattle.automata.specs.Members.{choices}
use Rattle.automata.specs.Sets.{QSet, sum}
use Rattle.automata.specs.Tree.{Automaton}
use Rattle.stored.specs.Rules.{Bounds}
use Rattle.stored.proofs.WellFormed.{WellFormed}
use Rattle.verdict.specs.Search.{fits_one}
use Rattle.verdict.proofs.Searching.{matches}
use Rattle.tables.specs.Ready.{Roomy, Unpacked}
use Rattle.meeting.specs.declared.Level.{Level}
use Rattle.meeting.specs.Met.{is_met}
use Rattle.meeting.specs.All.{all_met}
use Rattle.matching.specs.Levels.{start_of, Among, IsLevel}

-- the choices of a word from place `at` on, m + 1 of them
unfoldable pub word_from : List ℕ → ℕ → ℕ → List ℕ
word_from word at zero = get_or word at 0 ∷ []
word_from word at (suc m) = get_or word at 0 ∷ word_from word (at + 1) m

-- some word of so many choices passes
unfoldable pub any_word : ℕ → (List ℕ → Bool) → Bool
any_word zero f = f []
any_word (suc k) f = fits_one (λ d. any_word k (λ v. f (d ∷ v))) choices

module _ (S E : Automaton ℕ) (word : List ℕ) where
  -- the trees of image state s, by the word from place `at` on, and of end state e, by v, are equal: m qubits from there on
  abbrev pub twins : ℕ → ℕ → List ℕ → ℕ → ℕ → Bool
  twins at m v s e = matches S E (suc at) m (word_from word at m) v (s, e)

  -- some word of the end set gives equal trees to all pairs that are met on the level
  abbrev pub sought : ℕ → ℕ → ℕ → List ℕ → Level → Bool
  sought at m wide met l = any_word (suc m) (λ v. all_met (twins at m v) wide met l)

  -- one that begins with choice d does, with m + 1 qubits from there on
  abbrev pub tried : ℕ → ℕ → ℕ → ℕ → List ℕ → Level → Bool
  tried at m d wide met l = any_word (suc m) (λ v. all_met (twins at (suc m) (d ∷ v)) wide met l)

-- the marks of levels at + 1 and on have every pair whose trees are equal by some word of the end set
pub record Sound (S E : Automaton ℕ) (word counts end_counts : List ℕ) (wide : ℕ) (may : List ℕ) (at n : ℕ) : Type 0 where
  pub each : (a k : ℕ) → at ≤ a → a + k ≡ n → (s e : ℕ) → Among counts a s → Among end_counts a e → (v : List ℕ) → twins S E word a k v s e ≡ true → is_met wide may s e ≡ true

-- the same of all levels, and the row of marks has their places
pub record Hints (S E : Automaton ℕ) (word counts end_counts : List ℕ) (wide : ℕ) (may : List ℕ) (n : ℕ) : Type 0 where
  pub sound : Sound S E word counts end_counts wide may 0 n
  pub long : start_of counts (suc n) * wide ≤ length may

-- the slices hold a well-formed set of n qubits
pub record Held (rows masks : List ℕ) (coefs : List ℤ) (counts first : List ℕ) (n : ℕ) : Type 0 where
  pub set : QSet
  pub bounds : Bounds
  pub few : bounds.states < 65536
  pub formed : WellFormed bounds set
  pub unpacked : Unpacked rows masks coefs counts first set
  pub roomy : Roomy rows masks coefs counts first set.n (sum set.counts) (length set.inner) (length set.leaves)
  pub qubits : n ≡ set.n

-- both tables, the word's choices, and room for the marks of all pairs
pub record Lent (rows masks : List ℕ) (coefs : List ℤ) (counts first end_rows end_masks : List ℕ) (end_coefs : List ℤ) (end_counts end_first word : List ℕ) (wide size n : ℕ) : Type 0 where
  pub image : Held rows masks coefs counts first n
  pub ends : Held end_rows end_masks end_coefs end_counts end_first n
  pub letters : n + 1 ≤ length word
  pub small : (i : ℕ) → i ≤ n → get_or word i 0 < choices_most
  pub long : start_of counts (suc n) * wide ≤ size
  pub narrow : start_of end_counts (suc n) ≤ wide * 32

-- the search has reached level at + 1, and m qubits are left from there on
pub record Seeking (rows masks : List ℕ) (coefs : List ℤ) (counts first end_rows end_masks : List ℕ) (end_coefs : List ℤ) (end_counts end_first word : List ℕ) (wide size at m : ℕ) (l : Level) : Type 0 where
  pub lent : Lent rows masks coefs counts first end_rows end_masks end_coefs end_counts end_first word wide size (at + m)
  pub here : IsLevel counts end_counts at l
