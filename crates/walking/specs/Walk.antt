-- The members of the image by a walk over choices: level by level the states that a word reaches, in the order of words. What the walk asks:
-- both tables hold well-formed sets of n qubits, and there is room for the marks of the pairs that could match and a cell for each state of the image.
use Rattle.std.specs.Prelude.{◌≡◌, Bool, cond, List, [], ◌∷◌, ℕ, zero, suc, ◌+◌, ◌*◌, ◌<◌, ◌≤◌, ℤ, get_or, set, take, replicate}
use Rattle.automata.specs.Choice.{choices_most}
use Rattle.automata.specs.Tree.{tree_of}
use Rattle.automata.specs.Members.{Member, member, choices, flat}
use Rattle.verdict.specs.Search.{searched}
use Rattle.jobs.specs.Reply.{word_places}
use Rattle.lookup.specs.Lookup.{is_some}
use Rattle.lookup.specs.Alts.{table_automaton}
use Rattle.matching.specs.Levels.{start_of}
use Rattle.matching.specs.Seeking.{Held}
use Rattle.reaching.specs.Reached.{all_reached}

-- the members of a root whose words stand before place `at` and go on with k choices that pass, in order; a word stands in places
unfoldable pub members_by : ℕ → List ℕ → ℕ → ℕ → (List ℕ → Bool) → List Member
members_by root word at zero f = cond (f []) (member root word ∷ []) []
members_by root word at (suc k) f = flat (λ (c : ℕ). members_by root (set word at c) (at + 1) k (λ (v : List ℕ). f (c ∷ v))) choices

-- the word with the choices v in the places from `at` on
unfoldable pub filled : List ℕ → ℕ → List ℕ → List ℕ
filled word at [] = word
filled word at (c ∷ v) = filled (set word at c) (at + 1) v

module _ (rows masks : List ℕ) (coefs : List ℤ) (first : List ℕ) where
  -- all states reached on level at + 1 give a tree by the choices v: m qubits from there on
  abbrev pub trees_by : ℕ → ℕ → List ℕ → ℕ → ℕ → List ℕ → Bool
  trees_by at m row from to v = all_reached (λ (s : ℕ). is_some (tree_of (table_automaton rows masks coefs first) (suc at) m v s)) row from to

  -- the members whose words go on with choice c on level at + 1
  abbrev pub branch_of : ℕ → List ℕ → ℕ → ℕ → List ℕ → ℕ → ℕ → ℕ → List Member
  branch_of root word at m row from to c = members_by root (set word at c) (at + 1) m (λ (v : List ℕ). trees_by at m row from to (c ∷ v))

  -- the members whose words go on from level at + 1
  abbrev pub visit_of : ℕ → List ℕ → ℕ → ℕ → List ℕ → ℕ → ℕ → List Member
  visit_of root word at m row from to = members_by root word at (suc m) (trees_by at m row from to)

  -- the members of a root
  abbrev pub root_of : ℕ → ℕ → List Member
  root_of n root = members_by root (replicate word_places 0) 0 (suc n) (λ (v : List ℕ). is_some (tree_of (table_automaton rows masks coefs first) 1 n v root))

-- the tree of the image's root by the word's first n + 1 places is a state of the end set
abbrev pub passes_in : List ℕ → List ℕ → List ℤ → List ℕ → List ℕ → List ℕ → List ℤ → List ℕ → List ℕ → ℕ → Member → Bool
passes_in rows masks coefs first end_rows end_masks end_coefs end_counts end_first n (member r w) =
    searched (table_automaton rows masks coefs first) (table_automaton end_rows end_masks end_coefs end_first) (get_or end_counts 0 0) n (take (n + 1) w) r

-- words of the spare row that the search has: four to each of 1,024 states of the image
abbrev pub spare_words : ℕ
spare_words = 4096

-- both tables, room for the marks of the pairs that could match, and a cell for each state of the image
pub record Both (rows masks : List ℕ) (coefs : List ℤ) (counts first end_rows end_masks : List ℕ) (end_coefs : List ℤ) (end_counts end_first : List ℕ) (wide hints cells n : ℕ) : Type 0 where
  pub image : Held rows masks coefs counts first n
  pub ends : Held end_rows end_masks end_coefs end_counts end_first n
  pub hinted : start_of counts (suc n) * wide ≤ hints
  pub narrow : start_of end_counts (suc n) ≤ wide * 32
  pub celled : start_of counts (suc n) ≤ cells

-- the walk has reached level at + 1, whose states are from `from` up to below `to`, and m qubits are left from there on
pub record Visiting (rows masks : List ℕ) (coefs : List ℤ) (counts first end_rows end_masks : List ℕ) (end_coefs : List ℤ) (end_counts end_first : List ℕ) (wide hints cells n at m from to root : ℕ) (word : List ℕ) : Type 0 where
  pub both : Both rows masks coefs counts first end_rows end_masks end_coefs end_counts end_first wide hints cells n
  pub levels : at + m ≡ n
  pub begins : from ≡ start_of counts at
  pub stops : to ≡ start_of counts (suc at)
  pub rooted : root < get_or counts 0 0
  pub small : (i : ℕ) → get_or word i 0 < choices_most
