-- Document 01, "states are numbered by first mention": what a search for a key tells, and what a mention of it leaves.
use Rattle.std.specs.Prelude.{◌≡◌, cond, List, ℕ, ◌+◌, ◌<◌, ◌≤◌, eqb, length, take, Option, Some, None}
use Rattle.gates.specs.Numbering.{is_in, mention, place}
use Rattle.names.specs.declared.Mentioned.{Mentioned}
use Rattle.names.specs.Chain.{Chained}

-- the place of a key among those mentioned, or nothing where it is not among them
unfoldable pub found_in : ℕ → List ℕ → Option ℕ
found_in key ks = cond (is_in eqb key ks) (Some (place eqb key ks)) None

-- what is so once a key is mentioned: `keys₀`, `link₀`, `heads₀` and `count` are before, the others after
pub record Numbered (keys₀ link₀ heads₀ : List ℕ) (count key : ℕ) (keys link heads : List ℕ) (m : Mentioned) : Type 0 where
  pub all : take m.count keys ≡ mention eqb (take count keys₀) key
  pub number : m.place ≡ place eqb key (take m.count keys)
  pub within : m.place < m.count
  pub no_less : count ≤ m.count
  pub no_more : m.count ≤ count + 1
  pub chained : Chained keys link heads m.count
  pub keys-long : length keys ≡ length keys₀
  pub link_long : length link ≡ length link₀
  pub heads_long : length heads ≡ length heads₀
