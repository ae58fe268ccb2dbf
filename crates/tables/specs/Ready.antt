-- What unpacking asks, a file that the ten rules passed and slices that are long enough for its counts, and what it leaves.
use Rattle.std.specs.Prelude.{◌≡◌, List, ℕ, ◌+◌, ◌*◌, ◌<◌, ◌≤◌, ℤ, length, get_or}
use Rattle.automata.specs.Sets.{QSet, sum}
use Rattle.stored.specs.Form.{form_of, file_size, set_of}
use Rattle.tables.specs.Table.{row_width, leaf_width, Holds}
use Rattle.tables.specs.States.{state_at, Rising}
use Rattle.tables.specs.Unpack.{Room}

-- what HD says, rule 5, rule 7, and what rules 8 to 10 give: all TR and LF records together stand by state
pub record Ready (file : List ℕ) (n k states inner leaves : ℕ) : Type 0 where
  pub form : form_of file ≡ record { n = n; k = k; states = states; inner = inner; leaves = leaves }
  pub whole : file_size (form_of file) ≤ length file
  pub levelled : sum (set_of file).counts ≡ states
  pub ordered : Rising (state_at (set_of file)) (inner + leaves)

-- room for so many levels, states, TR and LF records; a row's number fits two bytes
pub record Roomy (rows masks : List ℕ) (coefs : List ℤ) (counts first : List ℕ) (n states inner leaves : ℕ) : Type 0 where
  pub table : Room rows masks (inner + leaves)
  pub amplitudes : leaves * leaf_width ≤ length coefs
  pub levels : n + 1 ≤ length counts
  pub begins : states + 1 ≤ length first
  pub few : inner + leaves < 65536

-- the slices hold the set, and leaf i's row names row i of the coefficients
pub record Unpacked (rows masks : List ℕ) (coefs : List ℤ) (counts first : List ℕ) (Q : QSet) : Type 0 where
  pub holds : Holds rows masks coefs counts first Q
  pub numbered : (i : ℕ) → i < length Q.leaves → get_or rows ((length Q.inner + i) * row_width + 1) 0 ≡ i
