-- The table that the leaves are read from: what the walk of a stored key's states asks of it.
use Rattle.std.specs.Prelude.{List, ℕ, ◌<◌, ℤ}
use Rattle.stepwise.specs.Code.{tag_in, first_in, second_in}
pub use Rattle.oldleaves.specs.Source.{Leaves, Distinct, LeafState}

-- a stored key whose states are such; only a pair has a second one
pub record LeafKey (rows masks : List ℕ) (coefs : List ℤ) (first : List ℕ) (k x : ℕ) : Type 0 where
  pub tag : tag_in x < 260
  pub one : LeafState rows masks coefs first k (first_in x)
  pub two : 1 < tag_in x → tag_in x < 4 → LeafState rows masks coefs first k (second_in x)
