-- What a walk along some rows of the table that the leaves are read from asks of them, and that a state has such rows.
use Rattle.std.specs.Prelude.{◌≡◌, List, ℕ, ◌+◌, ◌<◌, ◌≤◌, ℤ, length, get_or}
use Rattle.automata.specs.Choice.{Alt}
use Rattle.automata.proofs.Choosing.{Disjoint}
use Rattle.automata.proofs.Order.{Masked}
use Rattle.lookup.specs.Lookup.{pair_row}
use Rattle.lookup.specs.Alts.{ends_in}
use Rattle.oldleaves.specs.Leaf.{Readable}

-- the rows from `from` up to below `to` are leaves of one k
pub record Leaves (rows masks : List ℕ) (coefs : List ℤ) (k from to : ℕ) : Type 0 where
  pub rises : from ≤ to
  pub long : to ≤ length masks
  pub each : (i : ℕ) → from ≤ i → i < to → Readable rows coefs i
  pub one : (i : ℕ) → from ≤ i → i < to → (pair_row rows i).1 ≡ k

-- every alternative has a choice, and no two have one in common
pub record Distinct {X : Type 0} (us : List (Alt X)) : Type 0 where
  pub masked : Masked us
  pub disjoint : Disjoint us

-- state s has rows that are leaves of one k, with choices of their own; `first` says where they begin
pub record LeafState (rows masks : List ℕ) (coefs : List ℤ) (first : List ℕ) (k s : ℕ) : Type 0 where
  pub begun : s + 1 < length first
  pub leaves : Leaves rows masks coefs k (get_or first s 0) (get_or first (s + 1) 0)
  pub distinct : Distinct (ends_in rows masks coefs first s)
