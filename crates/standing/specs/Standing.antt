-- A set that stands in lent slices, with the numbers that the code says of it.
use Rattle.std.specs.Prelude.{◌≡◌, List, ℕ, ℤ, length}
use Rattle.automata.specs.Sets.{QSet, sum}
use Rattle.stored.specs.Rules.{Bounds}
use Rattle.stored.proofs.WellFormed.{WellFormed}
use Rattle.setfile.specs.declared.Form.{Form}
use Rattle.tables.specs.Table.{table_set}
use Rattle.tables.specs.Ready.{Roomy, Unpacked}

-- the set of so many qubits, states and records that the slices hold
abbrev pub set_in : Form → List ℕ → List ℕ → List ℤ → List ℕ → QSet
set_in f rows masks coefs counts = table_set f.n f.k rows masks coefs counts f.inner f.leaves

-- what the code says of a set
abbrev pub form_of : QSet → Form
form_of N = record { n = N.n; k = N.k; states = sum N.counts; inner = length N.inner; leaves = length N.leaves }

-- a well-formed set with these numbers stands in the slices
pub record Stands (rows masks : List ℕ) (coefs : List ℤ) (counts first : List ℕ) (form : Form) (b : Bounds) : Type 0 where
  pub formed : WellFormed b (set_in form rows masks coefs counts)
  pub unpacked : Unpacked rows masks coefs counts first (set_in form rows masks coefs counts)
  pub roomy : Roomy rows masks coefs counts first form.n form.states form.inner form.leaves
  pub all : form.states ≡ sum (set_in form rows masks coefs counts).counts

-- a given set stands in the slices
pub record Holding (rows masks : List ℕ) (coefs : List ℤ) (counts first : List ℕ) (N : QSet) (b : Bounds) : Type 0 where
  pub stands : Stands rows masks coefs counts first (form_of N) b
  pub is : set_in (form_of N) rows masks coefs counts ≡ N
