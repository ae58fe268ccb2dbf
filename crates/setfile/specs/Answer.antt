-- The code's bounds and header, and what of the definitions they are.
use Rattle.std.specs.Prelude.{◌≡◌, List, ℕ, length}
use Rattle.stored.specs.Form as stored
use Rattle.stored.specs.Rules as rules
use Rattle.setfile.specs.declared.Form.{Form}
use Rattle.setfile.specs.declared.Bounds.{Bounds}

-- "At most 1,024 states (128 in an end set), 2,048 inner, 1,024 leaves"
abbrev pub bounds_of : Bounds → rules.Bounds
bounds_of b = record { states = b.states; inner = b.inner; leaves = b.leaves }

-- HD: "n, k .. states, inner, leaves"
abbrev pub form_in : Form → stored.Form
form_in f = record { n = f.n; k = f.k; states = f.states; inner = f.inner; leaves = f.leaves }

-- what HD says in a file, as the code holds it
unfoldable pub form_read : List ℕ → Form
form_read s = let F = stored.form_of s in record { n = F.n; k = F.k; states = F.states; inner = F.inner; leaves = F.leaves }

-- a file as long as its header says
pub record Whole (s : List ℕ) (f : Form) : Type 0 where
  pub is : form_in f ≡ stored.form_of s
  pub size : length s ≡ stored.file_size (form_in f)
