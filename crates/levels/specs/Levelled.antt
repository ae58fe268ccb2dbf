-- Document 01, "Stored form": where a set's LV records stand.
use Rattle.std.specs.Prelude.{◌≡◌, List, ℕ, ◌+◌, ◌*◌, ◌≤◌, length}
use Rattle.stored.specs.Form.{form_of, hd_size, lv_size}

-- n is what HD says, and its "n+1 records" are there
pub record Levelled (s : List ℕ) (n : ℕ) : Type 0 where
  pub is : n ≡ (form_of s).n
  pub room : hd_size + lv_size * (n + 1) ≤ length s
