-- A state of a table with so many states has its rows there, and the key that a number stores says which states' rows give its records. Assumes nothing.
use mathlib.Core.Path.{◌≡◌, sym, ap, ◌∙◌}
use mathlib.Core.List.{List}
use Prim.Native.Nat.{ℕ, ◌<◌}
use native.Mathlib.Omega.{arith}
use Rattle.automata.specs.Choice.{map_alt, together}
use Rattle.gates.specs.Key as def
use Rattle.gates.specs.Roles.{Role, pair_kids, key_moves}
use Rattle.tables.specs.Slices.{Table}
use Rattle.stepwise.specs.Code.{first_in, second_in, unstored, stored_two, KeyOf}
use Rattle.roles.specs.declared.Single.{Single}
use Rattle.roles.specs.declared.Side.{Side}
use Rattle.roles.specs.declared.Key.TheVariants.{One, Pair}
use Rattle.roles.specs.Kept.{side_is, key_is, single_kids}
use Rattle.roles.proofs.KeyMoves.{single-moves}
use Rattle.lookup.specs.Alts.{moves_in}
use Rattle.moving.specs.Moves.{moves_of, Source}
use Rattle.leveling.specs.Keyed.{RowsOf, KeyRows}

-- of a table with so many states
pub rows-of : {T : Table} {states : ℕ} → Source T.rows T.masks T.first states → (q : ℕ) → q < states → RowsOf T q
rows-of s q h = record { begun = omega (arith, s.first_there); rows = record { rows_there = s.rows_there q h; masks_there = s.masks_there q h; masked = s.masked q h; disjoint = s.disjoint q h } }

pub key-rows : {T : Table} {states : ℕ} → Source T.rows T.masks T.first states → (x : ℕ) → KeyOf states x → KeyRows T x
key-rows s x k = record { tag = k.tag; first = rows-of s (first_in x) k.first; second = rows-of s (second_in x) k.second }

module _ (o : Role) (rows masks first : List ℕ) (x : ℕ) where
  -- what a key that is no pair gives, and what a pair gives
  pub single_of : (how : Single) (q : ℕ) → key_is (One how q) ≡ unstored x → map_alt stored_two (map_alt (single_kids o how) (moves_in rows masks first q)) ≡ moves_of o rows masks first x
  unfolding moves_of
  single_of how q e =
      ap (map_alt stored_two) (sym (single-moves o (moves_in rows masks first) how q) ∙ ap (key_moves o (moves_in rows masks first)) e)

  pub pair_of : (s : Side) (q p : ℕ) → key_is (Pair s q p) ≡ unstored x
      → map_alt stored_two (together (pair_kids o (side_is s)) (moves_in rows masks first q) (moves_in rows masks first p)) ≡ moves_of o rows masks first x
  unfolding moves_of
  pair_of s q p e = ap (λ (k : def.Key). map_alt stored_two (key_moves o (moves_in rows masks first) k)) e
