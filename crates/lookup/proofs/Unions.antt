-- A union of masks has a choice exactly if one of them has it, that is if a scan for the choice finds a row. Assumes nothing.
use mathlib.Core.Path.{◌≡◌, refl, ◌∙◌}
use mathlib.Core.Bool.{Bool, true, false, cond, ◌||◌}
use mathlib.Core.List.{List}
use mathlib.Core.Option.{Option, none, some}
use Prim.Native.Nat.{ℕ, zero, suc}
use lib.ListN.{get_or}
use Rattle.automata.specs.Choice.{has, map_o}
use Rattle.automata.proofs.Masks.{has-zero, has_or}
use Rattle.lookup.specs.Lookup.{row_with, union_of, is_some}

pub union-has : (masks : List ℕ) (c from count : ℕ) → has (union_of masks from count) c ≡ is_some (row_with masks c from count)
unfolding union_of row_with
union-has masks c from zero = has-zero c
union-has masks c from (suc count) = has_or (get_or masks from 0) (union_of masks (suc from) count) c ∙ go (has (get_or masks from 0) c) (union-has masks c (suc from) count)
  where
    go : (b : Bool) → has (union_of masks (suc from) count) c ≡ is_some (row_with masks c (suc from) count)
        → b || has (union_of masks (suc from) count) c ≡ is_some (cond b (some from) (row_with masks c (suc from) count))
    go true e = refl
    go false e = e

pub some-map : {X Y : Type 0} (f : X → Y) (o : Option X) → is_some (map_o f o) ≡ is_some o
some-map f none = refl
some-map f (some x) = refl
