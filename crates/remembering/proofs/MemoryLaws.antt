-- Nothing is remembered where no slot has anything. Assumes nothing.
use mathlib.Core.Path.{◌≡◌, sym, ◌∙◌}
use mathlib.Core.List.{List}
use Prim.Native.Nat.{ℕ, ◌*◌, ◌≤◌}
use lib.ListN.{replicate, get_or-replicate}
use Rattle.std.specs.Prelude.{Option}
use Rattle.std.specs.declared.option.Option.TheVariants.{Some, None}
use Rattle.remembering.specs.declared.Seen.{Seen}
use Rattle.remembering.specs.Memory.{levels_most, cell_of, Saying, Memory}
use Rattle.remembering.proofs.SlotLaws.{cell_below}

not-some : {s : Seen} → ◌≡◌ {A = Option Seen} None (Some s) → ⊥
not-some e = cc

pub nothing : (wide plane room cells slots : ℕ) (low : ℕ → ℕ) (good : Saying) (size : ℕ) (rows kept : List ℕ) → slots * levels_most ≤ size
    → Memory wide plane room cells slots low good (replicate size None) rows kept
nothing wide plane room cells slots low good size rows kept fits = record {
  each = λ k at m p lt l some.
      absurd (not-some (sym (get_or-replicate size (cell_of k at) None None (cell_below k at slots size lt l fits)) ∙ some));
}
