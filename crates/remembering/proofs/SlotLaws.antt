-- A slot's row and stack are parts of the lists of all slots: what a comparison with its cells says of its block, and how large the numbers
-- of a block are. Assumes nothing.
use mathlib.Core.Path.{◌∙◌}
use mathlib.Core.List.{List}
use Prim.Native.Nat.{ℕ, ◌+◌, ◌*◌, ◌<◌, ◌≤◌}
use native.Mathlib.Nat.{mul-le-mul_right}
use native.Mathlib.Omega.{arith}
use lib.ListN.{length}
use lib.Seq.{get_or-drop}
use Rattle.meeting.proofs.Places.{words-before}
use Rattle.std.specs.Prelude.{Option}
use Rattle.remembering.specs.declared.Seen.{Seen}
use Rattle.remembering.specs.Copies.{Equal, EqualPlanes, Spans, SpansPlanes}
use Rattle.remembering.specs.Fits.{Placed, Fits}
use Rattle.remembering.specs.Memory.{Same, slot_row, slot_stack, levels_most, cell_of}

-- every slot has room for the block
pub fits-placed : {at from to p wide plane room cells slots : ℕ} {row stack kept rows : List ℕ} {seen : List (Option Seen)} (k : ℕ)
    → Fits at from to p wide plane room cells slots row stack kept rows seen → k < slots → Placed from to p wide plane room cells k row stack kept rows
fits-placed {plane = plane} {room} {cells} {slots} k f lt = record {
  rising = f.rising;
  short = f.short;
  narrow = f.narrow;
  few = f.few;
  in_row = f.in_row;
  in_stack = f.in_stack;
  in_rows = omega (arith, f.in_rows, words-before cells k slots lt);
  in_kept = omega (arith, f.in_kept, words-before (room * plane) k slots lt);
}

-- and a cell for each level
pub cell_below : (k at slots size : ℕ) → k < slots → at < levels_most → slots * levels_most ≤ size → cell_of k at < size
cell_below k at slots size lt l h = omega arith

module _ {from to p wide plane room cells k : ℕ} {row stack kept rows : List ℕ} (w : Placed from to p wide plane room cells k row stack kept rows) where
  pub marks-start : from * wide ≤ plane
  marks-start = omega (arith, w.narrow, mul-le-mul_right wide w.rising)

  -- its bytes lie in the slot's row
  pub in_slot : Spans from to (k * cells) (length row) (length rows)
  in_slot = record { rising = w.rising; source = w.in_row; target = omega (arith, w.in_rows, w.short) }

  pub placed-planes : SpansPlanes (from * wide) (to * wide) plane p (k * (room * plane)) (length stack) (length kept)
  placed-planes =
      let h = mul-le-mul_right plane w.few in
      record {
        rising = mul-le-mul_right wide w.rising;
        narrow = w.narrow;
        source = omega (arith, w.in_stack);
        target = omega (arith, w.in_kept);
      }

-- a slot's row and stack are what stands in its part
pub same_slot : (wide room cells k : ℕ) {from to plane p : ℕ} {row stack kept rows : List ℕ}
    → Equal from to (k * cells) row rows → EqualPlanes (from * wide) (to * wide) plane p (k * (room * plane)) stack kept
    → Same wide plane from to p row stack (slot_row cells k rows) (slot_stack room plane k kept)
same_slot wide room cells k {plane = plane} {kept = kept} {rows} a b = record {
  states = λ s l h. get_or-drop (k * cells) rows s 0 ∙ a.cells s l h;
  marks = λ j i q l h. get_or-drop (k * (room * plane)) kept (j * plane + i) 0 ∙ b.cells j i q l h;
}
