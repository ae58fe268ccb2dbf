-- `packing::put_levels` meets its contract. The loop's invariant: i records are at the front, and the rest is as it was. Assumes nothing.
use Rattle.stored.specs.Pack.{lv_bytes}
use Rattle.packing.proofs.Rows.{Putting, count_in}
use Rattle.packing.proofs.put_levels.Given as goal

abbrev pub invariant-loop-i : goal.invariant-loop-i
invariant-loop-i l =
    Putting 4 lv_bytes (count_in l.counts) 0 l.initial.out l.out l.levels l.i
