-- `packing::put_levels` meets its contract. The loop's invariant: i records are at the front, and the rest is as it was. Assumes nothing.
use native.Mathlib.Omega.{arith}
use Rattle.stored.specs.Pack.{lv_bytes}
use Rattle.packing.proofs.Rows.{lv_sized, begin, next, all, count_in, counts_part}
use Rattle.packing.proofs.put_levels.Goals as goal

pub loop-i-init : goal.loop-i-init
loop-i-init c =
    begin 4 lv_bytes lv_sized (count_in c.args.counts.now) 0 c.args.out.now c.args.levels c.requires.0

pub loop-i-preserved : goal.loop-i-preserved
loop-i-preserved c =
    next 4 lv_bytes lv_sized (count_in c.args.counts.now) 0 c.loop-i.invariant c.loop-i.i c.loop-i-test.true (omega arith) c.put_lv.ensures

pub returns : goal.returns
returns c =
    rw (← counts_part c.args.counts.now c.args.levels c.requires.1)
    (all 4 lv_bytes lv_sized (count_in c.args.counts.now) 0 c.loop-i.invariant c.loop-i-test.false)
