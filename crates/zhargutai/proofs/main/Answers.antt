-- `zhargutai::main` is safe: the line lies within its buffer. Assumes nothing.
use mathlib.Core.Path.{sym}
use Prim.Native.Nat.{◌≤◌}
use native.Mathlib.Omega.{arith}
use lib.ListN.{length}
use lib.Seq.{length-take-le}
use Rattle.jobline.proofs.Lines.{within}
use Rattle.zhargutai.proofs.main.Goals as goal

pub slice_bounds-line-end : goal.slice_bounds-line-end
slice_bounds-line-end c =
    let j = c.job_line-length in
    omega (arith, j.ensures.value, within _ _ j.ensures.out_after j.auto.out, j.auto.out)

pub slice_bounds-put-end : goal.slice_bounds-put-end
slice_bounds-put-end c =
    let j = c.job_line-length in
    let fits : j.result ≤ length j.new.out = omega (arith, j.ensures.value, within _ _ j.ensures.out_after j.auto.out, j.auto.out) in
    sym (length-take-le _ _ fits)
