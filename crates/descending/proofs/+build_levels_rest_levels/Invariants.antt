-- How many levels are left, counted twice: `rest_levels` calls `build_levels` on the same level.
use Prim.Native.Nat.{◌+◌, ◌*◌}
use Rattle.descending.proofs.+build_levels_rest_levels.Given as goal

abbrev pub decreases-build_levels : goal.decreases-build_levels
decreases-build_levels l = 2 * l.here.left

abbrev pub decreases-rest_levels : goal.decreases-rest_levels
decreases-rest_levels l = 2 * l.here.left + 1
