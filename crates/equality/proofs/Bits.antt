-- Two whole numbers are the same as std compares them exactly if the definition says so. Assumes nothing.
use mathlib.Core.Path.{◌≡◌}
use lib.IntN.{ℤ, pos, negsuc}
use native.Mathlib.Omega.{arith}
use Rattle.std.proofs.Common.{int_eq}
use Rattle.std.proofs.lemmas.Bool.Decides.{nat_tests}
use Rattle.amplitude.specs.Amp.{same_z}

pub same_int : (x y : ℤ) → int_eq x y ≡ same_z x y
same_int (pos a) (pos b) = grind (arith, nat_tests)
same_int (pos a) (negsuc b) = grind (arith, nat_tests)
same_int (negsuc a) (pos b) = grind (arith, nat_tests)
same_int (negsuc a) (negsuc b) = grind (arith, nat_tests)
