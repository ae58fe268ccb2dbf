-- The bounds of both signs are one bound of the size. Assumes nothing.
use mathlib.Core.Path.{◌≡◌, refl, sym, ◌∙◌}
use mathlib.Core.Bool.{Bool, true, false, ◌&&◌}
use lib.Dec.{leb, leb-suc-suc}
use lib.IntN.{ℤ, pos, negsuc}
use lib.Signed.{le_z}
use Rattle.amplitude.specs.Amp.{in_range}

pub range-both : (z : ℤ) → le_z (negsuc 1073741823) z && le_z z (pos 1073741824) ≡ in_range z
range-both (pos n) = refl
range-both (negsuc n) = kept (leb n 1073741823) ∙ sym (leb-suc-suc n 1073741823)
  where
    kept : (b : Bool) → b && true ≡ b
    kept true = refl
    kept false = refl
