-- A signed number that fits 32 bits is the number that its bits say. Assumes nothing.
use mathlib.Core.Path.{◌≡◌}
use lib.IntN.{ℤ}
use mir.Syntax.{w32}
use mir.Val.{to_z, of_z, SFits}
use mir.Facts.{to_z-of_z}

pub bits_kept : (z : ℤ) → SFits w32 z → to_z w32 (of_z w32 z) ≡ z
bits_kept z h = to_z-of_z h
