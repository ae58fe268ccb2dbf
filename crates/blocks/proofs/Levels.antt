-- The level that a walk carries is the one that the counts tell. Assumes nothing.
use mathlib.Core.Path.{◌≡◌, refl}
use mathlib.Core.List.{List}
use Prim.Native.Nat.{ℕ}
use Rattle.meeting.specs.declared.Level.{Level}
use Rattle.matching.specs.Levels.{IsLevel}
use Rattle.blocks.specs.Good.{level_of}

pub level-is : {counts end_counts : List ℕ} {at : ℕ} {l : Level} → IsLevel counts end_counts at l → l ≡ level_of counts end_counts at
level-is {counts} {end_counts} {at} {l} h = rw (← h.from, ← h.to, ← h.start, ← h.stop) refl
