-- The table that the leaves are read from: the amplitudes that its rows name, and what a pair makes of two.
use Rattle.amplitude.specs.Amp.{Amp, ◌⊕◌, ◌⊖◌}
use Rattle.gates.specs.Key.{Side, L, R}
pub use Rattle.oldleaves.specs.Leaf.{leaf_amp, Readable}

-- "A+B under L, A−B under R"
abbrev pub pair_amp : Side → Amp → Amp → Amp
pair_amp L x y = x ⊕ y
pair_amp R x y = x ⊖ y
