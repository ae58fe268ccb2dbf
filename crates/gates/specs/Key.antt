-- Document 01, "What each gate builds": the states of a gate's result, by what they are of the old set. "Kind, tag and both old numbers tell
-- states apart; nothing else is merged."
use Rattle.std.specs.Prelude.{Bool, true, false, ◌&&◌, ℕ, zero, suc, ◌+◌, ◌*◌, eqb}

-- "A+B under L, A−B under R"
pub data Side : Type 0 where
  L R : Side

pub data Key : Type 0 where
  plain : ℕ → Key
  shifted : ℕ → ℕ → Key
  inside : ℕ → Key
  pair : ℕ → ℕ → Side → Key

-- shifted j; a state that is not shifted is plain
abbrev pub turned : ℕ → ℕ → Key
turned zero q = plain q
turned (suc j) q = shifted (suc j) q

abbrev pub same_side : Side → Side → Bool
same_side L L = true
same_side L R = false
same_side R L = false
same_side R R = true

abbrev pub same_key : Key → Key → Bool
same_key (plain q) (plain p) = eqb q p
same_key (plain q) (shifted i p) = false
same_key (plain q) (inside p) = false
same_key (plain q) (pair p p' s) = false
same_key (shifted j q) (plain p) = false
same_key (shifted j q) (shifted i p) = eqb j i && eqb q p
same_key (shifted j q) (inside p) = false
same_key (shifted j q) (pair p p' s) = false
same_key (inside q) (plain p) = false
same_key (inside q) (shifted i p) = false
same_key (inside q) (inside p) = eqb q p
same_key (inside q) (pair p p' s) = false
same_key (pair q q' u) (plain p) = false
same_key (pair q q' u) (shifted i p) = false
same_key (pair q q' u) (inside p) = false
same_key (pair q q' u) (pair p p' s) = same_side u s && (eqb q p && eqb q' p')

-- ---- keys as they are stored: kind and tag, then both old numbers in radix 65,536
abbrev pub radix : ℕ
radix = 65536

abbrev pub packed : ℕ → ℕ → ℕ → ℕ
packed tag q p = (tag * radix + q) * radix + p

abbrev pub side_tag : Side → ℕ
side_tag L = 2
side_tag R = 3

abbrev pub stored : Key → ℕ
stored (plain q) = packed 0 q 0
stored (inside q) = packed 1 q 0
stored (pair q p s) = packed (side_tag s) q p
stored (shifted j q) = packed (4 + j) q 0
