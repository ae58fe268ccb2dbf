-- Document 01, "A pair walks both its states at once": the meeting transitions of two states in order of least choice, found choice by choice.
use Rattle.std.specs.Prelude.{true, false, cond, List, [], ◌∷◌, ℕ, zero, suc, eqb}
use Rattle.std.specs.Int.Bits.{bit_and, bit_or, bit_xor}
use Rattle.automata.specs.Choice.{Alt, alt, has, least}

-- the choices that some alternative has
abbrev pub union : {X : Type 0} → List (Alt X) → ℕ
union [] = 0
union (alt m x ∷ us) = bit_or m (union us)

-- the first alternative with choice c, with its mask; d where there is none
abbrev pub pick : {X : Type 0} → Alt X → ℕ → List (Alt X) → Alt X
pick d c [] = d
pick d c (alt m x ∷ us) = cond (has m c) (alt m x) (pick d c us)

module _ {X Y Z : Type 0} (f : X → Y → Z) (dx : Alt X) (dy : Alt Y) where
  -- two alternatives together
  abbrev pub joined : Alt X → Alt Y → Alt Z
  joined (alt m x) (alt m' y) = alt (bit_and m m') (f x y)

  abbrev pub mask_of_joined : Alt X → Alt Y → ℕ
  mask_of_joined (alt m x) (alt m' y) = bit_and m m'

  -- of the choices left: the two alternatives at the least of them, and then those that are left without theirs. At most `most` steps.
  unfoldable pub meet_left : ℕ → ℕ → List (Alt X) → List (Alt Y) → List (Alt Z)
  meet_left zero left us vs = []
  meet_left (suc most) left us vs =
      elim (eqb left 0) [
        | true ↦ []
        | false ↦
            joined (pick dx (least left) us) (pick dy (least left) vs)
            ∷ meet_left most (bit_xor left (mask_of_joined (pick dx (least left) us) (pick dy (least left) vs))) us vs
      ]
