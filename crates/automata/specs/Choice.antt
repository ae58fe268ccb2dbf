-- Document 01, "Trees, words and members": choices, masks, and what a state can take under a choice.
use Rattle.std.specs.Prelude.{Bool, cond, List, [], ◌∷◌, ◌++◌, ℕ, ◌/◌, ◌%◌, ◌^◌, eqb, ltb}
use Rattle.std.proofs.Math.Option.{Option, none, some}
use Rattle.std.specs.Int.Bits.{bit_and}
use Rattle.std.specs.Int.Count.{count_trailing_zeros}

-- "Choices are 0 to 31"
abbrev pub choices_most : ℕ
choices_most = 32

-- "a nonempty 32-bit mask in which choice c has the value 2^c"
abbrev pub has : ℕ → ℕ → Bool
has m c = eqb (m / 2 ^ c % 2) 1

-- the least choice of a mask; 32 for the empty one
abbrev pub least : ℕ → ℕ
least m = count_trailing_zeros 32 m

-- a set of choices and what is taken under them: an inner transition's two states, or a leaf transition's amplitude
pub data Alt (X : Type 0) : Type 0 where
  alt : ℕ → X → Alt X

abbrev pub mask_of : {X : Type 0} → Alt X → ℕ
mask_of (alt m x) = m

abbrev pub map_o : {X Y : Type 0} → (X → Y) → Option X → Option Y
map_o f none = none
map_o f (some x) = some (f x)

abbrev pub zip_o : {X Y Z : Type 0} → (X → Y → Z) → Option X → Option Y → Option Z
zip_o f none y = none
zip_o f (some x) none = none
zip_o f (some x) (some y) = some (f x y)

-- what is taken under choice c
abbrev pub choose : {X : Type 0} → ℕ → List (Alt X) → Option X
choose c [] = none
choose c (alt m x ∷ us) = cond (has m c) (some x) (choose c us)

abbrev pub map_alt : {X Y : Type 0} → (X → Y) → List (Alt X) → List (Alt Y)
map_alt f [] = []
map_alt f (alt m x ∷ us) = alt m (f x) ∷ map_alt f us

-- in order of least choice
abbrev pub insert : {X : Type 0} → Alt X → List (Alt X) → List (Alt X)
insert a [] = a ∷ []
insert a (b ∷ vs) = cond (ltb (least (mask_of a)) (least (mask_of b))) (a ∷ b ∷ vs) (b ∷ insert a vs)

abbrev pub sorted : {X : Type 0} → List (Alt X) → List (Alt X)
sorted [] = []
sorted (a ∷ us) = insert a (sorted us)

-- "one transition for each two transitions whose masks meet, with the intersection as mask", in order of least choice
module _ {X Y Z : Type 0} (f : X → Y → Z) where
  abbrev pub meet_one : ℕ → X → List (Alt Y) → List (Alt Z)
  meet_one m x [] = []
  meet_one m x (alt m' y ∷ vs) = cond (eqb (bit_and m m') 0) (meet_one m x vs) (alt (bit_and m m') (f x y) ∷ meet_one m x vs)

  abbrev pub meets : List (Alt X) → List (Alt Y) → List (Alt Z)
  meets [] vs = []
  meets (alt m x ∷ us) vs = meet_one m x vs ++ meets us vs

  abbrev pub together : List (Alt X) → List (Alt Y) → List (Alt Z)
  together us vs = sorted (meets us vs)
