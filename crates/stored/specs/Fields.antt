-- Document 01, "Stored form": "Little-endian, signed numbers in two's complement." Numbers of a list of bytes, and bytes of numbers.
use Rattle.std.specs.Prelude.{Bool, cond, ◌&&◌, List, [], ◌∷◌, ℕ, zero, suc, ◌+◌, ◌-◌, ◌*◌, ◌/◌, ◌%◌, get_or, ℤ, pos, negsuc, eqb, ltb}

unfoldable pub u16_at : List ℕ → ℕ → ℕ
u16_at s at = get_or s at 0 + get_or s (at + 1) 0 * 256

unfoldable pub u32_at : List ℕ → ℕ → ℕ
u32_at s at = u16_at s at + u16_at s (at + 2) * 65536

-- the number whose 32 bits in two's complement are x: x below 2^31, else x − 2^32 (`negsuc k` is −(k + 1))
abbrev pub signed32 : ℕ → ℤ
signed32 x = cond (ltb x 2147483648) (pos x) (negsuc (4294967296 - suc x))

unfoldable pub i32_at : List ℕ → ℕ → ℤ
i32_at s at = signed32 (u32_at s at)

-- "Each record begins with a mark, the two ASCII letters named"
unfoldable pub mark_at : ℕ → ℕ → List ℕ → ℕ → Bool
mark_at a b s at = eqb (get_or s at 0) a && eqb (get_or s (at + 1) 0) b

-- `count` records of `size` bytes each, from the place `at` on
unfoldable pub records_from : {X : Type 0} → (ℕ → X) → ℕ → ℕ → ℕ → List X
records_from read at size zero = []
records_from read at size (suc count) = read at ∷ records_from read (at + size) size count

-- ---- the same numbers as bytes
abbrev pub bytes16 : ℕ → List ℕ
bytes16 x = x % 256 ∷ x / 256 % 256 ∷ []

abbrev pub bytes32 : ℕ → List ℕ
bytes32 x = x % 256 ∷ x / 256 % 256 ∷ x / 65536 % 256 ∷ x / 16777216 % 256 ∷ []

abbrev pub unsigned32 : ℤ → ℕ
unsigned32 (pos n) = n
unsigned32 (negsuc n) = 4294967296 - suc n
