-- Document 01, "Replies": the work buffers that a caller lends. Their sizes are fixed numbers that docs/ names; here they are an argument.
use Rattle.std.specs.Prelude.{Bool, true, false, cond, ◌&&◌, List, [], ◌∷◌, ◌++◌, ℕ, ℤ, pos, length, replicate, drop, leb}

-- a lent buffer's cells, unsigned or signed
pub data Buffer : Type 0 where
  unsigned : List ℕ → Buffer
  signed : List ℤ → Buffer

abbrev pub cells : Buffer → ℕ
cells (unsigned l) = length l
cells (signed l) = length l

-- 17: "a lent buffer shorter than its named size"; sizes and buffers in their order
abbrev pub long_enough : List ℕ → List Buffer → Bool
long_enough [] work = true
long_enough (n ∷ sizes) [] = false
long_enough (n ∷ sizes) (b ∷ work) = leb n (cells b) && long_enough sizes work

-- "their named size is zero, further bytes unchanged"
abbrev pub zeroed : {X : Type 0} → X → ℕ → List X → List X
zeroed z n l = replicate n z ++ drop n l

abbrev pub wiped : ℕ → Buffer → Buffer
wiped n (unsigned l) = unsigned (zeroed 0 n l)
wiped n (signed l) = signed (zeroed (pos 0) n l)

abbrev pub wiped_all : List ℕ → List Buffer → List Buffer
wiped_all [] work = work
wiped_all (n ∷ sizes) [] = []
wiped_all (n ∷ sizes) (b ∷ work) = wiped n b ∷ wiped_all sizes work

-- "After refusal 17 they are unchanged. After any other reply their named size is zero, further bytes unchanged."
unfoldable pub work_after : Bool → List ℕ → List Buffer → List Buffer
work_after long sizes work = cond long (wiped_all sizes work) work
