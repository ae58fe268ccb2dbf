-- Document 02, request 1: "a bracketed angle holds a sum, and a sum holds bracketed angles; whole numbers of at most four digits, pi, + − and tighter
-- * /, all from the left, a minus before a sum's first term, 16 brackets deep with u1's own". The grammar on its own: trees, the tokens that each is
-- written as, and what each means.
use Rattle.std.specs.Prelude.{Bool, true, false, cond, ◌&&◌, List, [], ◌∷◌, ◌++◌, ℕ, suc, ◌*◌, ◌-◌, ◌/◌, ◌%◌, eqb}
use Rattle.std.proofs.Math.Option.{Option, none, some}
use Rattle.qasm.specs.Token.{number, pi, plus, minus, times, over, opens, closes, Token, mark}
use Rattle.qasm.specs.Fraction as Fraction
use Rattle.qasm.specs.Fraction.{Fraction, fraction, plus_f, times_f, over_f, minus_f, is_zero, 0F}

pub data Rank : Type 0 where
  sum product factor : Rank

-- d more brackets may be opened inside; sums and products grow to the left
pub data Angle : Rank → ℕ → Type 0 where
  whole : {d : ℕ} → ℕ → Angle factor d
  pie : {d : ℕ} → Angle factor d
  bracket : {d : ℕ} → Angle sum d → Angle factor (suc d)
  one : {d : ℕ} → Angle factor d → Angle product d
  scale : {d : ℕ} → Angle product d → Angle factor d → Angle product d
  divide : {d : ℕ} → Angle product d → Angle factor d → Angle product d
  term : {d : ℕ} → Angle product d → Angle sum d
  negate : {d : ℕ} → Angle product d → Angle sum d
  add : {d : ℕ} → Angle sum d → Angle product d → Angle sum d
  take : {d : ℕ} → Angle sum d → Angle product d → Angle sum d

-- the tokens that an angle is written as
abbrev pub write : {r : Rank} {d : ℕ} → Angle r d → List Token
write (whole n) = mark (number n) ∷ []
write pie = mark pi ∷ []
write (bracket s) = mark opens ∷ (write s ++ (mark closes ∷ []))
write (one f) = write f
write (scale p f) = write p ++ (mark times ∷ write f)
write (divide p f) = write p ++ (mark over ∷ write f)
write (term p) = write p
write (negate p) = mark minus ∷ write p
write (add s p) = write s ++ (mark plus ∷ write p)
write (take s p) = write s ++ (mark minus ∷ write p)

-- "Values are r + s times pi"
pub data Value : Type 0 where
  value : Fraction → Fraction → Value

abbrev pub on_some : {X Y : Type 0} → Option X → (X → Option Y) → Option Y
on_some none f = none
on_some (some x) f = f x

-- both parts, if both are inside
abbrev pub joined : Option Fraction → Option Fraction → Option Value
joined r s = on_some r (λ a. on_some s (λ b. some (value a b)))

abbrev pub plus_v : Value → Value → Option Value
plus_v (value r s) (value u v) = joined (plus_f r u) (plus_f s v)

abbrev pub minus_v : Value → Value
minus_v (value r s) = value (minus_f r) (minus_f s)

-- none for "a product with both s not 0"
abbrev pub times_v : Value → Value → Option Value
times_v (value r s) (value u v) = cond (is_zero s) (joined (times_f r u) (times_f r v)) (cond (is_zero v) (joined (times_f r u) (times_f s u)) none)

-- none for "a divisor that is zero or has s not 0"
abbrev pub over_v : Value → Value → Option Value
over_v (value r s) (value u v) = cond (is_zero v) (cond (is_zero u) none (joined (over_f r u) (over_f s u))) none

abbrev pub value_of : {r : Rank} {d : ℕ} → Angle r d → Option Value
value_of (whole n) = some (value (Fraction.whole n) 0F)
value_of pie = some (value 0F (Fraction.whole 1))
value_of (bracket s) = value_of s
value_of (one f) = value_of f
value_of (scale p f) = on_some (value_of p) (λ a. on_some (value_of f) (λ b. times_v a b))
value_of (divide p f) = on_some (value_of p) (λ a. on_some (value_of f) (λ b. over_v a b))
value_of (term p) = value_of p
value_of (negate p) = on_some (value_of p) (λ a. some (minus_v a))
value_of (add s p) = on_some (value_of s) (λ a. on_some (value_of p) (λ b. plus_v a b))
value_of (take s p) = on_some (value_of s) (λ a. on_some (value_of p) (λ b. plus_v a (minus_v b)))

-- m modulo 8, with its sign
abbrev pub modulo8 : Bool → ℕ → ℕ
modulo8 false m = m % 8
modulo8 true m = (8 - m % 8) % 8

-- "The angle must be exactly m times pi/4": m modulo 8
abbrev pub quarters : Value → Option ℕ
quarters (value r (fraction m a b)) = cond (is_zero r && eqb (4 * a % b) 0) (some (modulo8 m (4 * a / b))) none

abbrev pub turn_of : {r : Rank} {d : ℕ} → Angle r d → Option ℕ
turn_of a = on_some (value_of a) quarters

-- "16 brackets deep with u1's own": so many inside
abbrev pub deepest : ℕ
deepest = 15
