-- A reader of angles, one token at a time: what was read so far, as unfinished trees.
use Rattle.std.proofs.Math.Option.{Option, none, some}
use Rattle.std.specs.Prelude.{ℕ, zero, suc}
use Rattle.qasm.specs.Token.{Mark, number, pi, plus, minus, times, over, opens, closes}
use Rattle.qasm.specs.Angle.{sum, product, factor, Angle, whole, pie, bracket, one, scale, divide, term, negate, add, take}

-- what stands before a product in its sum: nothing, a minus, a sum and + or −
pub data Before (d : ℕ) : Type 0 where
  nothing negated : Before d
  added taken : Angle sum d → Before d

-- what stands before a factor: a product begins, or a product and * or /
pub data Open (d : ℕ) : Type 0 where
  begin : Before d → Open d
  scaled divided : Before d → Angle product d → Open d

-- the sums around, of which each waits for a factor: the innermost first
pub data Around : ℕ → ℕ → Type 0 where
  outside : {d : ℕ} → Around d d
  within : {top d : ℕ} → Around top (suc d) → Open (suc d) → Around top d

-- a factor must come; a factor was read; the last bracket was closed
pub data Part (top : ℕ) : Type 0 where
  want : {d : ℕ} → Around top d → Open d → Part top
  got : {d : ℕ} → Around top d → Before d → Angle product d → Part top
  done : Angle sum top → Part top

abbrev pub sum_of : {d : ℕ} → Before d → Angle product d → Angle sum d
sum_of nothing p = term p
sum_of negated p = negate p
sum_of (added s) p = add s p
sum_of (taken s) p = take s p

-- a factor where one was wanted
abbrev pub fill : {top d : ℕ} → Around top d → Open d → Angle factor d → Part top
fill K (begin b) f = got K b (one f)
fill K (scaled b p) f = got K b (scale p f)
fill K (divided b p) f = got K b (divide p f)

-- one more bracket is opened, if it may be
abbrev pub deeper : {top : ℕ} (d : ℕ) → Around top d → Open d → Option (Part top)
deeper zero K o = none
deeper (suc d) K o = some (want (within K o) (begin nothing))

-- a sum is closed
abbrev pub close : {top d : ℕ} → Around top d → Angle sum d → Part top
close outside s = done s
close (within K o) s = fill K o (bracket s)

-- a minus where a factor is wanted
abbrev pub sign : {top d : ℕ} → Around top d → Open d → Option (Part top)
sign K (begin nothing) = some (want K (begin negated))
sign K (begin negated) = none
sign K (begin (added s)) = none
sign K (begin (taken s)) = none
sign K (scaled b p) = none
sign K (divided b p) = none

abbrev pub next : {top : ℕ} → Part top → Mark → Option (Part top)
next (want K o) (number n) = some (fill K o (whole n))
next (want K o) pi = some (fill K o pie)
next (want {d = d} K o) opens = deeper d K o
next (want K o) minus = sign K o
next (want K o) plus = none
next (want K o) times = none
next (want K o) over = none
next (want K o) closes = none
next (got K b p) plus = some (want K (begin (added (sum_of b p))))
next (got K b p) minus = some (want K (begin (taken (sum_of b p))))
next (got K b p) times = some (want K (scaled b p))
next (got K b p) over = some (want K (divided b p))
next (got K b p) closes = some (close K (sum_of b p))
next (got K b p) (number n) = none
next (got K b p) pi = none
next (got K b p) opens = none
next (done s) m = none
