-- Angles. What the reader has read of one is the writing of its unfinished trees: each token is appended. Each unfinished angle can be finished: a 0
-- where a factor is wanted, then closing brackets. Assumes nothing.
use mathlib.Core.Path.{◌≡◌, refl, sym, ap, ◌∙◌}
use mathlib.Core.List.{List, [], ◌∷◌, ◌++◌}
use mathlib.Core.Option.{Option, none, some}
use Prim.Native.Nat.{ℕ, zero, suc}
use Rattle.qasm.specs.Token.{Mark, number, pi, plus, minus, times, over, opens, closes, Token, mark}
use Rattle.qasm.specs.Angle.{sum, product, factor, Angle, whole, pie, bracket, one, scale, divide, write}
use Rattle.qasm.specs.Machine.{Before, nothing, negated, added, taken, Open, begin, scaled, divided, Around, outside, within, Part, want, got, done, sum_of, fill, deeper, close, sign, next}
use Rattle.qasm.proofs.Lists.{app, append-nil, on, on3}

abbrev pub before : {d : ℕ} → Before d → List Token
before nothing = []
before negated = mark minus ∷ []
before (added s) = write s ++ (mark plus ∷ [])
before (taken s) = write s ++ (mark minus ∷ [])

abbrev pub opened : {d : ℕ} → Open d → List Token
opened (begin b) = before b
opened (scaled b p) = before b ++ (write p ++ (mark times ∷ []))
opened (divided b p) = before b ++ (write p ++ (mark over ∷ []))

abbrev pub around : {top d : ℕ} → Around top d → List Token
around outside = []
around (within K o) = around K ++ (opened o ++ (mark opens ∷ []))

-- what was read of an angle
abbrev pub partly : {top : ℕ} → Part top → List Token
partly (want K o) = around K ++ opened o
partly (got K b p) = around K ++ (before b ++ write p)
partly (done s) = write s ++ (mark closes ∷ [])

filled : {top d : ℕ} (K : Around top d) (o : Open d) (f : Angle factor d) → partly (fill K o f) ≡ (around K ++ opened o) ++ write f
filled K (begin b) f = on (around K) (before b) (write f)
filled K (scaled b p) f = ap (λ l. around K ++ l) (ap (λ l. before b ++ l) (on (write p) (mark times ∷ []) (write f)) ∙ on (before b) (write p ++ (mark times ∷ [])) (write f)) ∙ on (around K) (before b ++ (write p ++ (mark times ∷ []))) (write f)
filled K (divided b p) f = ap (λ l. around K ++ l) (ap (λ l. before b ++ l) (on (write p) (mark over ∷ []) (write f)) ∙ on (before b) (write p ++ (mark over ∷ [])) (write f)) ∙ on (around K) (before b ++ (write p ++ (mark over ∷ []))) (write f)

summed : {d : ℕ} (b : Before d) (p : Angle product d) → write (sum_of b p) ≡ before b ++ write p
summed nothing p = refl
summed negated p = refl
summed (added s) p = on (write s) (mark plus ∷ []) (write p)
summed (taken s) p = on (write s) (mark minus ∷ []) (write p)

closed : {top d : ℕ} (K : Around top d) (s : Angle sum d) → partly (close K s) ≡ (around K ++ write s) ++ (mark closes ∷ [])
closed outside s = refl
closed (within K o) s =
    filled K o (bracket s)
    ∙ app (around K) (opened o) (mark opens ∷ (write s ++ (mark closes ∷ [])))
    ∙ ap (λ l. around K ++ l) (on (opened o) (mark opens ∷ []) (write s ++ (mark closes ∷ [])))
    ∙ on (around K) (opened o ++ (mark opens ∷ [])) (write s ++ (mark closes ∷ []))
    ∙ on (around K ++ (opened o ++ (mark opens ∷ []))) (write s) (mark closes ∷ [])

closed_sum : {top d : ℕ} (K : Around top d) (b : Before d) (p : Angle product d) → partly (close K (sum_of b p)) ≡ partly (got K b p) ++ (mark closes ∷ [])
closed_sum K b p = closed K (sum_of b p) ∙ ap (λ l. (around K ++ l) ++ (mark closes ∷ [])) (summed b p)

-- ---- a step appends its token
abbrev pub Appended : {top : ℕ} → Option (Part top) → List Token → Type 0
Appended none l = Unit {0}
Appended (some s) l = partly s ≡ l

deep : {top : ℕ} (d : ℕ) (K : Around top d) (o : Open d) → Appended (deeper d K o) ((around K ++ opened o) ++ (mark opens ∷ []))
deep zero K o = tt
deep (suc d) K o = append-nil _ ∙ on (around K) (opened o) (mark opens ∷ [])

signed : {top d : ℕ} (K : Around top d) (o : Open d) → Appended (sign K o) ((around K ++ opened o) ++ (mark minus ∷ []))
signed K (begin nothing) = on (around K) [] (mark minus ∷ [])
signed K (begin negated) = tt
signed K (begin (added s)) = tt
signed K (begin (taken s)) = tt
signed K (scaled b p) = tt
signed K (divided b p) = tt

pub appended : {top : ℕ} (s : Part top) (m : Mark) → Appended (next s m) (partly s ++ (mark m ∷ []))
appended (want K o) (number n) = filled K o (whole n)
appended (want K o) pi = filled K o pie
appended (want {d = d} K o) opens = deep d K o
appended (want K o) minus = signed K o
appended (want K o) plus = tt
appended (want K o) times = tt
appended (want K o) over = tt
appended (want K o) closes = tt
appended (got K b p) plus = ap (λ l. around K ++ (l ++ (mark plus ∷ []))) (summed b p) ∙ on (around K) (before b ++ write p) (mark plus ∷ [])
appended (got K b p) minus = ap (λ l. around K ++ (l ++ (mark minus ∷ []))) (summed b p) ∙ on (around K) (before b ++ write p) (mark minus ∷ [])
appended (got K b p) times = on3 (around K) (before b) (write p) (mark times ∷ [])
appended (got K b p) over = on3 (around K) (before b) (write p) (mark over ∷ [])
appended (got K b p) closes = closed_sum K b p
appended (got K b p) (number n) = tt
appended (got K b p) pi = tt
appended (got K b p) opens = tt
appended (done s) m = tt

-- ---- each part can be finished
abbrev pub closing : {top d : ℕ} → Around top d → List Token
closing outside = mark closes ∷ []
closing (within K o) = mark closes ∷ closing K

-- an angle, with its closing bracket, that is written as this and so much more
pub record Finished (top : ℕ) (l : List Token) : Type 0 where
  pub angle : Angle sum top
  pub more : List Token
  pub is : l ++ more ≡ write angle ++ (mark closes ∷ [])

fill-ends : {top d : ℕ} (K : Around top d) (o : Open d) (f : Angle factor d) → ((b : Before d) (p : Angle product d) → (a : Angle sum top) × (partly (got K b p) ++ closing K ≡ write a ++ (mark closes ∷ []))) → (a : Angle sum top) × (partly (fill K o f) ++ closing K ≡ write a ++ (mark closes ∷ []))
fill-ends K (begin b) f h = h b (one f)
fill-ends K (scaled b p) f h = h b (scale p f)
fill-ends K (divided b p) f h = h b (divide p f)

got-ends : {top d : ℕ} (K : Around top d) (b : Before d) (p : Angle product d) → (a : Angle sum top) × (partly (got K b p) ++ closing K ≡ write a ++ (mark closes ∷ []))
got-ends outside b p = (sum_of b p, sym (closed_sum outside b p))
got-ends (within K o) b p =
    let f = fill-ends K o (bracket (sum_of b p)) (got-ends K) in
    (f.0, on (partly (got (within K o) b p)) (mark closes ∷ []) (closing K) ∙ ap (λ l. l ++ closing K) (sym (closed_sum (within K o) b p)) ∙ f.1)

pub finished : {top : ℕ} (s : Part top) → Finished top (partly s)
finished (want K o) =
    let f = fill-ends K o (whole 0) (got-ends K) in
    record { angle = f.0; more = mark (number 0) ∷ closing K; is = on (around K ++ opened o) (mark (number 0) ∷ []) (closing K) ∙ ap (λ l. l ++ closing K) (sym (filled K o (whole 0))) ∙ f.1 }
finished (got K b p) = let f = got-ends K b p in record { angle = f.0; more = closing K; is = f.1 }
finished (done s) = record { angle = s; more = []; is = append-nil (write s ++ (mark closes ∷ [])) }
