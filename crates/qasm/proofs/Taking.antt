-- The reader takes what programs are written as, and stands where it should: by the tree. An angle that fails the test stops it at its bracket.
-- Assumes nothing.
use mathlib.Core.Path.{◌≡◌, refl, sym, ap, ◌∙◌, subst}
use mathlib.Core.Bool.{Bool, true, false, cond, ◌&&◌, not, false≢true}
use mathlib.Core.List.{List, [], ◌∷◌, ◌++◌, map}
use Prim.Native.Nat.{ℕ}
use native.Mathlib.Omega.{arith}
use lib.Dec.{eqb, leb, ltb}
use borrow.Author.Tests.{eqb-false, ltb-true, le-leb, not-true}
use Rattle.qasm.specs.Token.{number, plus, minus, times, over, opens, closes, u1, semicolon, begins, ends, comma, Token, mark, gate, fixed, name}
use Rattle.qasm.specs.Angle as angle
use Rattle.qasm.specs.Angle.{sum, product, factor, Rank, Angle, whole, pie, one, scale, divide, term, negate, add, take, write, deepest}
use Rattle.qasm.specs.Grammar.{Call, alone, both, turn, Program, fits, all_fit, is_size, proper, indexed, write_call, write_calls, written}
use Rattle.qasm.specs.Machine as machine
use Rattle.qasm.specs.Machine.{Before, nothing, negated, taken, Open, begin, scaled, divided, Around, outside, within, Part, want, got, done, fill, close}
use Rattle.qasm.specs.Reading.{Item, exactly, named, is_item, one_of, control, target, turned, Slot, naming, sizing, calling, aiming, turning, State, wait, Step, dies, twenty, goes, added, ending, to_index, bracket_place, in_angle, step, start}
use Rattle.qasm.proofs.Lists.{app, append-nil, passed}
use Rattle.qasm.proofs.Steps.{token_of, is_item_lem, Test, ok_call, all_ok, Fine, Twenty}

-- ---- many tokens
abbrev pub onward : Step → (State → Step) → Step
onward dies f = dies
onward (twenty b) f = twenty b
onward (goes s) f = f s

abbrev pub run : Test → State → List Token → Step
run ok s [] = goes s
run ok s (t ∷ ts) = onward (step ok s t) (λ s'. run ok s' ts)

pub run_append : (ok : Test) (s : State) (ts us : List Token) → run ok s (ts ++ us) ≡ onward (run ok s ts) (λ s'. run ok s' us)
run_append ok s [] us = refl
run_append ok s (t ∷ ts) us = go (step ok s t) (λ s'. run_append ok s' ts us)
  where
    go : (o : Step) → ((s' : State) → run ok s' (ts ++ us) ≡ onward (run ok s' ts) (λ x. run ok x us))
        → onward o (λ s'. run ok s' (ts ++ us)) ≡ onward (onward o (λ s'. run ok s' ts)) (λ x. run ok x us)
    go dies h = refl
    go (twenty b) h = refl
    go (goes x) h = h x

-- a test that passes
passes : (ok : Test) (b : Bool) (s : Step) (rest : List Token) → b ≡ true → onward (cond b s dies) (λ s'. run ok s' rest) ≡ onward s (λ s'. run ok s' rest)
passes ok true s rest e = refl
passes ok false s rest e = absurd (false≢true e)

-- tokens that must come, and do
pub expected : (ok : Test) (is : List Item) (s : Slot) (rest : List Token) → run ok (wait is s) (map token_of is ++ rest) ≡ run ok (wait [] s) rest
expected ok [] s rest = refl
expected ok (i ∷ is) s rest = passes ok (is_item i (token_of i)) (goes (wait is s)) (map token_of is ++ rest) (is_item_lem i) ∙ expected ok is s rest

-- ---- angles
-- after a sum the reader has its last product
abbrev after : {d : ℕ} → Around deepest d → Angle sum d → Part deepest
after K (term p) = got K nothing p
after K (negate p) = got K negated p
after K (add s p) = got K (machine.added s) p
after K (take s p) = got K (taken s) p

abbrev run_in : Test → Program → Part deepest → List Token → Step
run_in ok P s l = run ok (wait [] (turning P s)) l

abbrev Claim : Test → Program → (r : Rank) (d : ℕ) → Angle r d → Type 0
Claim ok P sum d s = (K : Around deepest d) (rest : List Token) → run_in ok P (want K (begin nothing)) (write s ++ rest) ≡ run_in ok P (after K s) rest
Claim ok P product d p = (K : Around deepest d) (b : Before d) (rest : List Token) → run_in ok P (want K (begin b)) (write p ++ rest) ≡ run_in ok P (got K b p) rest
Claim ok P factor d f = (K : Around deepest d) (o : Open d) (rest : List Token) → run_in ok P (want K o) (write f ++ rest) ≡ run_in ok P (fill K o f) rest

filled : (ok : Test) (P : Program) {d : ℕ} (K : Around deepest d) (o : Open d) (f : Angle factor d) (rest : List Token)
    → onward (in_angle ok P (fill K o f)) (λ s'. run ok s' rest) ≡ run_in ok P (fill K o f) rest
filled ok P K (begin b) f rest = refl
filled ok P K (scaled b p) f rest = refl
filled ok P K (divided b p) f rest = refl

closed : (ok : Test) (P : Program) {d : ℕ} (K : Around deepest d) (s : Angle sum d) (rest : List Token)
    → run_in ok P (after K s) (mark closes ∷ rest) ≡ onward (in_angle ok P (close K s)) (λ s'. run ok s' rest)
closed ok P K (term p) rest = refl
closed ok P K (negate p) rest = refl
closed ok P K (add s p) rest = refl
closed ok P K (take s p) rest = refl

plussed : (ok : Test) (P : Program) {d : ℕ} (K : Around deepest d) (s : Angle sum d) (rest : List Token)
    → run_in ok P (after K s) (mark plus ∷ rest) ≡ run_in ok P (want K (begin (machine.added s))) rest
plussed ok P K (term p) rest = refl
plussed ok P K (negate p) rest = refl
plussed ok P K (add s p) rest = refl
plussed ok P K (take s p) rest = refl

minused : (ok : Test) (P : Program) {d : ℕ} (K : Around deepest d) (s : Angle sum d) (rest : List Token)
    → run_in ok P (after K s) (mark minus ∷ rest) ≡ run_in ok P (want K (begin (taken s))) rest
minused ok P K (term p) rest = refl
minused ok P K (negate p) rest = refl
minused ok P K (add s p) rest = refl
minused ok P K (take s p) rest = refl

pub reads : (ok : Test) (P : Program) {r : Rank} {d : ℕ} (a : Angle r d) → Claim ok P r d a
reads ok P (whole n) = λ K o rest. filled ok P K o (whole n) rest
reads ok P pie = λ K o rest. filled ok P K o pie rest
reads ok P (angle.bracket s) = λ K o rest.
    ap (λ l. run_in ok P (want (within K o) (begin nothing)) l) (app (write s) (mark closes ∷ []) rest) ∙ reads ok P s (within K o) (mark closes ∷ rest) ∙ closed ok P (within K o) s rest ∙ filled ok P K o (angle.bracket s) rest
reads ok P (one f) = λ K b rest. reads ok P f K (begin b) rest
reads ok P (scale p f) = λ K b rest.
    ap (λ l. run_in ok P (want K (begin b)) l) (app (write p) (mark times ∷ write f) rest) ∙ reads ok P p K b (mark times ∷ (write f ++ rest)) ∙ reads ok P f K (scaled b p) rest
reads ok P (divide p f) = λ K b rest.
    ap (λ l. run_in ok P (want K (begin b)) l) (app (write p) (mark over ∷ write f) rest) ∙ reads ok P p K b (mark over ∷ (write f ++ rest)) ∙ reads ok P f K (divided b p) rest
reads ok P (term p) = λ K rest. reads ok P p K nothing rest
reads ok P (negate p) = λ K rest. reads ok P p K negated rest
reads ok P (add s p) = λ K rest.
    ap (λ l. run_in ok P (want K (begin nothing)) l) (app (write s) (mark plus ∷ write p) rest) ∙ reads ok P s K (mark plus ∷ (write p ++ rest)) ∙ plussed ok P K s (write p ++ rest) ∙ reads ok P p K (machine.added s) rest
reads ok P (take s p) = λ K rest.
    ap (λ l. run_in ok P (want K (begin nothing)) l) (app (write s) (mark minus ∷ write p) rest) ∙ reads ok P s K (mark minus ∷ (write p ++ rest)) ∙ minused ok P K s (write p ++ rest) ∙ reads ok P p K (taken s) rest

-- u1's own brackets and the angle in them
pub reads_angle : (ok : Test) (p : Program) (a : Angle sum deepest) (rest : List Token)
    → run ok (wait [] (calling p)) (gate u1 ∷ mark opens ∷ (write a ++ (mark closes ∷ rest))) ≡ onward (in_angle ok p (done a)) (λ s'. run ok s' rest)
reads_angle ok p a rest = reads ok p a outside (mark closes ∷ rest) ∙ closed ok p outside a rest

pub bad_angle : (ok : Test) (p : Program) (a : Angle sum deepest) (rest : List Token) → ok a ≡ false
    → run ok (wait [] (calling p)) (gate u1 ∷ mark opens ∷ (write a ++ (mark closes ∷ rest))) ≡ twenty (bracket_place p)
bad_angle ok p a rest e = reads_angle ok p a rest ∙ ap (λ b. onward (cond b (to_index p (turned a)) (twenty (bracket_place p))) (λ s'. run ok s' rest)) e

-- ---- calls
abbrev tail : List Token → List Token
tail rest = fixed ends ∷ fixed semicolon ∷ rest

two : (a b n : ℕ) → ltb a n ≡ true → ltb b n ≡ true → eqb a b ≡ false → leb 2 n ≡ true
two a b n e f g =
    let ne = eqb-false a b g in
    let lt = ltb-true a n e in
    let lu = ltb-true b n f in
    le-leb 2 n (omega arith)

call_reads : (ok : Test) (p : Program) (c : Call) (rest : List Token) → fits p.qubits c ≡ true → ok_call ok c ≡ true
    → run ok (wait [] (calling p)) (write_call p.register c ++ rest) ≡ run ok (wait [] (calling (added p c))) rest
call_reads ok p (alone g i) rest f o =
    expected ok (named p.register ∷ exactly begins ∷ []) (aiming p (one_of g)) (mark (number i) ∷ tail rest)
    ∙ passes ok (ltb i p.qubits) (ending p (alone g i)) (tail rest) f
    ∙ expected ok (exactly ends ∷ exactly semicolon ∷ []) (calling (added p (alone g i))) rest
call_reads ok p (both g a b) rest f o =
    let h = passed (ltb a p.qubits) (ltb b p.qubits && not (eqb a b)) f in
    let k = passed (ltb b p.qubits) (not (eqb a b)) h.1 in
    let back = mark (number b) ∷ tail rest in
    let front = fixed ends ∷ fixed comma ∷ name p.register ∷ fixed begins ∷ back in
    passes ok (leb 2 p.qubits) (to_index p (control g)) (name p.register ∷ fixed begins ∷ mark (number a) ∷ front) (two a b p.qubits h.0 k.0 (not-true (eqb a b) k.1))
    ∙ expected ok (named p.register ∷ exactly begins ∷ []) (aiming p (control g)) (mark (number a) ∷ front)
    ∙ passes ok (ltb a p.qubits) (goes (wait (exactly ends ∷ exactly comma ∷ named p.register ∷ exactly begins ∷ []) (aiming p (target g a)))) front h.0
    ∙ expected ok (exactly ends ∷ exactly comma ∷ named p.register ∷ exactly begins ∷ []) (aiming p (target g a)) back
    ∙ passes ok (ltb b p.qubits && not (eqb a b)) (ending p (both g a b)) (tail rest) h.1
    ∙ expected ok (exactly ends ∷ exactly semicolon ∷ []) (calling (added p (both g a b))) rest
call_reads ok p (turn a i) rest f o =
    let back = mark (number i) ∷ tail rest in
    ap (λ l. run ok (wait [] (calling p)) (gate u1 ∷ mark opens ∷ l)) (app (write a) (mark closes ∷ (indexed p.register i ++ (fixed semicolon ∷ []))) rest)
    ∙ reads_angle ok p a (name p.register ∷ fixed begins ∷ back)
    ∙ ap (λ b. onward (cond b (to_index p (turned a)) (twenty (bracket_place p))) (λ s'. run ok s' (name p.register ∷ fixed begins ∷ back))) o
    ∙ expected ok (named p.register ∷ exactly begins ∷ []) (aiming p (turned a)) back
    ∙ passes ok (ltb i p.qubits) (ending p (turn a i)) (tail rest) f
    ∙ expected ok (exactly ends ∷ exactly semicolon ∷ []) (calling (added p (turn a i))) rest

call_stops : (ok : Test) (p : Program) (c : Call) (rest : List Token) → ok_call ok c ≡ false
    → run ok (wait [] (calling p)) (write_call p.register c ++ rest) ≡ twenty (bracket_place p)
call_stops ok p (alone g i) rest o = absurd (false≢true (sym o))
call_stops ok p (both g a b) rest o = absurd (false≢true (sym o))
call_stops ok p (turn a i) rest o =
    ap (λ l. run ok (wait [] (calling p)) (gate u1 ∷ mark opens ∷ l)) (app (write a) (mark closes ∷ (indexed p.register i ++ (fixed semicolon ∷ []))) rest)
    ∙ bad_angle ok p a _ o

-- ---- programs
abbrev with : Program → List Call → Program
with p cs = record { register = p.register; qubits = p.qubits; calls = cs }

calls_read : (ok : Test) (p : Program) (cs : List Call) (rest : List Token) → all_fit p.qubits cs ≡ true → all_ok ok cs ≡ true
    → run ok (wait [] (calling p)) (write_calls p.register cs ++ rest) ≡ run ok (wait [] (calling (with p (p.calls ++ cs)))) rest
calls_read ok p [] rest f o = ap (λ (l : List Call). run ok (wait [] (calling (with p l))) rest) (sym (append-nil p.calls))
calls_read ok p (c ∷ cs) rest f o =
    let h = passed (fits p.qubits c) (all_fit p.qubits cs) f in
    let k = passed (ok_call ok c) (all_ok ok cs) o in
    ap (λ l. run ok (wait [] (calling p)) l) (app (write_call p.register c) (write_calls p.register cs) rest)
    ∙ call_reads ok p c (write_calls p.register cs ++ rest) h.0 k.0
    ∙ calls_read ok (added p c) cs rest h.1 k.1
    ∙ ap (λ (l : List Call). run ok (wait [] (calling (with p l))) rest) (app p.calls (c ∷ []) cs)

abbrev empty : Program → Program
empty p = with p []

headed : (ok : Test) (p : Program) (rest : List Token) → proper p ≡ true → run ok start (written p ++ rest) ≡ run ok (wait [] (calling (empty p))) (write_calls p.register p.calls ++ rest)
headed ok p rest e =
    passes ok (is_size p.qubits) (goes (wait (exactly ends ∷ exactly semicolon ∷ []) (calling (empty p)))) (tail (write_calls p.register p.calls ++ rest)) (passed (is_size p.qubits) (all_fit p.qubits p.calls) e).0

pub program_reads : (ok : Test) (p : Program) (rest : List Token) → Fine ok p → run ok start (written p ++ rest) ≡ run ok (wait [] (calling p)) rest
program_reads ok p rest h =
    headed ok p rest h.is_proper ∙ calls_read ok (empty p) p.calls rest (passed (is_size p.qubits) (all_fit p.qubits p.calls) h.is_proper).1 h.is_ok

-- "two programs written alike are the same"
any : Test
any a = true

all_any : (cs : List Call) → all_ok any cs ≡ true
unfolding any
all_any [] = refl
all_any (alone g i ∷ cs) = all_any cs
all_any (both g a b ∷ cs) = all_any cs
all_any (turn a i ∷ cs) = all_any cs

abbrev program_in : Program → Step → Program
program_in p dies = p
program_in p (twenty b) = p
program_in p (goes (wait is naming)) = p
program_in p (goes (wait is (sizing q))) = p
program_in p (goes (wait is (calling r))) = r
program_in p (goes (wait is (aiming r a))) = p
program_in p (goes (wait is (turning r s))) = p

pub alike : (p r : Program) → proper p ≡ true → proper r ≡ true → written p ≡ written r → p ≡ r
alike p r e f same =
    let one : (x : Program) → proper x ≡ true → run any start (written x) ≡ goes (wait [] (calling x)) =
    λ x h. ap (λ l. run any start l) (sym (append-nil (written x))) ∙ program_reads any x [] (record { is_proper = h; is_ok = all_any x.calls }) in
    ap (λ (s : Step). program_in p s) (sym (one p e) ∙ ap (λ l. run any start l) same ∙ one r f)

-- a program is read to its end, or to its first angle that fails
abbrev pub AtEnd : State → Type 0
AtEnd (wait [] naming) = ⊥
AtEnd (wait [] (sizing q)) = ⊥
AtEnd (wait [] (calling p)) = Unit {0}
AtEnd (wait [] (aiming p a)) = ⊥
AtEnd (wait [] (turning p s)) = ⊥
AtEnd (wait (i ∷ is) s) = ⊥

abbrev pub Lives : Step → Type 0
Lives dies = ⊥
Lives (twenty b) = Unit {0}
Lives (goes s) = AtEnd s

calls_live : (ok : Test) (p : Program) (cs : List Call) (rest : List Token) → all_fit p.qubits cs ≡ true → ((r : Program) → Lives (run ok (wait [] (calling r)) rest)) → Lives (run ok (wait [] (calling p)) (write_calls p.register cs ++ rest))
calls_live ok p [] rest f live = live p
calls_live ok p (c ∷ cs) rest f live =
    subst (λ (l : List Token). Lives (run ok (wait [] (calling p)) l)) (sym (app (write_call p.register c) (write_calls p.register cs) rest)) (go (ok_call ok c) refl (calls_live ok (added p c) cs rest h.1 live))
  where
    h : (fits p.qubits c ≡ true) × (all_fit p.qubits cs ≡ true)
    h = passed (fits p.qubits c) (all_fit p.qubits cs) f

    go : (b : Bool) → ok_call ok c ≡ b → Lives (run ok (wait [] (calling (added p c))) (write_calls p.register cs ++ rest)) → Lives (run ok (wait [] (calling p)) (write_call p.register c ++ (write_calls p.register cs ++ rest)))
    go true o ih = subst (λ (s : Step). Lives s) (sym (call_reads ok p c _ h.0 o)) ih
    go false o ih = subst (λ (s : Step). Lives s) (sym (call_stops ok p c _ o)) tt

pub program_lives : (ok : Test) (p : Program) → proper p ≡ true → Lives (run ok start (written p))
program_lives ok p e =
    subst (λ (l : List Token). Lives (run ok start l)) (append-nil (written p))
    (subst (λ (s : Step). Lives s) (sym (headed ok p [] e)) (calls_live ok (empty p) p.calls [] (passed (is_size p.qubits) (all_fit p.qubits p.calls) e).1 (λ r. tt)))

-- at the first angle that fails it stops
pub twenty_run : (ok : Test) (ts : List Token) (b : ℕ) → Twenty ok ts b → run ok start ts ≡ twenty b
twenty_run ok ts b h =
    ap (λ l. run ok start l) h.is
    ∙ program_reads ok h.gates _ h.fine
    ∙ bad_angle ok h.gates h.angle h.rest h.fails
    ∙ ap (λ x. twenty x) (sym h.place)
