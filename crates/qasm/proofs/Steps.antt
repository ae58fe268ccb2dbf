-- Each step of the reader appends its token to what was read: what must still come, put after what was read, leads to the place that the reader is at.
-- On the way the program so far stays proper, and every angle in it passes the test. Assumes nothing.
use mathlib.Core.Path.{◌≡◌, refl, sym, ap, ◌∙◌, subst}
use mathlib.Core.Bool.{Bool, true, false, cond, ◌&&◌, not, false≢true}
use mathlib.Core.List.{List, [], ◌∷◌, ◌++◌, map}
use mathlib.Core.Option.{Option, none, some}
use Prim.Native.Nat.{ℕ}
use lib.ListN.{get_or}
use lib.Dec.{eqb, leb, ltb}
use borrow.Author.Tests.{eqb-true, eq-eqb}
use Rattle.qasm.specs.Token.{Mark, number, pi, plus, minus, times, over, opens, closes, Word, single, double, u1, Fixed, openqasm, version, semicolon, include, file, qreg, begins, ends, comma, Token, mark, gate, fixed, name, bad}
use Rattle.qasm.specs.Angle.{sum, Angle, write, deepest}
use Rattle.qasm.specs.Grammar.{Call, alone, both, turn, Program, fits, all_fit, is_size, proper, heading, indexed, write_call, write_calls, written}
use Rattle.qasm.specs.Machine.{Part, want, got, done, next}
use Rattle.qasm.specs.Reading.{Item, exactly, named, bracket, number_of, is_opens, is_item, Aim, one_of, control, target, turned, Slot, naming, sizing, calling, aiming, turning, State, wait, Step, dies, twenty, goes, onto, count_of, added, ending, to_index, called, aimed, bracket_place, in_angle, at, step, start}
use Rattle.qasm.proofs.Lists.{app, append-nil, on, one_more, same_bytes_lem, bytes_same, passed, pass}
use Rattle.qasm.proofs.Parts.{partly, Appended, appended}

-- ---- tokens that must come
abbrev pub token_of : Item → Token
token_of (exactly f) = fixed f
token_of (named q) = name q
token_of bracket = mark opens

fixed_at : ℕ → Fixed
fixed_at i = get_or (openqasm ∷ version ∷ semicolon ∷ include ∷ file ∷ qreg ∷ begins ∷ ends ∷ comma ∷ []) i openqasm

fixed_back : (f : Fixed) → fixed_at (number_of f) ≡ f
unfolding fixed_at
fixed_back openqasm = refl
fixed_back version = refl
fixed_back semicolon = refl
fixed_back include = refl
fixed_back file = refl
fixed_back qreg = refl
fixed_back begins = refl
fixed_back ends = refl
fixed_back comma = refl

opens_is : (m : Mark) → is_opens m ≡ true → m ≡ opens
opens_is (number n) e = absurd (false≢true e)
opens_is pi e = absurd (false≢true e)
opens_is plus e = absurd (false≢true e)
opens_is minus e = absurd (false≢true e)
opens_is times e = absurd (false≢true e)
opens_is over e = absurd (false≢true e)
opens_is opens e = refl
opens_is closes e = absurd (false≢true e)

pub item_is : (i : Item) (t : Token) → is_item i t ≡ true → t ≡ token_of i
item_is (exactly f) (fixed g) e = ap (λ x. fixed x) (sym (fixed_back g) ∙ ap fixed_at (sym (eqb-true (number_of f) (number_of g) e)) ∙ fixed_back f)
item_is (exactly f) (mark m) e = absurd (false≢true e)
item_is (exactly f) (gate w) e = absurd (false≢true e)
item_is (exactly f) (name q) e = absurd (false≢true e)
item_is (exactly f) bad e = absurd (false≢true e)
item_is (named q) (name r) e = ap (λ x. name x) (sym (same_bytes_lem q r e))
item_is (named q) (mark m) e = absurd (false≢true e)
item_is (named q) (gate w) e = absurd (false≢true e)
item_is (named q) (fixed g) e = absurd (false≢true e)
item_is (named q) bad e = absurd (false≢true e)
item_is bracket (mark m) e = ap (λ x. mark x) (opens_is m e)
item_is bracket (gate w) e = absurd (false≢true e)
item_is bracket (fixed g) e = absurd (false≢true e)
item_is bracket (name q) e = absurd (false≢true e)
item_is bracket bad e = absurd (false≢true e)

pub is_item_lem : (i : Item) → is_item i (token_of i) ≡ true
is_item_lem (exactly f) = eq-eqb (number_of f) (number_of f) refl
is_item_lem (named q) = bytes_same q
is_item_lem bracket = refl

-- ---- a call more
-- a test of angles, and calls whose angles pass it
abbrev pub Test : Type 0
Test = Angle sum deepest → Bool

abbrev pub ok_call : Test → Call → Bool
ok_call ok (alone g i) = true
ok_call ok (both g a b) = true
ok_call ok (turn a i) = ok a

abbrev pub all_ok : Test → List Call → Bool
all_ok ok [] = true
all_ok ok (c ∷ cs) = ok_call ok c && all_ok ok cs

pub record Fine (ok : Test) (p : Program) : Type 0 where
  pub is_proper : proper p ≡ true
  pub is_ok : all_ok ok p.calls ≡ true

fit-more : (n : ℕ) (cs : List Call) (c : Call) → all_fit n cs ≡ true → fits n c ≡ true → all_fit n (cs ++ (c ∷ [])) ≡ true
fit-more n [] c e f = pass (fits n c) true f refl
fit-more n (d ∷ cs) c e f = let h = passed (fits n d) (all_fit n cs) e in pass (fits n d) _ h.0 (fit-more n cs c h.1 f)

ok-more : (ok : Test) (cs : List Call) (c : Call) → all_ok ok cs ≡ true → ok_call ok c ≡ true → all_ok ok (cs ++ (c ∷ [])) ≡ true
ok-more ok [] c e f = pass (ok_call ok c) true f refl
ok-more ok (d ∷ cs) c e f = let h = passed (ok_call ok d) (all_ok ok cs) e in pass (ok_call ok d) _ h.0 (ok-more ok cs c h.1 f)

pub proper-added : (p : Program) (c : Call) → proper p ≡ true → fits p.qubits c ≡ true → proper (added p c) ≡ true
proper-added p c e f = let h = passed (is_size p.qubits) (all_fit p.qubits p.calls) e in pass (is_size p.qubits) _ h.0 (fit-more p.qubits p.calls c h.1 f)

fine_added : {ok : Test} (p : Program) (c : Call) → Fine ok p → fits p.qubits c ≡ true → ok_call ok c ≡ true → Fine ok (added p c)
fine_added {ok} p c h f o = record { is_proper = proper-added p c h.is_proper f; is_ok = ok-more ok p.calls c h.is_ok o }

calls-added : (q : List ℕ) (cs : List Call) (c : Call) → write_calls q (cs ++ (c ∷ [])) ≡ write_calls q cs ++ write_call q c
calls-added q [] c = append-nil (write_call q c)
calls-added q (d ∷ cs) c = ap (λ l. write_call q d ++ l) (calls-added q cs c) ∙ on (write_call q d) (write_calls q cs) (write_call q c)

pub write-added : (p : Program) (c : Call) → written (added p c) ≡ written p ++ write_call p.register c
write-added p c = ap (λ l. heading ++ (indexed p.register p.qubits ++ (fixed semicolon ∷ l))) (calls-added p.register p.calls c)

-- ---- where the reader is
abbrev pub to_aim : Program → Aim → List Token
to_aim p (one_of g) = gate (single g) ∷ name p.register ∷ fixed begins ∷ []
to_aim p (control g) = gate (double g) ∷ name p.register ∷ fixed begins ∷ []
to_aim p (target g a) = gate (double g) ∷ (indexed p.register a ++ (fixed comma ∷ name p.register ∷ fixed begins ∷ []))
to_aim p (turned a) = gate u1 ∷ mark opens ∷ (write a ++ (mark closes ∷ name p.register ∷ fixed begins ∷ []))

-- all that is written before a place
abbrev pub up_to : Slot → List Token
up_to naming = heading
up_to (sizing q) = heading ++ (name q ∷ fixed begins ∷ [])
up_to (calling p) = written p
up_to (aiming p a) = written p ++ to_aim p a
up_to (turning p s) = written p ++ (gate u1 ∷ mark opens ∷ partly s)

abbrev pub SoundAim : Test → Program → Aim → Type 0
SoundAim ok p (one_of g) = Unit {0}
SoundAim ok p (control g) = leb 2 p.qubits ≡ true
SoundAim ok p (target g a) = (leb 2 p.qubits ≡ true) × (ltb a p.qubits ≡ true)
SoundAim ok p (turned a) = ok a ≡ true

abbrev pub Sound : Test → Slot → Type 0
Sound ok naming = Unit {0}
Sound ok (sizing q) = Unit {0}
Sound ok (calling p) = Fine ok p
Sound ok (aiming p a) = Fine ok p × SoundAim ok p a
Sound ok (turning p s) = Fine ok p

-- "20, at the opening bracket of an angle read whole" that fails the test, where all before it is well: the first such
pub record Twenty (ok : Test) (ts : List Token) (b : ℕ) : Type 0 where
  pub gates : Program
  pub fine : Fine ok gates
  pub angle : Angle sum deepest
  pub fails : ok angle ≡ false
  pub rest : List Token
  pub is : ts ≡ written gates ++ (gate u1 ∷ mark opens ∷ (write angle ++ (mark closes ∷ rest)))
  pub place : b ≡ bracket_place gates

abbrev pub Grown : Test → Step → List Token → Type 0
Grown ok dies l = Unit {0}
Grown ok (twenty b) l = (h : Twenty ok l b) × (h.rest ≡ [])
Grown ok (goes (wait is s)) l = Sound ok s × (l ++ map token_of is ≡ up_to s)

-- ---- each place
on_count : (ok : Test) (t : Token) (f : ℕ → Step) (w : List Token) → ((n : ℕ) → Grown ok (f n) (w ++ (mark (number n) ∷ []))) → Grown ok (onto (count_of t) f) (w ++ (t ∷ []))
on_count ok (mark (number n)) f w h = h n
on_count ok (mark pi) f w h = tt
on_count ok (mark plus) f w h = tt
on_count ok (mark minus) f w h = tt
on_count ok (mark times) f w h = tt
on_count ok (mark over) f w h = tt
on_count ok (mark opens) f w h = tt
on_count ok (mark closes) f w h = tt
on_count ok (gate w₁) f w h = tt
on_count ok (fixed g) f w h = tt
on_count ok (name q) f w h = tt
on_count ok bad f w h = tt

-- where the test passes
if_so : (ok : Test) (b : Bool) (s : Step) (l : List Token) → (b ≡ true → Grown ok s l) → Grown ok (cond b s dies) l
if_so ok true s l h = h refl
if_so ok false s l h = tt

ended : (ok : Test) (p : Program) (c : Call) (a : List Token) (t : Token) → a ++ (t ∷ fixed ends ∷ fixed semicolon ∷ []) ≡ write_call p.register c
    → Fine ok (added p c) → Grown ok (ending p c) ((written p ++ a) ++ (t ∷ []))
ended ok p c a t e h = (h, one_more (written p) a t (fixed ends ∷ fixed semicolon ∷ []) ∙ ap (λ l. written p ++ l) e ∙ sym (write-added p c))

aim_grown : (ok : Test) (p : Program) (a : Aim) (i : ℕ) → Sound ok (aiming p a) → Grown ok (aimed p a i) (up_to (aiming p a) ++ (mark (number i) ∷ []))
aim_grown ok p (one_of g) i h = if_so ok (ltb i p.qubits) _ _ (λ e. ended ok p (alone g i) (to_aim p (one_of g)) (mark (number i)) refl (fine_added p (alone g i) h.0 e refl))
aim_grown ok p (control g) i h = if_so ok (ltb i p.qubits) _ _ (λ e. ((h.0, (h.1, e)), one_more (written p) (to_aim p (control g)) (mark (number i)) _))
aim_grown ok p (target g a) i h = if_so ok (ltb i p.qubits && not (eqb a i)) _ _ (λ e.
    ended ok p (both g a i) (to_aim p (target g a)) (mark (number i)) refl (fine_added p (both g a i) h.0 (pass (ltb a p.qubits) _ h.1.1 e) refl))
aim_grown ok p (turned a) i h = if_so ok (ltb i p.qubits) _ _ (λ e.
    ended ok p (turn a i) (to_aim p (turned a)) (mark (number i))
    (ap (λ l. gate u1 ∷ mark opens ∷ l) (app (write a) (mark closes ∷ name p.register ∷ fixed begins ∷ []) (mark (number i) ∷ fixed ends ∷ fixed semicolon ∷ [])))
    (fine_added p (turn a i) h.0 e h.1))

call_grown : (ok : Test) (p : Program) (w : Word) → Fine ok p → Grown ok (called p w) (written p ++ (gate w ∷ []))
call_grown ok p (single g) h = ((h, tt), app (written p) (gate (single g) ∷ []) _)
call_grown ok p (double g) h = if_so ok (leb 2 p.qubits) _ _ (λ e. ((h, e), app (written p) (gate (double g) ∷ []) _))
call_grown ok p u1 h = (h, app (written p) (gate u1 ∷ []) (mark opens ∷ []))

-- an angle's token
further : (p : Program) (s s' : Part deepest) (m : Mark) → partly s' ≡ partly s ++ (mark m ∷ []) → up_to (turning p s) ++ (mark m ∷ []) ≡ up_to (turning p s')
further p s s' m e = app (written p) (gate u1 ∷ mark opens ∷ partly s) (mark m ∷ []) ∙ ap (λ l. written p ++ (gate u1 ∷ mark opens ∷ l)) (sym e)

angle_grown : (ok : Test) (p : Program) (s : Part deepest) (l : List Token) → Fine ok p → l ≡ up_to (turning p s) → Grown ok (in_angle ok p s) l
angle_grown ok p (want K o) l h e = (h, append-nil l ∙ e)
angle_grown ok p (got K b f) l h e = (h, append-nil l ∙ e)
angle_grown ok p (done a) l h e = go (ok a) refl
  where
    go : (b : Bool) → ok a ≡ b → Grown ok (cond b (to_index p (turned a)) (twenty (bracket_place p))) l
    go true t = (
      (h, t),
      ap (λ x. x ++ (name p.register ∷ fixed begins ∷ [])) e
          ∙ app (written p) (gate u1 ∷ mark opens ∷ (write a ++ (mark closes ∷ []))) (name p.register ∷ fixed begins ∷ [])
          ∙ ap (λ x. written p ++ (gate u1 ∷ mark opens ∷ x)) (app (write a) (mark closes ∷ []) (name p.register ∷ fixed begins ∷ [])),
    )
    go false t = (record { gates = p; fine = h; angle = a; fails = t; rest = []; is = e; place = refl }, refl)

turn-grown : (ok : Test) (p : Program) (s : Part deepest) (m : Mark) (o : Option (Part deepest)) → Fine ok p → Appended o (partly s ++ (mark m ∷ [])) → Grown ok (onto o (in_angle ok p)) (up_to (turning p s) ++ (mark m ∷ []))
turn-grown ok p s m none h g = tt
turn-grown ok p s m (some s') h g = angle_grown ok p s' _ h (further p s s' m g)

at-grown : (ok : Test) (s : Slot) (t : Token) → Sound ok s → Grown ok (at ok s t) (up_to s ++ (t ∷ []))
at-grown ok naming (name q) h = (tt, refl)
at-grown ok naming (mark m) h = tt
at-grown ok naming (gate w) h = tt
at-grown ok naming (fixed g) h = tt
at-grown ok naming bad h = tt
at-grown ok (sizing q) t h = on_count ok t _ (up_to (sizing q)) (λ n. if_so ok (is_size n) _ _ (λ e. (record { is_proper = pass (is_size n) true e refl; is_ok = refl }, refl)))
at-grown ok (calling p) (gate w) h = call_grown ok p w h
at-grown ok (calling p) (mark m) h = tt
at-grown ok (calling p) (fixed g) h = tt
at-grown ok (calling p) (name q) h = tt
at-grown ok (calling p) bad h = tt
at-grown ok (aiming p a) t h = on_count ok t (aimed p a) (up_to (aiming p a)) (λ i. aim_grown ok p a i h)
at-grown ok (turning p s) (mark m) h = turn-grown ok p s m (next s m) h (appended s m)
at-grown ok (turning p s) (gate w) h = tt
at-grown ok (turning p s) (fixed g) h = tt
at-grown ok (turning p s) (name q) h = tt
at-grown ok (turning p s) bad h = tt

pub step-grown : (ok : Test) (s : State) (t : Token) (l : List Token) → Grown ok (goes s) l → Grown ok (step ok s t) (l ++ (t ∷ []))
step-grown ok (wait [] s) t l g = subst (λ (x : List Token). Grown ok (at ok s t) (x ++ (t ∷ []))) (sym (sym (append-nil l) ∙ g.1)) (at-grown ok s t g.0)
step-grown ok (wait (i ∷ is) s) t l g = if_so ok (is_item i t) (goes (wait is s)) (l ++ (t ∷ [])) (λ e.
    (g.0, app l (t ∷ []) (map token_of is) ∙ ap (λ x. l ++ (x ∷ map token_of is)) (item_is i t e) ∙ g.1))

-- the reader at its start has read nothing
pub start-grown : (ok : Test) → Grown ok (goes start) []
start-grown ok = (tt, refl)
