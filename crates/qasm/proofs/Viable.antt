-- Wherever the reader is, some text of the grammar goes on from there: a 0 or a 1 for an index, a 0 and closing brackets for an angle. What it has died
-- on no text of the grammar begins with, since it reads all of them. Assumes nothing.
use mathlib.Core.Path.{◌≡◌, refl, sym, ap, ◌∙◌, subst}
use mathlib.Core.Bool.{true, not}
use mathlib.Core.List.{List, [], ◌∷◌, ◌++◌, map}
use Prim.Native.Nat.{ℕ, zero, suc}
use native.Mathlib.Omega.{arith}
use lib.Dec.{leb, ltb}
use borrow.Author.Tests.{leb-true, lt-ltb, ne_eqb}
use Rattle.qasm.specs.Token.{number, opens, closes, Double, u1, semicolon, begins, ends, Token, mark, gate, fixed, name}
use Rattle.qasm.specs.Angle.{write}
use Rattle.qasm.specs.Grammar.{Call, alone, both, turn, Program, fits, all_fit, is_size, proper, write_call, written}
use Rattle.qasm.specs.Reading.{Aim, one_of, control, target, turned, Slot, naming, sizing, calling, aiming, turning, State, wait, Step, dies, twenty, goes, added, step, start}
use Rattle.qasm.proofs.Lists.{app, append-nil, on, passed, pass}
use Rattle.qasm.proofs.Parts.{partly, finished}
use Rattle.qasm.proofs.Steps.{token_of, Test, proper-added, write-added, up_to, to_aim, Sound, Twenty, Grown, step-grown}
use Rattle.qasm.proofs.Taking.{onward, run, run_append, Lives, AtEnd, program_lives}

-- "this subset's grammar .. lacks the text": some program is written so
pub record Whole (ts : List Token) : Type 0 where
  pub program : Program
  pub is_proper : proper program ≡ true
  pub is : written program ≡ ts

-- some text of the grammar begins so
pub record Begins (ts : List Token) : Type 0 where
  pub program : Program
  pub is_proper : proper program ≡ true
  pub rest : List Token
  pub is : ts ++ rest ≡ written program

-- ---- each place goes on
some_qubit : (p : Program) → proper p ≡ true → ltb 0 p.qubits ≡ true
some_qubit p e =
    let h = passed (is_size p.qubits) (all_fit p.qubits p.calls) e in
    let k = leb-true 1 p.qubits (passed (leb 1 p.qubits) (leb p.qubits 20) h.0).0 in
    lt-ltb 0 p.qubits (omega arith)

other : ℕ → ℕ
other zero = 1
other (suc a) = 0

fits-other : (g : Double) (n a : ℕ) → leb 2 n ≡ true → ltb a n ≡ true → fits n (both g a (other a)) ≡ true
unfolding other
fits-other g n zero e f = let k = leb-true 2 n e in pass (ltb 0 n) _ f (pass (ltb 1 n) _ (lt-ltb 1 n (omega arith)) refl)
fits-other g n (suc a) e f =
    let k = leb-true 2 n e in
    pass (ltb (suc a) n) _ f (pass (ltb 0 n) _ (lt-ltb 0 n (omega arith)) (ap (λ b. not b) (ne_eqb (suc a) 0 (λ z. omega (arith, z)))))

with_call : (p : Program) (c : Call) (a rest : List Token) → proper p ≡ true → fits p.qubits c ≡ true → a ++ rest ≡ write_call p.register c → Begins (written p ++ a)
with_call p c a rest e f same = record { program = added p c; is_proper = proper-added p c e f; rest = rest; is = app (written p) a rest ∙ ap (λ l. written p ++ l) same ∙ sym (write-added p c) }

abbrev index : Program → ℕ → List Token
index p i = name p.register ∷ fixed begins ∷ mark (number i) ∷ fixed ends ∷ fixed semicolon ∷ []

aim_begins : (ok : Test) (p : Program) (a : Aim) → Sound ok (aiming p a) → Begins (up_to (aiming p a))
aim_begins ok p (one_of g) h =
    with_call p (alone g 0) (to_aim p (one_of g)) (mark (number 0) ∷ fixed ends ∷ fixed semicolon ∷ []) h.0.is_proper (some_qubit p h.0.is_proper) refl
aim_begins ok p (control g) h =
    with_call p (both g 0 (other 0)) (to_aim p (control g)) _ h.0.is_proper (fits-other g p.qubits 0 h.1 (some_qubit p h.0.is_proper)) refl
aim_begins ok p (target g a) h =
    with_call p (both g a (other a)) (to_aim p (target g a)) (mark (number (other a)) ∷ fixed ends ∷ fixed semicolon ∷ []) h.0.is_proper (fits-other g p.qubits a h.1.0 h.1.1) refl
aim_begins ok p (turned a) h =
    with_call p (turn a 0) (to_aim p (turned a)) (mark (number 0) ∷ fixed ends ∷ fixed semicolon ∷ []) h.0.is_proper (some_qubit p h.0.is_proper)
    (ap (λ l. gate u1 ∷ mark opens ∷ l) (app (write a) (mark closes ∷ name p.register ∷ fixed begins ∷ []) (mark (number 0) ∷ fixed ends ∷ fixed semicolon ∷ [])))

slot_begins : (ok : Test) (s : Slot) → Sound ok s → Begins (up_to s)
slot_begins ok naming h =
    record {
      program = record { register = 113 ∷ []; qubits = 1; calls = [] };
      is_proper = refl;
      rest = name (113 ∷ []) ∷ fixed begins ∷ mark (number 1) ∷ fixed ends ∷ fixed semicolon ∷ [];
      is = refl;
    }
slot_begins ok (sizing q) h = record { program = record { register = q; qubits = 1; calls = [] }; is_proper = refl; rest = mark (number 1) ∷ fixed ends ∷ fixed semicolon ∷ []; is = refl }
slot_begins ok (calling p) h = record { program = p; is_proper = h.is_proper; rest = []; is = append-nil (written p) }
slot_begins ok (aiming p a) h = aim_begins ok p a h
slot_begins ok (turning p s) h =
    let f = finished s in
    with_call p (turn f.angle 0) (gate u1 ∷ mark opens ∷ partly s) (f.more ++ index p 0) h.is_proper (some_qubit p h.is_proper)
    (ap (λ l. gate u1 ∷ mark opens ∷ l) (on (partly s) f.more (index p 0) ∙ ap (λ l. l ++ index p 0) f.is ∙ app (write f.angle) (mark closes ∷ []) (index p 0)))

pub goes-begins : (ok : Test) (s : State) (l : List Token) → Grown ok (goes s) l → Begins l
goes-begins ok (wait is s) l g =
    let b = slot_begins ok s g.0 in
    record { program = b.program; is_proper = b.is_proper; rest = map token_of is ++ b.rest; is = on l (map token_of is) b.rest ∙ ap (λ x. x ++ b.rest) g.1 ∙ b.is }

-- an angle read whole, however it is valued
pub twenty-begins : (ok : Test) (l : List Token) (b : ℕ) (h : Twenty ok l b) → h.rest ≡ [] → Begins l
twenty-begins ok l b h e =
    subst (λ (x : List Token). Begins x) (sym (h.is ∙ ap (λ x. written h.gates ++ (gate u1 ∷ mark opens ∷ (write h.angle ++ (mark closes ∷ x)))) e))
    (with_call h.gates (turn h.angle 0) (gate u1 ∷ mark opens ∷ (write h.angle ++ (mark closes ∷ []))) (index h.gates 0) h.fine.is_proper (some_qubit h.gates h.fine.is_proper)
    (ap (λ x. gate u1 ∷ mark opens ∷ x) (app (write h.angle) (mark closes ∷ []) (index h.gates 0))))

-- ---- what it dies on no text has
pub dead : (ok : Test) (l : List Token) → run ok start l ≡ dies → Begins l → ⊥
dead ok l e b =
    subst (λ (s : Step). Lives s)
    (ap (λ x. run ok start x) (sym b.is) ∙ run_append ok start l b.rest ∙ ap (λ s. onward s (λ s'. run ok s' b.rest)) e)
    (program_lives ok b.program b.is_proper)

-- after a whole text it stands where a text may end
pub at-end : (ok : Test) (l : List Token) (s : State) → run ok start l ≡ goes s → Whole l → AtEnd s
at-end ok l s e w = subst (λ (x : Step). Lives x) (ap (λ x. run ok start x) w.is ∙ e) (program_lives ok w.program w.is_proper)

-- ---- many tokens
pub twenty-more : (ok : Test) (l more : List Token) (b : ℕ) → Twenty ok l b → Twenty ok (l ++ more) b
twenty-more ok l more b h =
    record {
      gates = h.gates;
      fine = h.fine;
      angle = h.angle;
      fails = h.fails;
      rest = h.rest ++ more;
      place = h.place;
      is = ap (λ x. x ++ more) h.is ∙ app (written h.gates) _ more
          ∙ ap (λ x. written h.gates ++ (gate u1 ∷ mark opens ∷ x)) (app (write h.angle) (mark closes ∷ h.rest) more);
    }

abbrev pub Left : Test → Step → List Token → Type 0
Left ok dies l = Unit {0}
Left ok (twenty b) l = Twenty ok l b
Left ok (goes s) l = Grown ok (goes s) l

pub all_grown : (ok : Test) (s : State) (ts l : List Token) → Grown ok (goes s) l → Left ok (run ok s ts) (l ++ ts)
all_grown ok s [] l g = subst (λ (x : List Token). Grown ok (goes s) x) (sym (append-nil l)) g
all_grown ok s (t ∷ ts) l g = go (step ok s t) (step-grown ok s t l g) (λ s' g'. all_grown ok s' ts (l ++ (t ∷ [])) g')
  where
    go : (o : Step) → Grown ok o (l ++ (t ∷ [])) → ((s' : State) → Grown ok (goes s') (l ++ (t ∷ [])) → Left ok (run ok s' ts) ((l ++ (t ∷ [])) ++ ts)) → Left ok (onward o (λ s'. run ok s' ts)) (l ++ (t ∷ ts))
    go dies h ih = tt
    go (twenty b) h ih = subst (λ (x : List Token). Twenty ok x b) (app l (t ∷ []) ts) (twenty-more ok (l ++ (t ∷ [])) ts b h.0)
    go (goes s') h ih = subst (λ (x : List Token). Left ok (run ok s' ts) x) (app l (t ∷ []) ts) (ih s' h)
