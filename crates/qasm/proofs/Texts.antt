-- Document 02, request 1, of a text's bytes: 19 "exactly when this subset's grammar, written on its own, lacks the text and no 20 stands before the
-- fault", where and why; 20 at the first angle read whole that is no multiple of pi/4; else the text is one program's and its gates are read. Each is what
-- the reader finds, put on lines. Assumes nothing.
use mathlib.Core.Path.{◌≡◌, refl, sym, ap, ◌∙◌, subst}
use mathlib.Core.Bool.{true, ◌&&◌, false≢true}
use mathlib.Core.List.{List, [], ◌∷◌, ◌++◌, map}
use mathlib.Core.Option.{Option, none, some}
use mathlib.Core.Logic.{◌↔◌}
use Prim.Native.Nat.{ℕ}
use native.Mathlib.Omega.{arith}
use Rattle.stored.specs.Refusal.{Judged, refused, good, refusal, circuit_source}
use Rattle.gates.specs.Gate.{phase, Gate, plain}
use Rattle.qasm.specs.Token.{Token}
use Rattle.qasm.specs.Lexed.{lexed, token, line_of}
use Rattle.qasm.specs.Angle.{on_some, turn_of}
use Rattle.qasm.specs.Grammar.{Call, alone, both, turn, Program, proper, written, kind_of, phases_of, qubit_of, pair_gate, meanings, gates_in}
use Rattle.qasm.specs.Reading.{Found, nineteen, bad20, text, found, is_some, is_turn, Text, gates_or, judged, read_text}
use Rattle.qasm.proofs.Lists.{app, append-nil}
use Rattle.qasm.proofs.Steps.{all_ok, Twenty}
use Rattle.qasm.proofs.Taking.{alike}
use Rattle.qasm.proofs.Viable.{Whole}
use Rattle.qasm.proofs.Finding.{Stops, Nineteen, Told, found_so, nineteen-found, twenty-found, taken-found}

-- a text's tokens
abbrev pub tokens : List ℕ → List Token
tokens s = map token (lexed s)

-- ---- angles all pass exactly if the program has a meaning
joined : (g : List Gate) (o : Option (List Gate)) → is_some (on_some o (λ gs. some (g ++ gs))) ≡ is_some o
joined g none = refl
joined g (some gs) = refl

pub means : (cs : List Call) → all_ok is_turn cs ≡ is_some (meanings cs)
means [] = refl
means (alone g i ∷ cs) = means cs ∙ sym (joined (plain (kind_of g) (qubit_of i) ∷ []) (meanings cs))
means (both g a b ∷ cs) = means cs ∙ sym (joined (pair_gate g (qubit_of a) (qubit_of b) ∷ []) (meanings cs))
means (turn a i ∷ cs) = go (λ m. map (λ j. plain (phase j) (qubit_of i)) (phases_of m)) (turn_of a) (means cs)
  where
    go : (f : ℕ → List Gate) (o : Option ℕ) → all_ok is_turn cs ≡ is_some (meanings cs) → is_some o && all_ok is_turn cs ≡ is_some (on_some (on_some o (λ m. some (f m))) (λ g. on_some (meanings cs) (λ gs. some (g ++ gs))))
    go f none e = refl
    go f (some m) e = e ∙ sym (joined (f m) (meanings cs))

some-gates : (o : Option (List Gate)) → is_some o ≡ true → o ≡ some (gates_or o)
some-gates none e = absurd (false≢true e)
some-gates (some gs) e = refl

-- ---- refusals are told apart by their numbers and places
abbrev number_in : Judged Text → ℕ
number_in (refused r) = r.number
number_in (good t) = 0

abbrev place_in : Judged Text → ℕ
place_in (refused r) = r.place
place_in (good t) = 0

abbrev text_in : Text → Judged Text → Text
text_in t (refused r) = t
text_in t (good u) = u

-- ---- nineteen
-- at the line of the first token, or of the text's end, that no text of the grammar has there
pub nineteen-line : (s : List ℕ) (i : ℕ) → Nineteen is_turn (tokens s) i → read_text s ≡ refused (refusal 19 circuit_source (line_of s i))
unfolding read_text
nineteen-line s i h = ap (judged (line_of s)) (nineteen-found is_turn (tokens s) i h)

pub nineteen-is : (s : List ℕ) (source l : ℕ) → read_text s ≡ refused (refusal 19 source l) → (i : ℕ) × Nineteen is_turn (tokens s) i × (l ≡ line_of s i)
unfolding read_text
nineteen-is s source l e = go (found (tokens s)) (found_so is_turn (tokens s)) e
  where
    go : (f : Found) → Told is_turn (tokens s) f → judged (line_of s) f ≡ refused (refusal 19 source l) → (i : ℕ) × Nineteen is_turn (tokens s) i × (l ≡ line_of s i)
    go (nineteen i) h k = (i, h, sym (ap place_in k))
    go (bad20 b) h k = let n : ◌≡◌ {A = ℕ} 20 19 = ap number_in k in absurd (omega arith)
    go (text p) h k = let n : ◌≡◌ {A = ℕ} 0 19 = ap number_in k in absurd (omega arith)

stops-whole : (front back : List Token) → Stops front back → Whole (front ++ back) → ⊥
stops-whole front [] h w = h (subst (λ (x : List Token). Whole x) (append-nil front) w)
stops-whole front (t ∷ ts) h w = h (record { program = w.program; is_proper = w.is_proper; rest = ts; is = app front (t ∷ []) ts ∙ sym w.is })

-- "19 comes exactly when this subset's grammar .. lacks the text and no 20 stands before the fault"
pub nineteen-exactly : (s : List ℕ) → ((l : ℕ) × (read_text s ≡ refused (refusal 19 circuit_source l))) ↔ ((Whole (tokens s) → ⊥) × ((b : ℕ) → Twenty is_turn (tokens s) b → ⊥))
unfolding read_text
nineteen-exactly s = (forth, λ h. go (found (tokens s)) (found_so is_turn (tokens s)) h.0 h.1)
  where
    forth : (l : ℕ) × (read_text s ≡ refused (refusal 19 circuit_source l)) → (Whole (tokens s) → ⊥) × ((b : ℕ) → Twenty is_turn (tokens s) b → ⊥)
    forth h =
        let n = nineteen-is s circuit_source h.0 h.1 in (
          λ w. stops-whole n.1.front n.1.back n.1.stops (subst (λ (x : List Token). Whole x) n.1.is w),
          λ b t. let k : ◌≡◌ {A = ℕ} 20 19 = ap number_in (sym (ap (judged (line_of s)) (twenty-found is_turn (tokens s) b t)) ∙ h.1) in omega arith,
        )

    go : (f : Found) → Told is_turn (tokens s) f → (Whole (tokens s) → ⊥) → ((b : ℕ) → Twenty is_turn (tokens s) b → ⊥) → (l : ℕ) × (judged (line_of s) f ≡ refused (refusal 19 circuit_source l))
    go (nineteen i) h w t = (line_of s i, refl)
    go (bad20 b) h w t = absurd (t b h)
    go (text p) h w t = absurd (w (record { program = p; is_proper = h.fine.is_proper; is = sym h.is }))

-- ---- twenty
-- the first angle read whole that is no multiple of pi/4, before any fault: the line of u1's opening bracket
pub twenty-line : (s : List ℕ) (b : ℕ) → Twenty is_turn (tokens s) b → read_text s ≡ refused (refusal 20 circuit_source (line_of s b))
unfolding read_text
twenty-line s b h = ap (judged (line_of s)) (twenty-found is_turn (tokens s) b h)

pub twenty-is : (s : List ℕ) (source l : ℕ) → read_text s ≡ refused (refusal 20 source l) → (b : ℕ) × Twenty is_turn (tokens s) b × (l ≡ line_of s b)
unfolding read_text
twenty-is s source l e = go (found (tokens s)) (found_so is_turn (tokens s)) e
  where
    go : (f : Found) → Told is_turn (tokens s) f → judged (line_of s) f ≡ refused (refusal 20 source l) → (b : ℕ) × Twenty is_turn (tokens s) b × (l ≡ line_of s b)
    go (nineteen i) h k = let n : ◌≡◌ {A = ℕ} 19 20 = ap number_in k in absurd (omega arith)
    go (bad20 b) h k = (b, h, sym (ap place_in k))
    go (text p) h k = let n : ◌≡◌ {A = ℕ} 0 20 = ap number_in k in absurd (omega arith)

-- ---- taken
-- a program that the text is written as, and its gates
pub record Read (s : List ℕ) (t : Text) : Type 0 where
  pub program : Program
  pub is_proper : proper program ≡ true
  pub is : written program ≡ tokens s
  pub qubits : program.qubits ≡ t.size
  pub meant : gates_in program ≡ some t.gates

pub taken_is : (s : List ℕ) (t : Text) → read_text s ≡ good t → Read s t
unfolding read_text
taken_is s t e = go (found (tokens s)) (found_so is_turn (tokens s)) e
  where
    go : (f : Found) → Told is_turn (tokens s) f → judged (line_of s) f ≡ good t → Read s t
    go (nineteen i) h k = let n : ◌≡◌ {A = ℕ} 19 0 = ap number_in k in absurd (omega arith)
    go (bad20 b) h k = let n : ◌≡◌ {A = ℕ} 20 0 = ap number_in k in absurd (omega arith)
    go (text p) h k =
        record {
          program = p;
          is_proper = h.fine.is_proper;
          is = sym h.is;
          qubits = ap (λ (j : Judged Text). (text_in t j).size) k;
          meant = some-gates (gates_in p) (sym (means p.calls) ∙ h.fine.is_ok) ∙ ap (λ (j : Judged Text). some (text_in t j).gates) k;
        }

pub taken : (s : List ℕ) (t : Text) → Read s t → read_text s ≡ good t
unfolding read_text
taken s t h =
    ap (judged (line_of s)) (taken-found is_turn (tokens s) h.program (record { fine = record { is_proper = h.is_proper; is_ok = means h.program.calls ∙ ap (λ (o : Option (List Gate)). is_some o) h.meant }; is = sym h.is }))
    ∙ ap (λ (n : ℕ). good (record { size = n; gates = gates_or (gates_in h.program) })) h.qubits
    ∙ ap (λ (o : Option (List Gate)). good (record { size = t.size; gates = gates_or o })) h.meant

-- "two programs written alike are the same"
pub one_program : (s : List ℕ) (p r : Program) → proper p ≡ true → proper r ≡ true → written p ≡ tokens s → written r ≡ tokens s → p ≡ r
one_program s p r e f a b = alike p r e f (a ∙ sym b)
