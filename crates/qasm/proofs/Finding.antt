-- What the reader finds in a list of tokens is what the grammar says of it, and the other way round: by one walk over the tokens. Assumes nothing.
use mathlib.Core.Path.{◌≡◌, refl, sym, ap, ◌∙◌, subst}
use mathlib.Core.List.{List, [], ◌∷◌, ◌++◌}
use Prim.Native.Nat.{ℕ, suc, ◌+◌}
use native.Mathlib.Omega.{arith}
use lib.ListN.{length}
use Rattle.qasm.specs.Token.{Token}
use Rattle.qasm.specs.Grammar.{Program, written}
use Rattle.qasm.specs.Reading.{naming, sizing, calling, aiming, turning, State, wait, Step, dies, twenty, goes, step, start, Found, nineteen, bad20, text, ended, after, found_from}
use Rattle.qasm.proofs.Lists.{app, append-nil, length_more}
use Rattle.qasm.proofs.Steps.{Test, Fine, Twenty, Grown, step-grown, start-grown}
use Rattle.qasm.proofs.Taking.{onward, run, run_append, AtEnd, program_reads, twenty_run}
use Rattle.qasm.proofs.Viable.{Whole, Begins, goes-begins, twenty-begins, dead, at-end, twenty-more, Left, all_grown}

-- "the first token or text end that no such text has there"
abbrev pub Stops : List Token → List Token → Type 0
Stops l [] = Whole l → ⊥
Stops l (t ∷ ts) = Begins (l ++ (t ∷ [])) → ⊥

-- 19 at a place: some text of the grammar begins with the tokens before it, none goes on so, "and no 20 stands before the fault"
pub record Nineteen (ok : Test) (ts : List Token) (i : ℕ) : Type 0 where
  pub front : List Token
  pub back : List Token
  pub is : ts ≡ front ++ back
  pub place : i ≡ length front
  pub begins : Begins front
  pub stops : Stops front back
  pub calm : (b : ℕ) → Twenty ok front b → ⊥

-- a program is written so, and all its angles pass
pub record Taken (ok : Test) (ts : List Token) (p : Program) : Type 0 where
  pub fine : Fine ok p
  pub is : ts ≡ written p

abbrev pub Told : Test → List Token → Found → Type 0
Told ok ts (nineteen i) = Nineteen ok ts i
Told ok ts (bad20 b) = Twenty ok ts b
Told ok ts (text p) = Taken ok ts p

-- ---- what is found is so
abbrev Going : Step → Type 0
Going dies = ⊥
Going (twenty b) = ⊥
Going (goes s) = Unit {0}

no_twenty : (ok : Test) (l : List Token) (s : State) → run ok start l ≡ goes s → (b : ℕ) → Twenty ok l b → ⊥
no_twenty ok l s e b h = subst (λ (x : Step). Going x) (sym e ∙ twenty_run ok l b h) tt

short : (ok : Test) (s : State) (l : List Token) → run ok start l ≡ goes s → Grown ok (goes s) l → (AtEnd s → ⊥) → Nineteen ok (l ++ []) (length l)
short ok s l e g h =
    record { front = l; back = []; is = refl; place = refl; begins = goes-begins ok s l g; stops = λ w. h (at-end ok l s e w); calm = no_twenty ok l s e }

told-end : (ok : Test) (s : State) (l : List Token) → run ok start l ≡ goes s → Grown ok (goes s) l → Told ok (l ++ []) (ended (length l) s)
told-end ok (wait [] naming) l e g = short ok (wait [] naming) l e g (λ x. x)
told-end ok (wait [] (sizing q)) l e g = short ok (wait [] (sizing q)) l e g (λ x. x)
told-end ok (wait [] (calling p)) l e g = record { fine = g.0; is = g.1 }
told-end ok (wait [] (aiming p a)) l e g = short ok (wait [] (aiming p a)) l e g (λ x. x)
told-end ok (wait [] (turning p s)) l e g = short ok (wait [] (turning p s)) l e g (λ x. x)
told-end ok (wait (i ∷ is) s) l e g = short ok (wait (i ∷ is) s) l e g (λ x. x)

one-step : (ok : Test) (s : State) (l : List Token) (t : Token) → run ok start l ≡ goes s → run ok start (l ++ (t ∷ [])) ≡ onward (step ok s t) (λ s'. goes s')
one-step ok s l t e = run_append ok start l (t ∷ []) ∙ ap (λ (x : Step). onward x (λ s'. run ok s' (t ∷ []))) e

told : (ok : Test) (ts : List Token) (s : State) (l : List Token) → run ok start l ≡ goes s → Grown ok (goes s) l → Told ok (l ++ ts) (found_from ok (length l) s ts)
told ok [] s l e g = told-end ok s l e g
told ok (t ∷ ts) s l e g = go (step ok s t) refl (step-grown ok s t l g) (λ s' e' g'. told ok ts s' (l ++ (t ∷ [])) e' g')
  where
    go : (o : Step) → step ok s t ≡ o → Grown ok o (l ++ (t ∷ []))
        → ((s' : State) → run ok start (l ++ (t ∷ [])) ≡ goes s' → Grown ok (goes s') (l ++ (t ∷ [])) → Told ok ((l ++ (t ∷ [])) ++ ts) (found_from ok (length (l ++ (t ∷ []))) s' ts))
        → Told ok (l ++ (t ∷ ts)) (after (length l) o (λ s'. found_from ok (suc (length l)) s' ts))
    go dies c h ih =
        record {
          front = l;
          back = t ∷ ts;
          is = refl;
          place = refl;
          begins = goes-begins ok s l g;
          stops = dead ok (l ++ (t ∷ [])) (one-step ok s l t e ∙ ap (λ (x : Step). onward x (λ s'. goes s')) c);
          calm = no_twenty ok l s e;
        }
    go (twenty b) c h ih = subst (λ (x : List Token). Twenty ok x b) (app l (t ∷ []) ts) (twenty-more ok (l ++ (t ∷ [])) ts b h.0)
    go (goes s') c h ih =
        subst (λ (x : List Token). Told ok x (found_from ok (suc (length l)) s' ts)) (app l (t ∷ []) ts)
        (subst (λ (n : ℕ). Told ok ((l ++ (t ∷ [])) ++ ts) (found_from ok n s' ts)) (length_more l t)
        (ih s' (one-step ok s l t e ∙ ap (λ (x : Step). onward x (λ s''. goes s'')) c) h))

pub found_so : (ok : Test) (ts : List Token) → Told ok ts (found_from ok 0 start ts)
found_so ok ts = told ok ts start [] refl (start-grown ok)

-- ---- what is so is found
abbrev state_in : Step → State
state_in dies = start
state_in (twenty b) = start
state_in (goes s) = s

abbrev place_in : Step → ℕ
place_in dies = 0
place_in (twenty b) = b
place_in (goes s) = 0

go_on : (ok : Test) (i : ℕ) (s s' : State) (a b : List Token) → run ok s a ≡ goes s' → found_from ok i s (a ++ b) ≡ found_from ok (i + length a) s' b
go_on ok i s s' [] b e = ap (λ (x : Step). found_from ok i (state_in x) b) e ∙ ap (λ (n : ℕ). found_from ok n s' b) (omega arith)
go_on ok i s s' (t ∷ a) b e = go (step ok s t) e (λ x h. go_on ok (suc i) x s' a b h)
  where
    go : (o : Step) → onward o (λ x. run ok x a) ≡ goes s' → ((x : State) → run ok x a ≡ goes s' → found_from ok (suc i) x (a ++ b) ≡ found_from ok (suc i + length a) s' b)
        → after i o (λ x. found_from ok (suc i) x (a ++ b)) ≡ found_from ok (i + suc (length a)) s' b
    go dies h ih = absurd (subst (λ (x : Step). Going x) (sym h) tt)
    go (twenty c) h ih = absurd (subst (λ (x : Step). Going x) (sym h) tt)
    go (goes x) h ih = ih x h ∙ ap (λ (n : ℕ). found_from ok n s' b) (omega arith)

abbrev Stopped : Step → Type 0
Stopped dies = ⊥
Stopped (twenty b) = Unit {0}
Stopped (goes s) = ⊥

stop : (ok : Test) (i : ℕ) (s : State) (a : List Token) (b : ℕ) → run ok s a ≡ twenty b → found_from ok i s a ≡ bad20 b
stop ok i s [] b e = absurd (subst (λ (x : Step). Stopped x) (sym e) tt)
stop ok i s (t ∷ a) b e = go (step ok s t) e (λ x h. stop ok (suc i) x a b h)
  where
    go : (o : Step) → onward o (λ x. run ok x a) ≡ twenty b → ((x : State) → run ok x a ≡ twenty b → found_from ok (suc i) x a ≡ bad20 b) → after i o (λ x. found_from ok (suc i) x a) ≡ bad20 b
    go dies h ih = absurd (subst (λ (x : Step). Stopped x) (sym h) tt)
    go (twenty c) h ih = ap (λ (x : Step). bad20 (place_in x)) h
    go (goes x) h ih = ih x h

pub twenty-found : (ok : Test) (ts : List Token) (b : ℕ) → Twenty ok ts b → found_from ok 0 start ts ≡ bad20 b
twenty-found ok ts b h = stop ok 0 start ts b (twenty_run ok ts b h)

pub taken-found : (ok : Test) (ts : List Token) (p : Program) → Taken ok ts p → found_from ok 0 start ts ≡ text p
taken-found ok ts p h =
    ap (λ l. found_from ok 0 start l) (h.is ∙ sym (append-nil (written p)))
    ∙ go_on ok 0 start (wait [] (calling p)) (written p) [] (ap (λ l. run ok start l) (sym (append-nil (written p))) ∙ program_reads ok p [] h.fine)

not-ended : (ok : Test) (s : State) (l : List Token) (i : ℕ) → Grown ok (goes s) l → (Whole l → ⊥) → ended i s ≡ nineteen i
not-ended ok (wait [] naming) l i g h = refl
not-ended ok (wait [] (sizing q)) l i g h = refl
not-ended ok (wait [] (calling p)) l i g h = absurd (h (record { program = p; is_proper = g.0.is_proper; is = sym g.1 ∙ append-nil l }))
not-ended ok (wait [] (aiming p a)) l i g h = refl
not-ended ok (wait [] (turning p s)) l i g h = refl
not-ended ok (wait (x ∷ is) s) l i g h = refl

stops-there : (ok : Test) (s : State) (l back : List Token) (i : ℕ) → Grown ok (goes s) l → Stops l back → found_from ok i s back ≡ nineteen i
stops-there ok s l [] i g h = not-ended ok s l i g h
stops-there ok s l (t ∷ ts) i g h = go (step ok s t) (step-grown ok s t l g)
  where
    go : (o : Step) → Grown ok o (l ++ (t ∷ [])) → after i o (λ x. found_from ok (suc i) x ts) ≡ nineteen i
    go dies k = refl
    go (twenty b) k = absurd (h (twenty-begins ok (l ++ (t ∷ [])) b k.0 k.1))
    go (goes x) k = absurd (h (goes-begins ok x (l ++ (t ∷ [])) k))

pub nineteen-found : (ok : Test) (ts : List Token) (i : ℕ) → Nineteen ok ts i → found_from ok 0 start ts ≡ nineteen i
nineteen-found ok ts i h = go (run ok start h.front) refl (all_grown ok start h.front [] (start-grown ok))
  where
    go : (o : Step) → run ok start h.front ≡ o → Left ok o h.front → found_from ok 0 start ts ≡ nineteen i
    go dies e k = absurd (dead ok h.front e h.begins)
    go (twenty b) e k = absurd (h.calm b k)
    go (goes s) e k =
        ap (λ l. found_from ok 0 start l) h.is ∙ go_on ok 0 start s h.front h.back e
        ∙ stops-there ok s h.front h.back (0 + length h.front) k h.stops
        ∙ ap (λ (n : ℕ). nineteen n) (let p = h.place in omega arith)
