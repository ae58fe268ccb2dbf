-- The shape of what a gate builds: each level's records name states of that level and of the next, in rising order, with masks of 32 bits.
-- It holds of any automaton whose alternatives rise and share no choice, over the states that are mentioned. Assumes nothing.
use mathlib.Core.Path.{◌≡◌, refl, subst}
use mathlib.Core.Bool.{Bool, true, false}
use mathlib.Core.Logic.{inl, inr}
use mathlib.Core.List.{List, [], ◌∷◌, ◌++◌}
use Prim.Native.Nat.{ℕ, suc, ◌+◌, ◌^◌, ◌<◌, ◌≤◌}
use native.Mathlib.Omega.{arith}
use lib.Dec.{eqb}
use lib.ListN.{length}
use lib.Bits.{bit_and, and_le_l}
use borrow.Author.Tests.{eqb-true, eqb-false}
use Rattle.automata.specs.Choice.{least, Alt, alt}
use Rattle.automata.specs.Sets.{Rec, rec}
use Rattle.automata.proofs.Masks.{Never, Mask, has-and, least_in}
use Rattle.automata.proofs.Choosing.{Apart, Disjoint}
use Rattle.automata.proofs.Order.{Masked, Above, Rising}
use Rattle.automata.proofs.Lists.{Each, Strictly, each_map, each_append}
use Rattle.stored.proofs.OrderLaws.{Follows}
use Rattle.gates.specs.Numbering.{rows, all_rows}

-- masks with no choice in common do not meet
pub meet-none : (m m' : ℕ) → m < 2 ^ 32 → Never m m' → bit_and m m' ≡ 0
meet-none m m' h d = go (eqb (bit_and m m') 0) refl
  where
    go : (b : Bool) → eqb (bit_and m m') 0 ≡ b → bit_and m m' ≡ 0
    go true e = eqb-true (bit_and m m') 0 e
    go false e =
        let k : Mask (bit_and m m') = record { some = omega (arith, eqb-false (bit_and m m') 0 e); small = omega (arith, and_le_l m m') } in
        let p = least_in (bit_and m m') k in
        let q = has-and m m' (least (bit_and m m')) in
        let z : ◌≡◌ {A = ℕ} 0 1 = cc (d.never (least (bit_and m m'))) in
        absurd (omega arith)

-- what each alternative takes
abbrev pub Taken : {X : Type 0} → (X → Type 0) → List (Alt X) → Type 0
Taken P [] = Unit {0}
Taken P (alt m x ∷ us) = P x × Taken P us

-- ---- the records of the states of a list
module _ {X : Type 0} where
  abbrev pub state_in : Rec X → ℕ
  state_in (rec s m x) = s

  -- a record of a state from s up to below e, with a mask, that takes a P
  pub record Row (P : X → Type 0) (s e q m : ℕ) (x : X) : Type 0 where
    pub from : s ≤ q
    pub below : q < e
    pub mask : Mask m
    pub takes : P x

  abbrev pub RowOf : (X → Type 0) → ℕ → ℕ → Rec X → Type 0
  RowOf P s e (rec q m x) = Row P s e q m x

  rows-each : (P : X → Type 0) (s e : ℕ) (us : List (Alt X)) → s < e → Masked us → Taken P us → Each (RowOf P s e) (rows s us)
  rows-each P s e [] h k t = tt
  rows-each P s e (alt m x ∷ us) h k t = (record { from = omega arith; below = h; mask = k.0; takes = t.0 }, rows-each P s e us h k.1 t.1)

  row_wider : (P : X → Type 0) (s e : ℕ) (r : Rec X) → RowOf P (suc s) e r → RowOf P s e r
  row_wider P s e (rec q m x) h = record { from = omega (arith, h.from); below = h.below; mask = h.mask; takes = h.takes }

  follows_rows : (s m : ℕ) (x : X) (us : List (Alt X)) → Mask m → Above (least m) us → Apart m us → Each (Follows (rec s m x)) (rows s us)
  follows_rows s m x [] k a d = tt
  follows_rows s m x (alt m' y ∷ us) k a d =
      (inr (record { state = refl; rises = a.0; apart = meet-none m m' k.small d.0 }), follows_rows s m x us k a.1 d.1)

  rows_strict : (s : ℕ) (us : List (Alt X)) → Masked us → Rising us → Disjoint us → Strictly Follows (rows s us)
  rows_strict s [] k r d = tt
  rows_strict s (alt m x ∷ us) k r d = (follows_rows s m x us k.0 r.0 d.0, rows_strict s us k.1 r.1 d.1)

  -- records of lower states before records of higher ones
  pub strict_join : (e : ℕ) (ts us : List (Rec X)) → Strictly Follows ts → Strictly Follows us → Each (λ t. state_in t < e) ts → Each (λ u. e ≤ state_in u) us → Strictly Follows (ts ++ us)
  strict_join e [] us h k l r = k
  strict_join e (rec s m x ∷ ts) us h k l r =
      (each_append (Follows (rec s m x)) ts us h.0 (go us r), strict_join e ts us h.1 k l.1 r)
    where
      go : (vs : List (Rec X)) → Each (λ u. e ≤ state_in u) vs → Each (Follows (rec s m x)) vs
      go [] f = tt
      go (rec q m' y ∷ vs) f = (inl (omega (arith, l.0, f.0)), go vs f.1)

  pub rows-below : (P : X → Type 0) (s e : ℕ) (ts : List (Rec X)) → Each (RowOf P s e) ts → Each (λ t. state_in t < e) ts
  rows-below P s e [] h = tt
  rows-below P s e (rec q m x ∷ ts) h = (h.0.below, rows-below P s e ts h.1)

  pub rows-from : (P : X → Type 0) (s e : ℕ) (ts : List (Rec X)) → Each (RowOf P s e) ts → Each (λ t. s ≤ state_in t) ts
  rows-from P s e [] h = tt
  rows-from P s e (rec q m x ∷ ts) h = (h.0.from, rows-from P s e ts h.1)

-- what is asked of each state's alternatives
pub record Fine {X : Type 0} (P : X → Type 0) (us : List (Alt X)) : Type 0 where
  pub masked : Masked us
  pub rising : Rising us
  pub disjoint : Disjoint us
  pub takes : Taken P us

abbrev EachFine : {K X : Type 0} → (X → Type 0) → (K → List (Alt X)) → List K → Type 0
EachFine P f ks = Each (λ k. Fine P (f k)) ks

module _ {K X : Type 0} (P : X → Type 0) (f : K → List (Alt X)) where
  pub all-each : (s : ℕ) (ks : List K) → EachFine P f ks → Each (RowOf P s (s + length ks)) (all_rows f s ks)
  all-each s [] h = tt
  all-each s (k ∷ ks) h =
      each_append (RowOf P s (s + suc (length ks))) (rows s (f k)) (all_rows f (suc s) ks)
      (rows-each P s (s + suc (length ks)) (f k) (omega arith) h.0.masked h.0.takes)
      (each_map (RowOf P (suc s) (suc s + length ks)) (RowOf P s (s + suc (length ks)))
      (λ r t. row_wider P s (s + suc (length ks)) r (subst (λ (e : ℕ). RowOf P (suc s) e r) (let e : suc s + length ks ≡ s + suc (length ks) = omega arith in e) t))
      (all_rows f (suc s) ks) (all-each (suc s) ks h.1))

  pub all_strict : (s : ℕ) (ks : List K) → EachFine P f ks → Strictly Follows (all_rows f s ks)
  all_strict s [] h = tt
  all_strict s (k ∷ ks) h =
      strict_join (suc s) (rows s (f k)) (all_rows f (suc s) ks) (rows_strict s (f k) h.0.masked h.0.rising h.0.disjoint) (all_strict (suc s) ks h.1)
      (rows-below P s (suc s) (rows s (f k)) (rows-each P s (suc s) (f k) (omega arith) h.0.masked h.0.takes))
      (rows-from P (suc s) (suc s + length ks) (all_rows f (suc s) ks) (all-each (suc s) ks h.1))
