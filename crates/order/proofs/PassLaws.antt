-- One pass finds the first clash: since no state falls, a record of a greater state meets no earlier one of its own, and one of the same
-- state shares no choice with the earlier ones exactly if it shares none with their union. Assumes nothing.
use mathlib.Core.Path.{◌≡◌, refl, sym, ap, ap₂, ◌∙◌, subst}
use mathlib.Core.Bool.{Bool, true, false, cond, ◌&&◌, ◌||◌, false≢true}
use mathlib.Core.Logic.{◌⊎◌, inl, inr}
use mathlib.Core.List.{List, [], ◌∷◌, map}
use Prim.Native.Nat.{ℕ, zero, suc, ◌+◌, ◌-◌, ◌*◌, ◌/◌, ◌%◌, ◌≤◌, ◌<◌, min, max}
use native.Mathlib.Omega.{arith}
use lib.Arith.{bin_ind}
use lib.ListN.{length}
use lib.Dec.{eqb, ltb, leb, leb-zero, eqb-zero-suc, eqb-suc-suc}
use lib.Bits.{bit_and, bit_or, and_step, or_step, and_zero_l, or_comm, or_zero_l}
use borrow.Author.Tests.{eqb-true, eqb-false, eq-eqb, ne_eqb, ltb-true, lt-ltb}
use Rattle.automata.specs.Choice.{least}
use Rattle.automata.specs.Sets.{Rec, rec}
use Rattle.automata.proofs.Lists.{Each, each_map}
use Rattle.stored.specs.Fields.{records_from}
use native.Mathlib.Nat.{suc-mul}
use Rattle.stored.specs.Rules.{apart, first_bad, passes, fits_after, first_clash}
use Rattle.stored.proofs.ScanLaws.{each-passes}
use Rattle.records.specs.declared.Key.{Key}
use Rattle.records.specs.Read.{bare, key_read}
use Rattle.records.proofs.Step.{records-step, records-end}
use Rattle.order.specs.declared.Run.{Run}
use Rattle.std.specs.declared.option.Option.TheVariants.{Some, None}
use Rattle.scans.specs.Scan.{stopped}
use Rattle.order.specs.Pass.{fits_next, run_after}

-- ---- masks: a union shares a choice exactly if one of its two does
union_shares : (a b x : ℕ) → (bit_and a x ≤ bit_and (bit_or a b) x) × (bit_and (bit_or a b) x ≤ bit_and a x + bit_and b x)
union_shares =
    bin_ind (λ (a : ℕ). (b x : ℕ) → (bit_and a x ≤ bit_and (bit_or a b) x) × (bit_and (bit_or a b) x ≤ bit_and a x + bit_and b x))
    (λ b x. let e : bit_and (bit_or 0 b) x ≡ bit_and b x = ap (λ (n : ℕ). bit_and n x) (or_zero_l b) in let z = and_zero_l x in (omega arith, omega arith))
    (λ a ih b x.
    let d : bit_or a b / 2 ≡ bit_or (a / 2) (b / 2) = omega (arith, or_step a b) in
    let r : bit_or a b % 2 ≡ max (a % 2) (b % 2) = omega (arith, or_step a b) in
    let e : bit_and (bit_or a b) x ≡ bit_and (bit_or (a / 2) (b / 2)) (x / 2) * 2 + min (max (a % 2) (b % 2)) (x % 2) =
    and_step (bit_or a b) x ∙ ap₂ (λ (n m : ℕ). bit_and n (x / 2) * 2 + min m (x % 2)) d r in
    let h = ih (b / 2) (x / 2) in
    (omega (arith, and_step a x, e), omega (arith, and_step a x, and_step b x, e)))

union_free : (a b x : ℕ) → eqb (bit_and b x) 0 && eqb (bit_and a x) 0 ≡ eqb (bit_and (bit_or a b) x) 0
union_free a b x = go (eqb (bit_and b x) 0) refl (eqb (bit_and a x) 0) refl
  where
    left : (bit_and a x ≤ bit_and (bit_or a b) x) × (bit_and (bit_or a b) x ≤ bit_and a x + bit_and b x)
    left = union_shares a b x

    right : bit_and b x ≤ bit_and (bit_or a b) x
    right = subst (λ (n : ℕ). bit_and b x ≤ bit_and n x) (or_comm b a) (union_shares b a x).0

    go : (p : Bool) → eqb (bit_and b x) 0 ≡ p → (q : Bool) → eqb (bit_and a x) 0 ≡ q → p && q ≡ eqb (bit_and (bit_or a b) x) 0
    go true h true k = sym (eq-eqb (bit_and (bit_or a b) x) 0 (omega (arith, left.1, eqb-true (bit_and b x) 0 h, eqb-true (bit_and a x) 0 k)))
    go true h false k = sym (ne_eqb (bit_and (bit_or a b) x) 0 (λ z. eqb-false (bit_and a x) 0 k (omega (arith, left.0))))
    go false h q k = sym (ne_eqb (bit_and (bit_or a b) x) 0 (λ z. eqb-false (bit_and b x) 0 h (omega (arith, right))))

-- ---- scans: the first element, and the rest
passes_cons : {X : Type 0} (test : X → Bool) (x : X) (xs : List X) → passes test (x ∷ xs) ≡ test x && passes test xs
passes_cons test x xs = go (test x)
  where
    go : (b : Bool) → eqb (cond b (suc (first_bad test xs)) 0) (suc (length xs)) ≡ b && eqb (first_bad test xs) (length xs)
    go true = eqb-suc-suc (first_bad test xs) (length xs)
    go false = eqb-zero-suc (length xs)

-- ---- the pass as the code goes: the number of the first record that does not fit
abbrev pub first_unfit : Run → List Key → ℕ
first_unfit r [] = 0
first_unfit r (t ∷ ts) = cond (fits_next r t) (suc (first_unfit (run_after r t) ts)) 0

abbrev pub start : Run
start = record { state = 0; next = 0; used = 0 }

module _ {X : Type 0} where
  abbrev pub key_of : Rec X → Key
  key_of (rec s m x) = record { state = s; mask = m }

  abbrev state_of : Rec X → ℕ
  state_of (rec s m x) = s

  -- what is carried tells of the earlier records all that the rule asks of them
  record Carried (ps : List (Rec X)) (r : Run) : Type 0 where
    low : Each (λ p. state_of p ≤ r.state) ps
    uses : (m : ℕ) (x : X) → passes (λ p. apart p (rec r.state m x)) ps ≡ eqb (bit_and r.used m) 0
    next : (t : Rec X) → fits_after ps t ≡ fits_next r (key_of t)

  carried_none : Carried [] start
  unfolding fits_next
  carried_none = record { low = tt; uses = λ m x. sym (eq-eqb (bit_and 0 m) 0 (and_zero_l m)); next = next }
    where
      next : (t : Rec X) → true ≡ fits_next start (key_of t)
      next (rec zero m x) = rw (leb-zero (least m), eq-eqb (bit_and start.used m) 0 (and_zero_l m))
      next (rec (suc s) m x) = rw (lt-ltb 0 (suc s) (omega arith))

  -- a record of a greater state than all earlier ones is apart from them
  apart_above : (q m : ℕ) (x : X) (ps : List (Rec X)) → Each (λ p. state_of p < q) ps → passes (λ p. apart p (rec q m x)) ps ≡ true
  apart_above q m x ps h =
      each-passes (λ p. apart p (rec q m x)) ps (each_map (λ p. state_of p < q) (λ p. apart p (rec q m x) ≡ true) other ps h)
    where
      other : (p : Rec X) → state_of p < q → apart p (rec q m x) ≡ true
      other (rec s m' y) l = rw (ne_eqb s q (λ e. omega arith))

  -- what a record and those before it leave
  module _ (q m : ℕ) (x : X) (ps : List (Rec X)) (r : Run) (c : Carried ps r) (fits : fits_next r (record { state = q; mask = m }) ≡ true) where
    after : Run
    after = run_after r (record { state = q; mask = m })

    -- the state is greater than all before it, or the same as the last
    rises : (r.state < q) ⊎ (r.state ≡ q)
    unfolding fits_next
    rises = go (ltb r.state q) refl (eqb r.state q) refl fits
      where
        go : (a : Bool) → ltb r.state q ≡ a → (b : Bool) → eqb r.state q ≡ b
            → a || (b && (leb r.next (least m) && eqb (bit_and r.used m) 0)) ≡ true → (r.state < q) ⊎ (r.state ≡ q)
        go true h b k e = inl (ltb-true r.state q h)
        go false h true k e = inr (eqb-true r.state q k)
        go false h false k e = absurd (false≢true e)

    low_on : Each (λ p. state_of p ≤ q) (rec q m x ∷ ps)
    low_on = (omega arith, each_map (λ p. state_of p ≤ r.state) (λ p. state_of p ≤ q) (λ p h. up rises h) ps c.low)
      where
        up : {s : ℕ} → (r.state < q) ⊎ (r.state ≡ q) → s ≤ r.state → s ≤ q
        up (inl l) h = omega arith
        up (inr e) h = omega arith

    uses_on : (k : ℕ) (y : X) → passes (λ p. apart p (rec q k y)) (rec q m x ∷ ps) ≡ eqb (bit_and after.used k) 0
    unfolding after run_after
    uses_on k y = passes_cons (λ p. apart p (rec q k y)) (rec q m x) ps ∙ rw (eq-eqb q q refl) (go rises)
      where
        go : (r.state < q) ⊎ (r.state ≡ q)
            → eqb (bit_and m k) 0 && passes (λ p. apart p (rec q k y)) ps ≡ eqb (bit_and (cond (eqb r.state q) (bit_or r.used m) m) k) 0
        go (inl l) =
            rw (
              ne_eqb r.state q (λ e. omega arith),
              apart_above q k y ps (each_map (λ p. state_of p ≤ r.state) (λ p. state_of p < q) (λ p h. omega arith) ps c.low),
            )
            (kept (eqb (bit_and m k) 0))
          where
            kept : (b : Bool) → b && true ≡ b
            kept true = refl
            kept false = refl
        go (inr e) =
            rw (eq-eqb r.state q e, subst (λ (s : ℕ). passes (λ p. apart p (rec s k y)) ps ≡ eqb (bit_and r.used k) 0) e (c.uses k y))
            (union_free r.used m k)

    next_on : (t : Rec X) → fits_after (rec q m x ∷ ps) t ≡ fits_next after (key_of t)
    unfolding after run_after fits_next
    next_on (rec s k y) = go (ltb q s) refl (eqb q s) refl
      where
        go : (a : Bool) → ltb q s ≡ a → (b : Bool) → eqb q s ≡ b
            → (a || (b && ltb (least m) (least k))) && passes (λ p. apart p (rec s k y)) (rec q m x ∷ ps)
            ≡ a || (b && (leb (suc (least m)) (least k) && eqb (bit_and after.used k) 0))
        go true h b e =
            let l : q < s = ltb-true q s h in
            apart_above s k y (rec q m x ∷ ps) (each_map (λ p. state_of p ≤ q) (λ p. state_of p < s) (λ p i. omega arith) (rec q m x ∷ ps) low_on)
        go false h true e =
            ap (λ (b : Bool). ltb (least m) (least k) && b)
            (subst (λ (n : ℕ). passes (λ p. apart p (rec n k y)) (rec q m x ∷ ps) ≡ eqb (bit_and after.used k) 0) (eqb-true q s e) (uses_on k y))
        go false h false e = refl

    carried-next : Carried (rec q m x ∷ ps) after
    unfolding after run_after
    carried-next = record { low = low_on; uses = uses_on; next = next_on }

  pass_finds : (ps ts : List (Rec X)) (r : Run) → Carried ps r → first_unfit r (map key_of ts) ≡ first_clash ps ts
  unfolding after
  pass_finds ps [] r c = refl
  pass_finds ps (rec q m x ∷ ts) r c =
      go (fits_next r (key_of (rec q m x))) refl (λ e. pass_finds (rec q m x ∷ ps) ts (run_after r (key_of (rec q m x))) (carried-next q m x ps r c e))
    where
      rest : ℕ
      rest = first_unfit (run_after r (key_of (rec q m x))) (map key_of ts)

      go : (b : Bool) → fits_next r (key_of (rec q m x)) ≡ b → (b ≡ true → rest ≡ first_clash (rec q m x ∷ ps) ts)
          → cond (fits_next r (key_of (rec q m x))) (suc rest) 0 ≡ cond (fits_after ps (rec q m x)) (suc (first_clash (rec q m x ∷ ps) ts)) 0
      go true e ih = rw (c.next (rec q m x), e) (ap suc (ih refl))
      go false e ih = rw (c.next (rec q m x), e) refl

  -- a pass over what `key` reads finds the first clash of what `read` reads, where both see the same states and masks
  pub pass_clash : (read : ℕ → Rec X) (key : ℕ → Key) → ((i : ℕ) → key_of (read i) ≡ key i)
      → (at size count : ℕ) → first_unfit start (records_from key at size count) ≡ first_clash [] (records_from read at size count)
  unfolding records_from
  pass_clash read key same at size count =
      ap (first_unfit start) (keys at count) ∙ pass_finds [] (records_from read at size count) start carried_none
    where
      keys : (i left : ℕ) → records_from key i size left ≡ map key_of (records_from read i size left)
      keys i zero = refl
      keys i (suc left) = ap₂ (λ (k : Key) (ks : List Key). k ∷ ks) (sym (same i)) (keys (i + size) left)

-- ---- the pass over a file's records, from record i on
module _ (s : List ℕ) (at size count : ℕ) where
  abbrev pub unfit_from : ℕ → Run → ℕ
  unfit_from i run = first_unfit run (records_from (key_read s) (at + i * size) size (count - i))

  -- one turn
  turn : (i : ℕ) (run : Run) (key : Key) → i < count → key ≡ key_read s (at + i * size) → {b : Bool} → fits_next run key ≡ b
      → unfit_from i run ≡ cond b (suc (unfit_from (i + 1) (run_after run key))) 0
  turn i run key l is {b} e =
      let on : records_from (key_read s) (at + i * size + size) size (count - i - 1) ≡ records_from (key_read s) (at + (i + 1) * size) size (count - (i + 1))
      = ap₂ (λ (p n : ℕ). records_from (key_read s) p size n) (omega (arith, suc-mul i size)) (omega arith) in
      ap (first_unfit run) (records-step (key_read s) (at + i * size) size (count - i) (λ z. omega arith) ∙ ap₂ (λ (k : Key) (ks : List Key). k ∷ ks) (sym is) on)
      ∙ ap (λ (c : Bool). cond c (suc (unfit_from (i + 1) (run_after run key))) 0) e

  pub fits_turn : (i : ℕ) (run : Run) (key : Key) (next : Run) → i < count → key ≡ key_read s (at + i * size) → fits_next run key ≡ true → next ≡ run_after run key
      → i + unfit_from i run ≡ unfit_from 0 start → i + 1 + unfit_from (i + 1) next ≡ unfit_from 0 start
  fits_turn i run key next l is e n w = let t = turn i run key l is e in let m = ap (unfit_from (i + 1)) n in omega arith

  clashes : List (Rec (Unit {0}))
  clashes = records_from (λ (i : ℕ). bare (key_read s i)) at size count

  whole : unfit_from 0 start ≡ first_clash [] clashes
  unfolding clashes
  whole = ap₂ (λ (p n : ℕ). first_unfit start (records_from (key_read s) p size n)) (omega arith) (omega arith) ∙ pass_clash (λ i. bare (key_read s i)) (key_read s) (λ i. refl) at size count

  -- where the pass stops
  pub clash_here : (i : ℕ) (run : Run) (key : Key) → i < count → key ≡ key_read s (at + i * size) → fits_next run key ≡ false
      → i + unfit_from i run ≡ unfit_from 0 start → Some i ≡ stopped count (first_clash [] (records_from (λ (i : ℕ). bare (key_read s i)) at size count))
  unfolding clashes
  clash_here i run key l is e w =
      let t = turn i run key l is e in
      let stop : first_clash [] clashes ≡ i = sym whole ∙ omega arith in
      rw (stop, ne_eqb i count (λ z. omega arith)) refl

  -- or that it does not
  pub no_clash : (run : Run) → count + unfit_from count run ≡ unfit_from 0 start
      → None ≡ stopped count (first_clash [] (records_from (λ (i : ℕ). bare (key_read s i)) at size count))
  unfolding clashes
  no_clash run w =
      let end : unfit_from count run ≡ 0 = ap (first_unfit run) (records-end (key_read s) (at + count * size) size (count - count) (omega arith)) in
      let all : first_clash [] clashes ≡ count = sym whole ∙ omega arith in
      rw (all, eq-eqb count count refl) refl

-- ---- the first clash of a kind's records is that of their states and masks
pub clash_is : {X : Type 0} (s : List ℕ) (read : ℕ → Rec X) → ((i : ℕ) → key_of (read i) ≡ key_read s i)
    → (at size count : ℕ) → first_clash [] (records_from (λ (i : ℕ). bare (key_read s i)) at size count) ≡ first_clash [] (records_from read at size count)
clash_is s read same at size count = sym (pass_clash (λ i. bare (key_read s i)) (key_read s) (λ i. refl) at size count) ∙ pass_clash read (key_read s) same at size count
