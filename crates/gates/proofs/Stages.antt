-- What states stand on each level of a gate's result: pairs below an H's target, pairs between target and control of a CX with its control
-- below, and else none; so all leaves get the same k, one more under H. Assumes nothing.
use mathlib.Core.Path.{◌≡◌, refl, sym, ap, ◌∙◌, subst}
use mathlib.Core.Bool.{Bool, true, false, cond, ◌&&◌}
use mathlib.Core.List.{List, [], ◌∷◌, ◌++◌}
use Prim.Native.Nat.{ℕ, zero, suc, ◌+◌, ◌<◌, ◌≤◌}
use native.Mathlib.Omega.{arith}
use lib.Dec.{eqb, ltb, leb}
use lib.Bits.{bit_and}
use borrow.Author.Tests.{ne_eqb, eqb-true, eqb-false, lt-ltb, le-ltb, ltb-true, ltb-false, le-leb, lt-leb, leb-true, leb-false}
use Rattle.amplitude.specs.Leaf.{Leaf, leaf, k_of, turn}
use Rattle.amplitude.proofs.Equal.{both}
use Rattle.automata.specs.Choice.{least, Alt, alt, map_alt, insert, sorted, meet_one, meets, together}
use Rattle.automata.specs.Tree.{Automaton}
use Rattle.gates.specs.Gate.{Kind, phase, flip, H, Gate}
use Rattle.gates.specs.Matrix.{back}
use Rattle.gates.specs.Key.{Side, L, R, Key, plain, shifted, inside, pair, turned}
use Rattle.gates.specs.Roles.{Role, pass, begin, cross, act, within, role, Two, kind_kids, plain_kids, inside_kids, pair_kids, pair_end, keyed}
use Rattle.gates.specs.Build.{growth}
use Rattle.gates.proofs.Fits.{Whole, Fits, fits-plain, fits_above, fits_below}
use Rattle.gates.proofs.BuildShape.{Taken}

-- ---- what is taken, through a map and through two states together
module _ {X Y : Type 0} (P : X → Type 0) (Q : Y → Type 0) (f : X → Y) (h : (x : X) → P x → Q (f x)) where
  pub taken-map : (us : List (Alt X)) → Taken P us → Taken Q (map_alt f us)
  taken-map [] t = tt
  taken-map (alt m x ∷ us) t = (h x t.0, taken-map us t.1)

taken_any : {X : Type 0} (us : List (Alt X)) → Taken (λ x. Unit {0}) us
taken_any [] = tt
taken_any (alt m x ∷ us) = (tt, taken_any us)

module _ {X : Type 0} (P : X → Type 0) where
  taken-insert : (m : ℕ) (x : X) (us : List (Alt X)) → P x → Taken P us → Taken P (insert (alt m x) us)
  taken-insert m x [] h t = (h, tt)
  taken-insert m x (alt m' y ∷ us) h t = go (ltb (least m) (least m')) (taken-insert m x us h t.1)
    where
      go : (b : Bool) → Taken P (insert (alt m x) us) → Taken P (cond b (alt m x ∷ alt m' y ∷ us) (alt m' y ∷ insert (alt m x) us))
      go true r = (h, t)
      go false r = (t.0, r)

  taken-sorted : (us : List (Alt X)) → Taken P us → Taken P (sorted us)
  taken-sorted [] t = tt
  taken-sorted (alt m x ∷ us) t = taken-insert m x (sorted us) t.0 (taken-sorted us t.1)

module _ {X Y Z : Type 0} (P : X → Type 0) (Q : Y → Type 0) (R : Z → Type 0) (f : X → Y → Z) (h : (x : X) (y : Y) → P x → Q y → R (f x y)) where
  taken-front : (m : ℕ) (x : X) (vs : List (Alt Y)) (rest : List (Alt Z)) → P x → Taken Q vs → Taken R rest → Taken R (meet_one f m x vs ++ rest)
  taken-front m x [] rest p t r = r
  taken-front m x (alt m' y ∷ vs) rest p t r = go (eqb (bit_and m m') 0) (taken-front m x vs rest p t.1 r)
    where
      go : (b : Bool) → Taken R (meet_one f m x vs ++ rest) → Taken R (cond b (meet_one f m x vs) (alt (bit_and m m') (f x y) ∷ meet_one f m x vs) ++ rest)
      go true q = q
      go false q = (h x y p t.0, q)

  taken-meets : (us : List (Alt X)) (vs : List (Alt Y)) → Taken P us → Taken Q vs → Taken R (meets f us vs)
  taken-meets [] vs p t = tt
  taken-meets (alt m x ∷ us) vs p t = taken-front m x vs (meets f us vs) p.0 t (taken-meets us vs p.1 t)

  pub taken-together : (us : List (Alt X)) (vs : List (Alt Y)) → Taken P us → Taken Q vs → Taken R (together f us vs)
  taken-together us vs p t = taken-sorted R (meets f us vs) (taken-meets us vs p t)

-- ---- what a state is
abbrev pub IsPlain : Key → Type 0
IsPlain (plain q) = Unit {0}
IsPlain (shifted j q) = ⊥
IsPlain (inside q) = ⊥
IsPlain (pair q p s) = ⊥

abbrev pub IsPair : Key → Type 0
IsPair (plain q) = ⊥
IsPair (shifted j q) = ⊥
IsPair (inside q) = ⊥
IsPair (pair q p s) = Unit {0}

abbrev pub IsSingle : Key → Type 0
IsSingle (plain q) = Unit {0}
IsSingle (shifted j q) = Unit {0}
IsSingle (inside q) = Unit {0}
IsSingle (pair q p s) = ⊥

abbrev PairIf : Bool → Key → Type 0
PairIf true x = IsPair x
PairIf false x = IsPlain x

-- pairs stand below level t as far as level e
abbrev spanned : ℕ → ℕ → ℕ → Bool
spanned t e i = ltb t i && leb i e

-- which states stand on level i: with no pairs, or plain ones and from the target down to level e pairs
abbrev StagedBy : Bool → ℕ → ℕ → ℕ → Key → Type 0
StagedBy true t e i x = IsSingle x
StagedBy false t e i x = PairIf (spanned t e i) x

abbrev pub Stage : Gate → ℕ → Key → Type 0
Stage (Gate.plain (phase j) t) i x = IsSingle x
Stage (Gate.plain (flip j) t) i x = IsSingle x
Stage (Gate.plain H t) i x = PairIf (ltb t i) x
Stage (Gate.controlled c k t) i x = StagedBy (ltb c t) t c i x

abbrev Kids : (Key → Type 0) → Two → Type 0
Kids P p = P p.0 × P p.1

single-turned : (j q : ℕ) → IsSingle (turned j q)
single-turned zero q = tt
single-turned (suc j) q = tt

single-kind : (k : Kind) → Whole k → (p : ℕ × ℕ) → Kids IsSingle (kind_kids k p)
single-kind (phase j) h p = (tt, tt)
single-kind (flip j) h p = (single-turned (back j) p.1, single-turned j p.0)
single-kind H h p = absurd h

-- a role that makes no pairs
abbrev Keeps : Role → Type 0
Keeps pass = Unit {0}
Keeps begin = Unit {0}
Keeps cross = Unit {0}
Keeps (act k) = Whole k
Keeps (within k) = Whole k

single-plain : (o : Role) → Keeps o → (p : ℕ × ℕ) → Kids IsSingle (plain_kids o p)
single-plain pass h p = (tt, tt)
single-plain begin h p = (tt, tt)
single-plain cross h p = (tt, tt)
single-plain (act k) h p = single-kind k h p
single-plain (within k) h p = (tt, tt)

single-inside : (o : Role) → Keeps o → (p : ℕ × ℕ) → Kids IsSingle (inside_kids o p)
single-inside pass h p = (tt, tt)
single-inside begin h p = (tt, tt)
single-inside cross h p = (tt, tt)
single-inside (act k) h p = (tt, tt)
single-inside (within k) h p = single-kind k h p

keeps-alone : (k : Kind) (t i : ℕ) → Whole k → Keeps (role (Gate.plain k t) i)
keeps-alone k t i h = go (eqb i t)
  where
    go : (b : Bool) → Keeps (cond b (act k) pass)
    go true = h
    go false = tt

keeps_above : (k : Kind) (c t i : ℕ) → Whole k → c < t → Keeps (role (Gate.controlled c k t) i)
keeps_above k c t i h l = rw (lt-ltb c t l) (go (eqb i c) (eqb i t))
  where
    go : (a b : Bool) → Keeps (cond a begin (cond b (within k) pass))
    go true b = tt
    go false true = h
    go false false = tt

module _ (A : Automaton ℕ) where
  -- ---- gates that make no pairs
  moves-single : (g : Gate) (i : ℕ) (x : Key) → Keeps (role g i) → IsSingle x → Taken (Kids IsSingle) ((keyed g A).moves i x)
  moves-single g i (plain q) h s = taken-map (λ p. Unit {0}) (Kids IsSingle) (plain_kids (role g i)) (λ p u. single-plain (role g i) h p) (A.moves i q) (taken_any (A.moves i q))
  moves-single g i (shifted j q) h s = taken-map (λ p. Unit {0}) (Kids IsSingle) (λ p. (shifted j p.0, shifted j p.1)) (λ p u. (tt, tt)) (A.moves i q) (taken_any (A.moves i q))
  moves-single g i (inside q) h s = taken-map (λ p. Unit {0}) (Kids IsSingle) (inside_kids (role g i)) (λ p u. single-inside (role g i) h p) (A.moves i q) (taken_any (A.moves i q))
  moves-single g i (pair q p s') h s = absurd s

  -- ---- gates with pairs from level t on: a plain state's kids and a pair's, by the role
  moves-plain : (g : Gate) (i : ℕ) (P : Key → Type 0) (x : Key) → IsPlain x → ((p : ℕ × ℕ) → Kids P (plain_kids (role g i) p)) → Taken (Kids P) ((keyed g A).moves i x)
  moves-plain g i P (plain q) h k = taken-map (λ p. Unit {0}) (Kids P) (plain_kids (role g i)) (λ p u. k p) (A.moves i q) (taken_any (A.moves i q))
  moves-plain g i P (shifted j q) h k = absurd h
  moves-plain g i P (inside q) h k = absurd h
  moves-plain g i P (pair q p s) h k = absurd h

  moves-pair : (g : Gate) (i : ℕ) (P : Key → Type 0) (x : Key) → IsPair x → ((s : Side) (q p : ℕ × ℕ) → Kids P (pair_kids (role g i) s q p)) → Taken (Kids P) ((keyed g A).moves i x)
  moves-pair g i P (plain q) h k = absurd h
  moves-pair g i P (shifted j q) h k = absurd h
  moves-pair g i P (inside q) h k = absurd h
  moves-pair g i P (pair q p s) h k =
      taken-together (λ a. Unit {0}) (λ a. Unit {0}) (Kids P) (pair_kids (role g i) s) (λ a b u v. k s a b) (A.moves i q) (A.moves i p) (taken_any (A.moves i q)) (taken_any (A.moves i p))

  -- H
  stage-H : (t i : ℕ) (x : Key) → PairIf (ltb t i) x → Taken (Kids (PairIf (ltb t (suc i)))) ((keyed (Gate.plain H t) A).moves i x)
  stage-H t i x h = go (ltb t i) refl h
    where
      kids : (b : Bool) → eqb i t ≡ b → i ≤ t → (p : ℕ × ℕ) → Kids (PairIf (ltb t (suc i))) (plain_kids (cond b (act H) pass) p)
      kids true e l p = rw (lt-ltb t (suc i) (omega (arith, eqb-true i t e))) (tt, tt)
      kids false e l p = rw (le-ltb t (suc i) (omega (arith, eqb-false i t e))) (tt, tt)

      go : (b : Bool) → ltb t i ≡ b → PairIf b x → Taken (Kids (PairIf (ltb t (suc i)))) ((keyed (Gate.plain H t) A).moves i x)
      go true e k =
          let l : t < i = ltb-true t i e in
          moves-pair (Gate.plain H t) i (PairIf (ltb t (suc i))) x k (λ s q p. rw (lt-ltb t (suc i) (omega arith), ne_eqb i t (λ z. omega arith)) (tt, tt))
      go false e k = moves-plain (Gate.plain H t) i (PairIf (ltb t (suc i))) x k (kids (eqb i t) refl (ltb-false t i e))

  -- CX with its control below
  module _ (k : Kind) (c t : ℕ) (tc : t < c) where
    abbrev below : Gate
    below = Gate.controlled c k t

    roles : (i : ℕ) → role below i ≡ cond (eqb i t) (act H) (cond (eqb i c) cross pass)
    roles i = rw (le-ltb c t (omega arith))

    in_span : (i : ℕ) → t < i → i ≤ c → spanned t c i ≡ true
    in_span i h l = rw (lt-ltb t i h, le-leb i c l)

    out_above : (i : ℕ) → i ≤ t → spanned t c i ≡ false
    out_above i h = rw (le-ltb t i h)

    out_below : (i : ℕ) → c < i → spanned t c i ≡ false
    out_below i h = rw (lt-leb i c h) (go (ltb t i))
      where
        go : (b : Bool) → b && false ≡ false
        go true = refl
        go false = refl

    stage-plain : (i : ℕ) (x : Key) → spanned t c i ≡ false → IsPlain x → Taken (Kids (PairIf (spanned t c (suc i)))) ((keyed below A).moves i x)
    stage-plain i x e h =
        moves-plain below i (PairIf (spanned t c (suc i))) x h (λ p. subst (λ (o : Role). Kids (PairIf (spanned t c (suc i))) (plain_kids o p)) (sym (roles i)) (go p (eqb i t) refl (ltb t i) refl))
      where
        -- below the control, or at it: at level c the state is no plain one
        late : (p : ℕ × ℕ) (d : Bool) → eqb i c ≡ d → t < i → Kids (PairIf (spanned t c (suc i))) (plain_kids (cond d cross pass) p)
        late p true f l = let z : ◌≡◌ {A = ℕ} 0 1 = cc (in_span i l (let q : i ≤ c = omega (arith, eqb-true i c f) in q), e) in absurd (omega arith)
        late p false f l = after (leb i c) refl
          where
            after : (m : Bool) → leb i c ≡ m → Kids (PairIf (spanned t c (suc i))) (plain p.0, plain p.1)
            after true r = let z : ◌≡◌ {A = ℕ} 0 1 = cc (in_span i l (leb-true i c r), e) in absurd (omega arith)
            after false r = rw (out_below (suc i) (omega (arith, leb-false i c r))) (tt, tt)

        go : (p : ℕ × ℕ) (b : Bool) → eqb i t ≡ b → (l : Bool) → ltb t i ≡ l → Kids (PairIf (spanned t c (suc i))) (plain_kids (cond b (act H) (cond (eqb i c) cross pass)) p)
        go p true f l r = rw (in_span (suc i) (omega (arith, eqb-true i t f)) (omega (arith, eqb-true i t f))) (tt, tt)
        go p false f true r = late p (eqb i c) refl (ltb-true t i r)
        go p false f false r =
            let q : i < t = omega (arith, ltb-false t i r, eqb-false i t f) in
            rw (ne_eqb i c (λ z. omega arith), out_above (suc i) q) (tt, tt)

    stage-pair : (i : ℕ) (x : Key) → spanned t c i ≡ true → IsPair x → Taken (Kids (PairIf (spanned t c (suc i)))) ((keyed below A).moves i x)
    stage-pair i x e h =
        let b = both (ltb t i) (leb i c) e in
        let low : t < i = ltb-true t i b.0 in
        let high : i ≤ c = leb-true i c b.1 in
        moves-pair below i (PairIf (spanned t c (suc i))) x h
        (λ s q p. subst (λ (o : Role). Kids (PairIf (spanned t c (suc i))) (pair_kids o s q p)) (sym (roles i ∙ ap (λ (y : Bool). cond y (act H) (cond (eqb i c) cross pass)) (ne_eqb i t (λ z. omega arith)))) (go s q p (eqb i c) refl low high))
      where
        crossed : (s : Side) (q p : ℕ × ℕ) → Kids IsPlain (pair_kids cross s q p)
        crossed L q p = (tt, tt)
        crossed R q p = (tt, tt)

        go : (s : Side) (q p : ℕ × ℕ) (d : Bool) → eqb i c ≡ d → t < i → i ≤ c → Kids (PairIf (spanned t c (suc i))) (pair_kids (cond d cross pass) s q p)
        go s q p true f l m = rw (out_below (suc i) (omega (arith, eqb-true i c f))) (crossed s q p)
        go s q p false f l m = rw (in_span (suc i) (omega arith) (omega (arith, eqb-false i c f))) (tt, tt)

    stage-below : (i : ℕ) (x : Key) → PairIf (spanned t c i) x → Taken (Kids (PairIf (spanned t c (suc i)))) ((keyed below A).moves i x)
    stage-below i x h = go (spanned t c i) refl h
      where
        go : (b : Bool) → spanned t c i ≡ b → PairIf b x → Taken (Kids (PairIf (spanned t c (suc i)))) ((keyed below A).moves i x)
        go true e k = stage-pair i x e k
        go false e k = stage-plain i x e k

  -- ---- every gate
  stage-alone : (k : Kind) (t i : ℕ) (x : Key) → Stage (Gate.plain k t) i x → Taken (Kids (Stage (Gate.plain k t) (suc i))) ((keyed (Gate.plain k t) A).moves i x)
  stage-alone (phase j) t i x h = moves-single (Gate.plain (phase j) t) i x (keeps-alone (phase j) t i tt) h
  stage-alone (flip j) t i x h = moves-single (Gate.plain (flip j) t) i x (keeps-alone (flip j) t i tt) h
  stage-alone H t i x h = stage-H t i x h

  pub stage-moves : (n : ℕ) (g : Gate) → Fits n g → (i : ℕ) (x : Key) → Stage g i x → Taken (Kids (Stage g (suc i))) ((keyed g A).moves i x)
  stage-moves n g (fits-plain k t h l) i x s = stage-alone k t i x s
  stage-moves n g (fits_above k u c t h h' l) i x s =
      subst (λ (y : Bool). Taken (Kids (λ z. StagedBy y t c (suc i) z)) ((keyed (Gate.controlled c k t) A).moves i x)) (sym (lt-ltb c t h'))
      (moves-single (Gate.controlled c k t) i x (keeps_above k c t i u h') (rw (lt-ltb c t h') at s))
  stage-moves n g (fits_below c t h h' l) i x s =
      let e : ltb c t ≡ false = le-ltb c t (omega arith) in
      subst (λ (y : Bool). Taken (Kids (λ z. StagedBy y t c (suc i) z)) ((keyed (Gate.controlled c (flip 0) t) A).moves i x)) (sym e)
      (stage-below (flip 0) c t h' i x (rw e at s))

  -- ---- leaves: all of one k
  module _ (k : ℕ) (one : (q : ℕ) → Taken (λ x. k_of x ≡ k) (A.ends q)) where
    turn-k : (j : ℕ) (x : Leaf) → k_of x ≡ k → k_of (turn j x) ≡ k
    turn-k j (leaf l x) h = h

    pair-k : (s : Side) (x y : Leaf) → k_of x ≡ k → k_of y ≡ k → k_of (pair_end s x y) ≡ k + 1
    pair-k L (leaf l x) (leaf m y) h h' = omega arith
    pair-k R (leaf l x) (leaf m y) h h' = omega arith

    ends-single : (g : Gate) (x : Key) → IsSingle x → Taken (λ l. k_of l ≡ k) ((keyed g A).ends x)
    ends-single g (plain q) h = one q
    ends-single g (shifted j q) h = taken-map (λ l. k_of l ≡ k) (λ l. k_of l ≡ k) (turn j) (turn-k j) (A.ends q) (one q)
    ends-single g (inside q) h = one q
    ends-single g (pair q p s) h = absurd h

    ends-plain : (g : Gate) (x : Key) → IsPlain x → Taken (λ l. k_of l ≡ k) ((keyed g A).ends x)
    ends-plain g (plain q) h = one q
    ends-plain g (shifted j q) h = absurd h
    ends-plain g (inside q) h = absurd h
    ends-plain g (pair q p s) h = absurd h

    ends-pair : (g : Gate) (x : Key) → IsPair x → Taken (λ l. k_of l ≡ k + 1) ((keyed g A).ends x)
    ends-pair g (plain q) h = absurd h
    ends-pair g (shifted j q) h = absurd h
    ends-pair g (inside q) h = absurd h
    ends-pair g (pair q p s) h = taken-together (λ l. k_of l ≡ k) (λ l. k_of l ≡ k) (λ l. k_of l ≡ k + 1) (pair_end s) (pair-k s) (A.ends q) (A.ends p) (one q) (one p)

    -- k as it was
    kept : (g : Gate) (x : Key) → Taken (λ l. k_of l ≡ k) ((keyed g A).ends x) → Taken (λ l. k_of l ≡ k + 0) ((keyed g A).ends x)
    kept g x t = let e : k ≡ k + 0 = omega arith in subst (λ (m : ℕ). Taken (λ l. k_of l ≡ m) ((keyed g A).ends x)) e t

    ends-alone : (h : Kind) (t n : ℕ) (x : Key) → t ≤ n → Stage (Gate.plain h t) (suc n) x → Taken (λ l. k_of l ≡ k + growth (Gate.plain h t)) ((keyed (Gate.plain h t) A).ends x)
    ends-alone (phase j) t n x l s = kept (Gate.plain (phase j) t) x (ends-single (Gate.plain (phase j) t) x s)
    ends-alone (flip j) t n x l s = kept (Gate.plain (flip j) t) x (ends-single (Gate.plain (flip j) t) x s)
    ends-alone H t n x l s = ends-pair (Gate.plain H t) x (rw (lt-ltb t (suc n) (let e : t < suc n = omega arith in e)) at s)

    pub stage-ends : (n : ℕ) (g : Gate) → Fits n g → (x : Key) → Stage g (suc n) x → Taken (λ l. k_of l ≡ k + growth g) ((keyed g A).ends x)
    stage-ends n g (fits-plain h t p l) x s = ends-alone h t n x l s
    stage-ends n g (fits_above h u c t p p' l) x s = kept (Gate.controlled c h t) x (ends-single (Gate.controlled c h t) x (rw (lt-ltb c t p') at s))
    stage-ends n g (fits_below c t p p' l) x s =
        kept (Gate.controlled c (flip 0) t) x (ends-plain (Gate.controlled c (flip 0) t) x (subst (λ (b : Bool). PairIf b x) (out_below (flip 0) c t p' (suc n) (omega arith)) (rw (le-ltb c t (let e : t ≤ c = omega arith in e)) at s)))

-- ---- roots are plain
pub stage_root : (n : ℕ) (g : Gate) → Fits n g → (q : ℕ) → Stage g 1 (plain q)
stage_root n g (fits-plain (phase j) t h l) q = tt
stage_root n g (fits-plain (flip j) t h l) q = tt
stage_root n g (fits-plain H t h l) q = rw (le-ltb t 1 (omega arith)) tt
stage_root n g (fits_above k u c t h h' l) q = rw (lt-ltb c t h') tt
stage_root n g (fits_below c t h h' l) q = rw (le-ltb c t (omega arith), le-ltb t 1 (omega arith)) tt
