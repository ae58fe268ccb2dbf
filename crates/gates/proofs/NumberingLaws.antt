-- Numbering by first mention changes no tree: every state that a transition mentions is in the next level's list, and its records stand at its
-- number. Assumes nothing.
use mathlib.Core.Path.{◌≡◌, refl, sym, ap, ap₂, ◌∙◌, subst}
use mathlib.Core.Bool.{Bool, true, false, cond, ◌||◌, false≢true}
use mathlib.Core.List.{List, [], ◌∷◌, ◌++◌, append_assoc}
use mathlib.Core.Option.{Option, some}
use Prim.Native.Nat.{ℕ, zero, suc, ◌+◌, ◌<◌, ◌≤◌}
use native.Mathlib.Nat.{add-zero, add-suc, suc-add}
use native.Mathlib.Omega.{arith}
use lib.Dec.{eqb}
use lib.ListN.{length}
use borrow.Author.Tests.{eq-eqb, ne_eqb}
use Rattle.automata.specs.Choice.{Alt, alt, has, choose, map_alt}
use Rattle.automata.specs.Tree.{Automaton, tree_of, node, and_then}
use Rattle.automata.specs.Sets.{Rec, rec, TR, LF, own, automaton}
use Rattle.gates.specs.Numbering.{rows, all_rows, is_in, mention, mentions, mention_all, place, placed, number}

-- ---- records of one state among others
module _ {X : Type 0} where
  pub append-nil : (us : List (Alt X)) → us ++ [] ≡ us
  append-nil [] = refl
  append-nil (u ∷ us) = ap (λ (vs : List (Alt X)). u ∷ vs) (append-nil us)

  pub own_append : (q : ℕ) (ts us : List (Rec X)) → own q (ts ++ us) ≡ own q ts ++ own q us
  own_append q [] us = refl
  own_append q (rec s m x ∷ ts) us = go (eqb s q) (own_append q ts us)
    where
      go : (b : Bool) → own q (ts ++ us) ≡ own q ts ++ own q us
          → cond b (alt m x ∷ own q (ts ++ us)) (own q (ts ++ us)) ≡ cond b (alt m x ∷ own q ts) (own q ts) ++ own q us
      go true e = ap (λ (vs : List (Alt X)). alt m x ∷ vs) e
      go false e = e

  pub rows_same : (s : ℕ) (us : List (Alt X)) → own s (rows s us) ≡ us
  rows_same s [] = refl
  rows_same s (alt m x ∷ us) = rw (eq-eqb s s refl) (ap (λ (vs : List (Alt X)). alt m x ∷ vs) (rows_same s us))

  pub rows_other : (q s : ℕ) (us : List (Alt X)) → (s ≡ q → ⊥) → own q (rows s us) ≡ []
  rows_other q s [] h = refl
  rows_other q s (alt m x ∷ us) h = rw (ne_eqb s q h) (rows_other q s us h)

module _ {K X : Type 0} (f : K → List (Alt X)) where
  pub all-before : (q s : ℕ) (ks : List K) → q < s → own q (all_rows f s ks) ≡ []
  all-before q s [] h = refl
  all-before q s (k ∷ ks) h =
      own_append q (rows s (f k)) (all_rows f (suc s) ks) ∙ ap₂ ◌++◌ (rows_other q s (f k) (λ e. omega arith)) (all-before q (suc s) ks (omega arith))

  pub all_after : (q s : ℕ) (ks : List K) → s + length ks ≤ q → own q (all_rows f s ks) ≡ []
  all_after q s [] h = refl
  all_after q s (k ∷ ks) h =
      own_append q (rows s (f k)) (all_rows f (suc s) ks) ∙ ap₂ ◌++◌ (rows_other q s (f k) (λ e. omega arith)) (all_after q (suc s) ks (omega arith))

  module _ (eq : K → K → Bool) (sound : (x y : K) → eq x y ≡ true → x ≡ y) where
    all-at : (s : ℕ) (ks : List K) (x : K) → is_in eq x ks ≡ true → own (s + place eq x ks) (all_rows f s ks) ≡ f x
    all-at s [] x h = cc
    all-at s (k ∷ ks) x h = go (eq k x) refl h (all-at (suc s) ks x)
      where
        go : (b : Bool) → eq k x ≡ b → (b || is_in eq x ks) ≡ true → (is_in eq x ks ≡ true → own (suc s + place eq x ks) (all_rows f (suc s) ks) ≡ f x)
            → own (s + cond b 0 (suc (place eq x ks))) (rows s (f k) ++ all_rows f (suc s) ks) ≡ f x
        go true e h' ih =
            ap (λ (q : ℕ). own q (rows s (f k) ++ all_rows f (suc s) ks)) (add-zero s)
            ∙ own_append s (rows s (f k)) (all_rows f (suc s) ks)
            ∙ ap₂ ◌++◌ (rows_same s (f k)) (all-before s (suc s) ks (omega arith)) ∙ append-nil (f k) ∙ ap f (sound k x e)
        go false e h' ih =
            ap (λ (q : ℕ). own q (rows s (f k) ++ all_rows f (suc s) ks)) (add-suc s (place eq x ks) ∙ sym (suc-add s (place eq x ks)))
            ∙ own_append (suc s + place eq x ks) (rows s (f k)) (all_rows f (suc s) ks)
            ∙ ap₂ ◌++◌ (rows_other (suc s + place eq x ks) s (f k) (λ z. omega arith)) (ih h')

-- ---- what is mentioned is in the list
module _ {K : Type 0} (eq : K → K → Bool) (same : (x : K) → eq x x ≡ true) where
  in_append : (k : K) (ks ls : List K) → is_in eq k ks ≡ true → is_in eq k (ks ++ ls) ≡ true
  in_append k [] ls h = cc
  in_append k (x ∷ ks) ls h = go (eq x k) h (in_append k ks ls)
    where
      go : (b : Bool) → (b || is_in eq k ks) ≡ true → (is_in eq k ks ≡ true → is_in eq k (ks ++ ls) ≡ true) → (b || is_in eq k (ks ++ ls)) ≡ true
      go true h' ih = refl
      go false h' ih = ih h'

  in_last : (k : K) (ks : List K) → is_in eq k (ks ++ (k ∷ [])) ≡ true
  in_last k [] = rw (same k)
  in_last k (x ∷ ks) = go (eq x k) (in_last k ks)
    where
      go : (b : Bool) → is_in eq k (ks ++ (k ∷ [])) ≡ true → (b || is_in eq k (ks ++ (k ∷ []))) ≡ true
      go true h = refl
      go false h = h

  pub mention-keeps : (k : K) (ks : List K) (l : K) → is_in eq k ks ≡ true → is_in eq k (mention eq ks l) ≡ true
  mention-keeps k ks l h = go (is_in eq l ks)
    where
      go : (b : Bool) → is_in eq k (cond b ks (ks ++ (l ∷ []))) ≡ true
      go true = h
      go false = in_append k ks (l ∷ []) h

  pub mention-has : (ks : List K) (l : K) → is_in eq l (mention eq ks l) ≡ true
  mention-has ks l = go (is_in eq l ks) refl
    where
      go : (b : Bool) → is_in eq l ks ≡ b → is_in eq l (cond b ks (ks ++ (l ∷ []))) ≡ true
      go true e = e
      go false e = in_last l ks

  pub mentions-keeps : (k : K) (us : List (Alt (K × K))) (ks : List K) → is_in eq k ks ≡ true → is_in eq k (mentions eq ks us) ≡ true
  mentions-keeps k [] ks h = h
  mentions-keeps k (alt m p ∷ us) ks h =
      mentions-keeps k us (mention eq (mention eq ks p.0) p.1) (mention-keeps k (mention eq ks p.0) p.1 (mention-keeps k ks p.0 h))

  pub all-keeps : (f : K → List (Alt (K × K))) (k : K) (xs ks : List K) → is_in eq k ks ≡ true → is_in eq k (mention_all eq f ks xs) ≡ true
  all-keeps f k [] ks h = h
  all-keeps f k (x ∷ xs) ks h = all-keeps f k xs (mentions eq ks (f x)) (mentions-keeps k (f x) ks h)

  abbrev pub Mentioned : List K → List (Alt (K × K)) → Type 0
  Mentioned ks [] = Unit {0}
  Mentioned ks (alt m p ∷ us) = (is_in eq p.0 ks ≡ true) × (is_in eq p.1 ks ≡ true) × Mentioned ks us

  mentions-all : (us : List (Alt (K × K))) (ks : List K) → Mentioned (mentions eq ks us) us
  mentions-all [] ks = tt
  mentions-all (alt m p ∷ us) ks = (
    mentions-keeps p.0 us (mention eq (mention eq ks p.0) p.1) (mention-keeps p.0 (mention eq ks p.0) p.1 (mention-has ks p.0)),
    mentions-keeps p.1 us (mention eq (mention eq ks p.0) p.1) (mention-has (mention eq ks p.0) p.1),
    mentions-all us (mention eq (mention eq ks p.0) p.1),
  )

  weaken : (ks ls : List K) (us : List (Alt (K × K))) → ((k : K) → is_in eq k ks ≡ true → is_in eq k ls ≡ true) → Mentioned ks us → Mentioned ls us
  weaken ks ls [] h m = tt
  weaken ks ls (alt n p ∷ us) h m = (h p.0 m.0, h p.1 m.1, weaken ks ls us h m.2)

  module _ (sound : (x y : K) → eq x y ≡ true → x ≡ y) (f : K → List (Alt (K × K))) where
    pub covered : (xs ks : List K) (x : K) → is_in eq x xs ≡ true → Mentioned (mention_all eq f ks xs) (f x)
    covered [] ks x h = absurd (false≢true h)
    covered (y ∷ xs) ks x h = go (eq y x) refl h (covered xs (mentions eq ks (f y)) x)
      where
        go : (b : Bool) → eq y x ≡ b → (b || is_in eq x xs) ≡ true → (is_in eq x xs ≡ true → Mentioned (mention_all eq f (mentions eq ks (f y)) xs) (f x))
            → Mentioned (mention_all eq f (mentions eq ks (f y)) xs) (f x)
        go true e h' ih =
            subst (λ (z : K). Mentioned (mention_all eq f (mentions eq ks (f y)) xs) (f z)) (sound y x e)
            (weaken (mentions eq ks (f y)) (mention_all eq f (mentions eq ks (f y)) xs) (f y) (λ k r. all-keeps f k xs (mentions eq ks (f y)) r) (mentions-all (f y) ks))
        go false e h' ih = ih h'

  -- a step through renamed states
  module _ {S T : Type 0} (c : ℕ) (ks : List K) (r : K × K → S × S) (G : S → S → Option T) (U : K → K → Option T)
      (h : (p : K × K) → is_in eq p.0 ks ≡ true → is_in eq p.1 ks ≡ true → G (r p).0 (r p).1 ≡ U p.0 p.1) where
    step-named : (us : List (Alt (K × K))) → Mentioned ks us → and_then (choose c (map_alt r us)) G ≡ and_then (choose c us) U
    step-named [] m = refl
    step-named (alt n p ∷ us) m = go (has n c) (step-named us m.2)
      where
        go : (b : Bool) → and_then (choose c (map_alt r us)) G ≡ and_then (choose c us) U
            → and_then (cond b (some (r p)) (choose c (map_alt r us))) G ≡ and_then (cond b (some p) (choose c us)) U
        go true e = h p m.0 m.1
        go false e = e

-- a state that is in the list has its place there
module _ {K : Type 0} (eq : K → K → Bool) where
  pub place_lt : (x : K) (ks : List K) → is_in eq x ks ≡ true → place eq x ks < length ks
  place_lt x [] h = absurd (false≢true h)
  place_lt x (y ∷ ys) h = go (eq y x) h (place_lt x ys)
    where
      go : (t : Bool) → (t || is_in eq x ys) ≡ true → (is_in eq x ys ≡ true → place eq x ys < length ys) → cond t 0 (suc (place eq x ys)) < suc (length ys)
      go true k ih = omega arith
      go false k ih = let l : place eq x ys < length ys = ih k in omega arith

-- ---- the theorem
module _ {K : Type 0} (eq : K → K → Bool) (A : Automaton K) where
  pub from-number : (n i s : ℕ) (ks : List K) (q : ℕ) → q < s → own q (number eq A i n s ks).inner ≡ []
  from-number zero i s ks q h = refl
  from-number (suc n) i s ks q h =
      let next : List K = mention_all eq (A.moves i) [] ks in
      own_append q (all_rows (λ x. map_alt (placed eq (s + length ks) next) (A.moves i x)) s ks) (number eq A (suc i) n (s + length ks) next).inner
      ∙ ap₂ ◌++◌ (all-before (λ x. map_alt (placed eq (s + length ks) next) (A.moves i x)) q s ks h) (from-number n (suc i) (s + length ks) next q (omega arith))

module _ {K : Type 0} (eq : K → K → Bool) (same : (x : K) → eq x x ≡ true) (sound : (x y : K) → eq x y ≡ true → x ≡ y) (A : Automaton K) where
  pub number-tree : (n i s : ℕ) (ks : List K) (pre : List TR) (w : List ℕ) (x : K)
      → ((q : ℕ) → s ≤ q → own q pre ≡ []) → is_in eq x ks ≡ true
      → tree_of (automaton (pre ++ (number eq A i n s ks).inner) (number eq A i n s ks).leaves) i n w (s + place eq x ks) ≡ tree_of A i n w x
  number-tree zero i s ks pre [] x u h = refl
  number-tree zero i s ks pre (c ∷ []) x u h = ap (choose c) (all-at A.ends eq sound s ks x h)
  number-tree zero i s ks pre (c ∷ d ∷ w) x u h = refl
  number-tree (suc n) i s ks pre [] x u h = refl
  number-tree (suc n) i s ks pre (c ∷ w) x u h =
      ap (λ (ts : List TR). tree_of (automaton ts ls) i (suc n) (c ∷ w) (s + place eq x ks)) (sym (append_assoc pre this rest))
      ∙ ap (λ (us : List (Alt (ℕ × ℕ))). and_then (choose c us) (λ l r. node (tree_of (automaton ((pre ++ this) ++ rest) ls) (suc i) n w l) (tree_of (automaton ((pre ++ this) ++ rest) ls) (suc i) n w r))) mine
      ∙ step-named eq same c next (placed eq b next) _ _
      (λ p h₀ h₁. ap₂ node (number-tree n (suc i) b next (pre ++ this) w p.0 under h₀) (number-tree n (suc i) b next (pre ++ this) w p.1 under h₁))
      (A.moves i x) (covered eq same sound (A.moves i) ks [] x h)
    where
      next : List K
      next = mention_all eq (A.moves i) [] ks

      b : ℕ
      b = s + length ks

      f : K → List (Alt (ℕ × ℕ))
      f y = map_alt (placed eq b next) (A.moves i y)

      this : List TR
      this = all_rows f s ks

      rest : List TR
      rest = (number eq A (suc i) n b next).inner

      ls : List LF
      ls = (number eq A (suc i) n b next).leaves

      under : (q : ℕ) → b ≤ q → own q (pre ++ this) ≡ []
      under q k = own_append q pre this ∙ ap₂ ◌++◌ (u q (omega arith)) (all_after f q s ks k)

      mine : own (s + place eq x ks) ((pre ++ this) ++ rest) ≡ f x
      mine =
          own_append (s + place eq x ks) (pre ++ this) rest
          ∙ ap₂ ◌++◌
          (own_append (s + place eq x ks) pre this ∙ ap₂ ◌++◌ (u (s + place eq x ks) (omega arith)) (all-at f eq sound s ks x h))
          (from-number eq A n (suc i) b next (s + place eq x ks) (let k : place eq x ks < length ks = place_lt eq x ks h in omega arith))
          ∙ append-nil (f x)

-- ---- a number, once given, stays: what a loop that writes records while it reads needs
module _ {K : Type 0} (eq : K → K → Bool) where
  place_append : (k : K) (ks ls : List K) → is_in eq k ks ≡ true → place eq k (ks ++ ls) ≡ place eq k ks
  place_append k [] ls h = absurd (false≢true h)
  place_append k (x ∷ ks) ls h = go (eq x k) h (place_append k ks ls)
    where
      go : (b : Bool) → (b || is_in eq k ks) ≡ true → (is_in eq k ks ≡ true → place eq k (ks ++ ls) ≡ place eq k ks)
          → cond b 0 (suc (place eq k (ks ++ ls))) ≡ cond b 0 (suc (place eq k ks))
      go true h' ih = refl
      go false h' ih = ap suc (ih h')

  pub place-mention : (k : K) (ks : List K) (l : K) → is_in eq k ks ≡ true → place eq k (mention eq ks l) ≡ place eq k ks
  place-mention k ks l h = go (is_in eq l ks)
    where
      go : (b : Bool) → place eq k (cond b ks (ks ++ (l ∷ []))) ≡ place eq k ks
      go true = refl
      go false = place_append k ks (l ∷ []) h
