-- The search finds a word exactly where there is one: by one word of the end set every pair's two trees are equal, so "is a state of the end
-- set" by the search is the plain "some root and word of the end set give an equal tree". Assumes nothing.
use mathlib.Core.Path.{◌≡◌, refl, sym, ap, ap₂, ◌∙◌}
use mathlib.Core.Bool.{Bool, true, false, cond, ◌&&◌, ◌||◌, false≢true}
use mathlib.Core.Logic.{◌⊎◌, inl, inr}
use mathlib.Core.List.Memᴰ
use mathlib.Core.List.{List, [], ◌∷◌, Memᴰ}
use mathlib.Core.Option.{Option, none, some}
use Prim.Native.Nat.{ℕ, zero, suc}
use native.Mathlib.Omega.{arith}
use lib.Dec.{eqb}
use borrow.Author.Tests.{eqb-true}
use Rattle.amplitude.specs.Leaf.{Leaf}
use Rattle.amplitude.proofs.Equal.{both}
use Rattle.automata.specs.Choice.{choose}
use Rattle.automata.specs.Tree.{Tree, Automaton, tree_of, node, and_then, same_t}
use Rattle.automata.specs.Sets.{QSet, automaton_of, roots, tree}
use Rattle.automata.specs.Members.{choices, up_to}
use Rattle.automata.proofs.Lists.{up_to_mem, up_to_inv}
use Rattle.automata.proofs.Words.{is_some, Word}
use Rattle.verdict.specs.Verdict.{equals, is_state}
use Rattle.verdict.specs.Search.{Pair, same_pair, is_met, meet, meet_kids, down, same_leaves, all_fit, or_next, try_each, fits_one, found, searched}
use Rattle.verdict.proofs.Demand3.{Equal, is_state_lem, state_is}

module _ (S E : Automaton ℕ) where
  -- both have a tree, and the trees are equal
  abbrev pub same_trees : (n : ℕ) → Option (Tree n) → Option (Tree n) → Bool
  same_trees n none y = false
  same_trees n (some x) none = false
  same_trees n (some x) (some y) = same_t n x y

  abbrev pub matches : ℕ → ℕ → List ℕ → List ℕ → Pair → Bool
  matches i n w v p = same_trees n (tree_of S i n w p.0) (tree_of E i n v p.1)

  abbrev pub all_match : ℕ → ℕ → List ℕ → List ℕ → List Pair → Bool
  all_match i n w v [] = true
  all_match i n w v (p ∷ row) = matches i n w v p && all_match i n w v row

  -- ---- a pair that is met already
  met_matches : (i n : ℕ) (w v : List ℕ) (p : Pair) (row : List Pair) → is_met p row ≡ true → all_match i n w v row ≡ true → matches i n w v p ≡ true
  met_matches i n w v p [] e h = absurd (false≢true e)
  met_matches i n w v p (q ∷ row) e h = go (same_pair q p) refl e (met_matches i n w v p row)
    where
      parts : (matches i n w v q ≡ true) × (all_match i n w v row ≡ true)
      parts = both (matches i n w v q) (all_match i n w v row) h

      go : (b : Bool) → same_pair q p ≡ b → b || is_met p row ≡ true → (is_met p row ≡ true → all_match i n w v row ≡ true → matches i n w v p ≡ true) → matches i n w v p ≡ true
      go true f k ih =
          let r = both (eqb q.0 p.0) (eqb q.1 p.1) f in
          ap₂ (λ (s e : ℕ). same_trees n (tree_of S i n w s) (tree_of E i n v e)) (sym (eqb-true q.0 p.0 r.0)) (sym (eqb-true q.1 p.1 r.1)) ∙ parts.0
      go false f k ih = ih k parts.1

  and-false : (b : Bool) → b && false ≡ false
  and-false true = refl
  and-false false = refl

  meet_match : (i n : ℕ) (w v : List ℕ) (p : Pair) (row : List Pair) → all_match i n w v (meet p row) ≡ matches i n w v p && all_match i n w v row
  meet_match i n w v p row = go (is_met p row) refl (all_match i n w v row) refl
    where
      go : (b : Bool) → is_met p row ≡ b → (a : Bool) → all_match i n w v row ≡ a → all_match i n w v (cond b row (p ∷ row)) ≡ matches i n w v p && all_match i n w v row
      go true e true f = f ∙ sym (ap₂ ◌&&◌ (met_matches i n w v p row e f) f)
      go true e false f = f ∙ sym (ap (λ (b : Bool). matches i n w v p && b) f ∙ and-false (matches i n w v p))
      go false e a f = refl

  -- ---- one level down
  abbrev in_row : ℕ → ℕ → List ℕ → List ℕ → Option (List Pair) → Bool
  in_row i n w v none = false
  in_row i n w v (some row) = all_match i n w v row

  pub no_tree : (n : ℕ) (x : Option (Tree n)) → same_trees n x none ≡ false
  no_tree n none = refl
  no_tree n (some x) = refl

  pub two_trees : (n : ℕ) (a b c d : Option (Tree n)) → same_trees (suc n) (node a b) (node c d) ≡ same_trees n a c && same_trees n b d
  two_trees n none b c d = refl
  two_trees n (some a) none c d = sym (and-false (same_trees n (some a) c))
  two_trees n (some a) (some b) none d = refl
  two_trees n (some a) (some b) (some c) none = sym (and-false (same_t n a c))
  two_trees n (some a) (some b) (some c) (some d) = refl

  and_assoc : (a b c : Bool) → (a && b) && c ≡ a && (b && c)
  and_assoc true b c = refl
  and_assoc false b c = refl

  down_match : (i n c d : ℕ) (w v : List ℕ) (row : List Pair) → all_match i (suc n) (c ∷ w) (d ∷ v) row ≡ in_row (suc i) n w v (down S E i c d row)
  down_match i n c d w v [] = refl
  down_match i n c d w v (p ∷ row) = go (choose c (S.moves i p.0)) (choose d (E.moves i p.1)) (down S E i c d row) (down_match i n c d w v row)
    where
      U : ℕ → ℕ → Option (Tree (suc n))
      U l r = node (tree_of S (suc i) n w l) (tree_of S (suc i) n w r)

      U' : ℕ → ℕ → Option (Tree (suc n))
      U' l r = node (tree_of E (suc i) n v l) (tree_of E (suc i) n v r)

      go : (o o' : Option (ℕ × ℕ)) (r : Option (List Pair)) → all_match i (suc n) (c ∷ w) (d ∷ v) row ≡ in_row (suc i) n w v r
          → same_trees (suc n) (and_then o U) (and_then o' U') && all_match i (suc n) (c ∷ w) (d ∷ v) row ≡ in_row (suc i) n w v (meet_kids o o' r)
      go none o' r e = refl
      go (some s) none r e = ap (λ (b : Bool). b && all_match i (suc n) (c ∷ w) (d ∷ v) row) (no_tree (suc n) (U s.0 s.1))
      go (some s) (some t) none e = ap (λ (b : Bool). same_trees (suc n) (U s.0 s.1) (U' t.0 t.1) && b) e ∙ and-false (same_trees (suc n) (U s.0 s.1) (U' t.0 t.1))
      go (some s) (some t) (some r) e =
          ap₂ ◌&&◌ (two_trees n (tree_of S (suc i) n w s.0) (tree_of S (suc i) n w s.1) (tree_of E (suc i) n v t.0) (tree_of E (suc i) n v t.1)) e
          ∙ and_assoc (matches (suc i) n w v (s.0, t.0)) (matches (suc i) n w v (s.1, t.1)) (all_match (suc i) n w v r)
          ∙ sym (meet_match (suc i) n w v (s.0, t.0) (meet (s.1, t.1) r) ∙ ap (λ (b : Bool). matches (suc i) n w v (s.0, t.0) && b) (meet_match (suc i) n w v (s.1, t.1) r))

  leaf_match : (i c d : ℕ) (row : List Pair) → all_fit S E c d row ≡ all_match i zero (c ∷ []) (d ∷ []) row
  leaf_match i c d [] = refl
  leaf_match i c d (p ∷ row) = ap₂ ◌&&◌ (go (choose c (S.ends p.0)) (choose d (E.ends p.1))) (leaf_match i c d row)
    where
      go : (x y : Option Leaf) → same_leaves x y ≡ same_trees zero x y
      go none y = refl
      go (some x) none = refl
      go (some x) (some y) = refl

-- ---- some choice of a list
either : (a b : Bool) → a || b ≡ true → (a ≡ true) ⊎ (b ≡ true)
either true b e = inl refl
either false b e = inr e

or_right : (a b : Bool) → b ≡ true → a || b ≡ true
or_right true b e = refl
or_right false b e = e

pub one_tells : (f : ℕ → Bool) (ds : List ℕ) → fits_one f ds ≡ true → (d : ℕ) × Memᴰ d ds × (f d ≡ true)
one_tells f [] h = absurd (false≢true h)
one_tells f (d ∷ ds) h = go (either (f d) (fits_one f ds) h) (one_tells f ds)
  where
    go : (f d ≡ true) ⊎ (fits_one f ds ≡ true) → (fits_one f ds ≡ true → (e : ℕ) × Memᴰ e ds × (f e ≡ true)) → (e : ℕ) × Memᴰ e (d ∷ ds) × (f e ≡ true)
    go (inl e) ih = (d, Memᴰ.head refl, e)
    go (inr e) ih = let r : (x : ℕ) × Memᴰ x ds × (f x ≡ true) = ih e in (r.0, Memᴰ.tail r.1, r.2)

pub one-is : (f : ℕ → Bool) (ds : List ℕ) (d : ℕ) → Memᴰ d ds → f d ≡ true → fits_one f ds ≡ true
one-is f [] d h e = absurd (Memᴰ.not-nil h)
one-is f (x ∷ ds) d h e = go (Memᴰ.cases_cons h) (λ k. one-is f ds d k e)
  where
    go : (d ≡ x) ⊎ Memᴰ d ds → (Memᴰ d ds → fits_one f ds ≡ true) → f x || fits_one f ds ≡ true
    go (inl k) ih = ap (λ (b : Bool). b || fits_one f ds) (ap f (sym k) ∙ e)
    go (inr k) ih = or_right (f x) (fits_one f ds) (ih k)

-- a choice whose step is there and found
abbrev Goes : (ℕ → Option (List Pair)) → (List Pair → Bool) → ℕ → Type 0
Goes step f d = (row : List Pair) × (step d ≡ some row) × (f row ≡ true)

try_is : (step : ℕ → Option (List Pair)) (f : List Pair → Bool) (ds : List ℕ) (d : ℕ) → Memᴰ d ds → Goes step f d → try_each step f ds ≡ true
try_is step f [] d h g = absurd (Memᴰ.not-nil h)
try_is step f (x ∷ ds) d h g = go (Memᴰ.cases_cons h) (λ k. try_is step f ds d k g)
  where
    later : (o : Option (List Pair)) → try_each step f ds ≡ true → or_next o f (try_each step f ds) ≡ true
    later none e = e
    later (some row) e = or_right (f row) (try_each step f ds) e

    go : (d ≡ x) ⊎ Memᴰ d ds → (Memᴰ d ds → try_each step f ds ≡ true) → or_next (step x) f (try_each step f ds) ≡ true
    go (inl k) ih =
        ap (λ (o : Option (List Pair)). or_next o f (try_each step f ds)) (ap step (sym k) ∙ g.1)
        ∙ ap (λ (b : Bool). b || try_each step f ds) g.2
    go (inr k) ih = later (step x) (ih k)

try_tells : (step : ℕ → Option (List Pair)) (f : List Pair → Bool) (ds : List ℕ) → try_each step f ds ≡ true → (d : ℕ) × Memᴰ d ds × Goes step f d
try_tells step f [] h = absurd (false≢true h)
try_tells step f (d ∷ ds) h = go (step d) refl h (try_tells step f ds)
  where
    go : (o : Option (List Pair)) → step d ≡ o → or_next o f (try_each step f ds) ≡ true → (try_each step f ds ≡ true → (e : ℕ) × Memᴰ e ds × Goes step f e)
        → (e : ℕ) × Memᴰ e (d ∷ ds) × Goes step f e
    go none e k ih = let r : (x : ℕ) × Memᴰ x ds × Goes step f x = ih k in (r.0, Memᴰ.tail r.1, r.2)
    go (some row) e k ih = by (either (f row) (try_each step f ds) k)
      where
        by : (f row ≡ true) ⊎ (try_each step f ds ≡ true) → (x : ℕ) × Memᴰ x (d ∷ ds) × Goes step f x
        by (inl l) = (d, Memᴰ.head refl, (row, e, l))
        by (inr l) = let r : (x : ℕ) × Memᴰ x ds × Goes step f x = ih l in (r.0, Memᴰ.tail r.1, r.2)

-- ---- the search, by one word for all pairs
module _ (S E : Automaton ℕ) where
  pub found_tells : (n i : ℕ) (w : List ℕ) (row : List Pair) → found S E i n w row ≡ true → (v : List ℕ) × Word n v × (all_match S E i n w v row ≡ true)
  found_tells zero i [] row h = absurd (false≢true h)
  found_tells zero i (c ∷ []) row h =
      let r = one_tells (λ d. all_fit S E c d row) choices h in
      (r.0 ∷ [], (up_to_inv 32 0 r.0 r.1).1, sym (leaf_match S E i c r.0 row) ∙ r.2)
  found_tells zero i (c ∷ d ∷ w) row h = absurd (false≢true h)
  found_tells (suc n) i [] row h = absurd (false≢true h)
  found_tells (suc n) i (c ∷ w) row h =
      let r = try_tells (λ d. down S E i c d row) (found S E (suc i) n w) choices h in
      let t = found_tells n (suc i) w r.2.0 r.2.2 in
      (r.0 ∷ t.0, ((up_to_inv 32 0 r.0 r.1).1, t.1), down_match S E i n c r.0 w t.0 row ∙ ap (in_row S E (suc i) n w t.0) r.2.1 ∙ t.2)

  pub found-is : (n i : ℕ) (w v : List ℕ) (row : List Pair) → Word n w → Word n v → all_match S E i n w v row ≡ true → found S E i n w row ≡ true
  found-is n i [] v row h k e = absurd h
  found-is n i (c ∷ w) [] row h k e = absurd k
  found-is zero i (c ∷ []) (d ∷ []) row h k e = one-is (λ x. all_fit S E c x row) choices d (up_to_mem 32 0 d (omega arith) (omega arith)) (leaf_match S E i c d row ∙ e)
  found-is zero i (c ∷ []) (d ∷ d' ∷ v) row h k e = absurd k
  found-is zero i (c ∷ c' ∷ w) (d ∷ v) row h k e = absurd h
  found-is (suc n) i (c ∷ w) (d ∷ v) row h k e =
      try_is (λ x. down S E i c x row) (found S E (suc i) n w) choices d (up_to_mem 32 0 d (omega arith) (omega (arith, k.0)))
      (go (down S E i c d row) refl (sym (down_match S E i n c d w v row) ∙ e) (λ r l. found-is n (suc i) w v r h.1 k.1 l))
    where
      go : (o : Option (List Pair)) → down S E i c d row ≡ o → in_row S E (suc i) n w v o ≡ true → ((r : List Pair) → all_match S E (suc i) n w v r ≡ true → found S E (suc i) n w r ≡ true)
          → Goes (λ x. down S E i c x row) (found S E (suc i) n w) d
      go none f l ih = absurd (false≢true l)
      go (some r) f l ih = (r, f, ih r l)

-- ---- over the end set's roots
same-equals : (S E : Automaton ℕ) (n : ℕ) (x : Tree n) (o : Option (Tree n)) → same_trees S E n (some x) o ≡ equals n x o
same-equals S E n x none = refl
same-equals S E n x (some y) = refl

equals-some : (n : ℕ) (x : Tree n) (o : Option (Tree n)) → equals n x o ≡ true → is_some o ≡ true
equals-some n x none e = e
equals-some n x (some y) e = refl

and-true : (b : Bool) → b && true ≡ b
and-true true = refl
and-true false = refl

-- two tests that imply each other are one
same_test : (a b : Bool) → (a ≡ true → b ≡ true) → (b ≡ true → a ≡ true) → a ≡ b
same_test true b f g = sym (f refl)
same_test false true f g = g refl
same_test false false f g = refl

-- the image's tree is a state of the end set exactly if the search finds a word for it
module _ (P E : QSet) (r : ℕ) (w : List ℕ) (word : Word E.n w) (x : Tree E.n) (is : tree_of (automaton_of P) 1 E.n w r ≡ some x) where
  one_match : (v : List ℕ) (e : ℕ) → all_match (automaton_of P) (automaton_of E) 1 E.n w v ((r, e) ∷ []) ≡ equals E.n x (tree E e v)
  one_match v e =
      and-true (matches (automaton_of P) (automaton_of E) 1 E.n w v (r, e))
      ∙ ap (λ (o : Option (Tree E.n)). same_trees (automaton_of P) (automaton_of E) E.n o (tree E e v)) is ∙ same-equals (automaton_of P) (automaton_of E) E.n x (tree E e v)

  search_tells : searched (automaton_of P) (automaton_of E) (roots E) E.n w r ≡ true → Equal E E.n x
  search_tells h =
      let e = one_tells (λ s. found (automaton_of P) (automaton_of E) 1 E.n w ((r, s) ∷ [])) (up_to 0 (roots E)) h in
      let v = found_tells (automaton_of P) (automaton_of E) E.n 1 w ((r, e.0) ∷ []) e.2 in
      let q : equals E.n x (tree E e.0 v.0) ≡ true = sym (one_match v.0 e.0) ∙ v.2 in
      let b = up_to_inv (roots E) 0 e.0 e.1 in
      record { root = e.0; word = v.0; is_member = record { root = omega (arith, b.1); word = v.1; has_tree = equals-some E.n x (tree E e.0 v.0) q }; equal = q }

  search_is : Equal E E.n x → searched (automaton_of P) (automaton_of E) (roots E) E.n w r ≡ true
  search_is h =
      one-is (λ s. found (automaton_of P) (automaton_of E) 1 E.n w ((r, s) ∷ [])) (up_to 0 (roots E)) h.root (up_to_mem (roots E) 0 h.root (omega arith) (omega (arith, h.is_member.root)))
      (found-is (automaton_of P) (automaton_of E) E.n 1 w h.word ((r, h.root) ∷ []) word h.is_member.word (one_match h.word h.root ∙ h.equal))

  pub search_exact : searched (automaton_of P) (automaton_of E) (roots E) E.n w r ≡ is_state E E.n x
  search_exact =
      same_test (searched (automaton_of P) (automaton_of E) (roots E) E.n w r) (is_state E E.n x) (λ h. is_state_lem E E.n x (search_tells h)) (λ h. search_is (state_is E E.n x h))
