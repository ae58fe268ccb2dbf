-- Demand 2: for every root and every word the set that a gate builds has a tree exactly if the old one had, and it is the gate's matrix
-- applied to the old one; so too for a circuit, and the result has the same members. Assumes nothing.
use mathlib.Core.Path.{◌≡◌, refl, sym, ap, ap₂, ◌∙◌, subst}
use mathlib.Core.Bool.{Bool, true, false, cond, ◌||◌, false≢true}
use mathlib.Core.List.{List, [], ◌∷◌, ◌++◌, map}
use mathlib.Core.Option.{Option, none, some}
use Prim.Native.Nat.{ℕ, zero, suc, ◌+◌, ◌-◌, ◌<◌, ◌≤◌}
use native.Mathlib.Omega.{arith}
use lib.Dec.{eqb, ltb}
use lib.ListN.{length}
use borrow.Author.Tests.{eq-eqb, eqb-true, eqb-false, ltb-true, ltb-false}
use Rattle.amplitude.specs.Leaf.{turn}
use Rattle.amplitude.proofs.Equal.{both}
use Rattle.automata.specs.Choice.{Alt, map_o, map_alt}
use Rattle.automata.specs.Tree.{Automaton, tree_of}
use Rattle.automata.specs.Sets.{TR, QSet, own, automaton_of, tree, roots, roots_in}
use Rattle.automata.specs.Members.{up_to, runs}
use Rattle.automata.proofs.Choosing.{Disjoint, disjoint_map, disjoint-together}
use Rattle.automata.proofs.Words.{is_some}
use Rattle.automata.proofs.MemberLaws.{same_runs}
use Rattle.gates.specs.Gate.{Gate}
use Rattle.gates.specs.Matrix.{gate_matrix}
use Rattle.gates.specs.Key.{Side, L, R, Key, plain, shifted, inside, pair, same_side, same_key}
use Rattle.gates.specs.Roles.{role, plain_kids, inside_kids, pair_kids, pair_end, keyed}
use Rattle.gates.specs.Numbering.{rows, all_rows, is_in, mention_all, place, placed, number}
use Rattle.gates.specs.Build.{root_keys, built}
use Rattle.gates.proofs.Keyed.{alone-tree, above_tree}
use Rattle.gates.proofs.Crossed.{below-tree}
use Rattle.gates.proofs.NumberingLaws.{number-tree, own_append, rows_same, rows_other, all-before, all_after, from-number, append-nil}
use Rattle.gates.proofs.Fits.{Fits, fits-plain, fits_above, fits_below}

-- ---- keys: the test tells apart kind, tag and both numbers, and nothing else
side_sound : (s s' : Side) → same_side s s' ≡ true → s ≡ s'
side_sound L L h = refl
side_sound L R h = absurd (false≢true h)
side_sound R L h = absurd (false≢true h)
side_sound R R h = refl

pub key_sound : (x y : Key) → same_key x y ≡ true → x ≡ y
key_sound (plain q) (plain p) h = ap plain (eqb-true q p h)
key_sound (plain q) (shifted i p) h = absurd (false≢true h)
key_sound (plain q) (inside p) h = absurd (false≢true h)
key_sound (plain q) (pair p p' s) h = absurd (false≢true h)
key_sound (shifted j q) (plain p) h = absurd (false≢true h)
key_sound (shifted j q) (shifted i p) h = let b = both (eqb j i) (eqb q p) h in ap₂ shifted (eqb-true j i b.0) (eqb-true q p b.1)
key_sound (shifted j q) (inside p) h = absurd (false≢true h)
key_sound (shifted j q) (pair p p' s) h = absurd (false≢true h)
key_sound (inside q) (plain p) h = absurd (false≢true h)
key_sound (inside q) (shifted i p) h = absurd (false≢true h)
key_sound (inside q) (inside p) h = ap inside (eqb-true q p h)
key_sound (inside q) (pair p p' s) h = absurd (false≢true h)
key_sound (pair q q' u) (plain p) h = absurd (false≢true h)
key_sound (pair q q' u) (shifted i p) h = absurd (false≢true h)
key_sound (pair q q' u) (inside p) h = absurd (false≢true h)
key_sound (pair q q' u) (pair p p' s) h =
    let a = both (same_side u s) _ h in
    let b = both (eqb q p) (eqb q' p') a.1 in
    let e : u ≡ s = side_sound u s a.0 in
    let e₁ : q ≡ p = eqb-true q p b.0 in
    let e₂ : q' ≡ p' = eqb-true q' p' b.1 in
    cc

side_same : (s : Side) → same_side s s ≡ true
side_same L = refl
side_same R = refl

pub key_same : (x : Key) → same_key x x ≡ true
key_same (plain q) = eq-eqb q q refl
key_same (shifted j q) = rw (eq-eqb j j refl, eq-eqb q q refl)
key_same (inside q) = eq-eqb q q refl
key_same (pair q p s) = rw (side_same s, eq-eqb q q refl, eq-eqb p p refl)

-- ---- roots keep their order
root_in : (m i r : ℕ) → i ≤ r → r < i + m → is_in same_key (plain r) (map plain (up_to i m)) ≡ true
root_in zero i r h k = absurd (omega arith)
root_in (suc m) i r h k = go (eqb i r) refl (λ e. root_in m (suc i) r e (omega arith))
  where
    go : (b : Bool) → eqb i r ≡ b → (suc i ≤ r → is_in same_key (plain r) (map plain (up_to (suc i) m)) ≡ true) → (b || is_in same_key (plain r) (map plain (up_to (suc i) m))) ≡ true
    go true e ih = refl
    go false e ih = ih (omega (arith, eqb-false i r e))

root_place : (m i r : ℕ) → i ≤ r → r < i + m → place same_key (plain r) (map plain (up_to i m)) ≡ r - i
root_place zero i r h k = absurd (omega arith)
root_place (suc m) i r h k = go (eqb i r) refl (λ e. root_place m (suc i) r e (omega arith))
  where
    go : (b : Bool) → eqb i r ≡ b → (suc i ≤ r → place same_key (plain r) (map plain (up_to (suc i) m)) ≡ r - suc i)
        → cond b 0 (suc (place same_key (plain r) (map plain (up_to (suc i) m)))) ≡ r - i
    go true e ih = omega (arith, eqb-true i r e)
    go false e ih = omega (arith, ih (omega (arith, eqb-false i r e)), eqb-false i r e)

-- ---- sets in which no two transitions of a state share a choice: "The gate rules need this."
pub record Valid (Q : QSet) : Type 0 where
  pub moves : (q : ℕ) → Disjoint (own q Q.inner)
  pub ends : (q : ℕ) → Disjoint (own q Q.leaves)

demand2_keyed : (Q : QSet) (g : Gate) (w : List ℕ) (q : ℕ) → Valid Q → Fits Q.n g
    → tree_of (keyed g (automaton_of Q)) 1 Q.n w (plain q) ≡ map_o (gate_matrix g Q.n) (tree Q q w)
demand2_keyed Q g w q v (fits-plain k t h l) = alone-tree (automaton_of Q) (λ i s. v.moves s) v.ends k t Q.n 1 w q
demand2_keyed Q g w q v (fits_above k u b t h h' l) = above_tree (automaton_of Q) (λ i s. v.moves s) v.ends k b t h' Q.n 1 w q (omega arith)
demand2_keyed Q g w q v (fits_below b t h h' l) = below-tree (automaton_of Q) (λ i s. v.moves s) v.ends b t h' Q.n 1 w q (omega arith) (omega arith)

-- demand 2 for a gate
pub demand2 : (g : Gate) (Q : QSet) (w : List ℕ) (r : ℕ) → Valid Q → Fits Q.n g → r < roots Q
    → tree_of (automaton_of (built g Q)) 1 Q.n w r ≡ map_o (gate_matrix g Q.n) (tree Q r w)
unfolding built
demand2 g Q w r v f h =
    ap (λ (s : ℕ). tree_of (automaton_of (built g Q)) 1 Q.n w s) (sym (ap (λ (k : ℕ). 0 + k) (root_place (roots Q) 0 r (omega arith) (omega arith)) ∙ omega arith))
    ∙ number-tree same_key key_same key_sound (keyed g (automaton_of Q)) Q.n 1 0 (root_keys Q) [] w (plain r) (λ q k. refl) (root_in (roots Q) 0 r (omega arith) (omega arith))
    ∙ demand2_keyed Q g w r v f

-- ---- the result is valid again
disjoint-rows : {K X : Type 0} (f : K → List (Alt X)) → ((x : K) → Disjoint (f x)) → (s q : ℕ) (ks : List K) → Disjoint (own q (all_rows f s ks))
disjoint-rows f d s q [] = tt
disjoint-rows {K} {X} f d s q (k ∷ ks) = rw (own_append q (rows s (f k)) (all_rows f (suc s) ks)) (go (eqb s q) refl (disjoint-rows f d (suc s) q ks))
  where
    go : (b : Bool) → eqb s q ≡ b → Disjoint (own q (all_rows f (suc s) ks)) → Disjoint (own q (rows s (f k)) ++ own q (all_rows f (suc s) ks))
    go true e r =
        let e' : s ≡ q = eqb-true s q e in
        rw (all-before f q (suc s) ks (omega arith), append-nil (own q (rows s (f k)))) (rw (← e', rows_same s (f k)) (d k))
    go false e r = rw (rows_other q s (f k) (eqb-false s q e)) r

module _ {K : Type 0} (same : K → K → Bool) (A : Automaton K) (dm : (i : ℕ) (x : K) → Disjoint (A.moves i x)) (de : (x : K) → Disjoint (A.ends x)) where
  number-moves : (n i s : ℕ) (ks : List K) (q : ℕ) → Disjoint (own q (number same A i n s ks).inner)
  number-moves zero i s ks q = tt
  number-moves (suc n) i s ks q = rw (own_append q this rest) (go (ltb q (s + length ks)) refl (number-moves n (suc i) (s + length ks) next q))
    where
      next : List K
      next = mention_all same (A.moves i) [] ks

      f : K → List (Alt (ℕ × ℕ))
      f y = map_alt (placed same (s + length ks) next) (A.moves i y)

      this : List TR
      this = all_rows f s ks

      rest : List TR
      rest = (number same A (suc i) n (s + length ks) next).inner

      go : (b : Bool) → ltb q (s + length ks) ≡ b → Disjoint (own q rest) → Disjoint (own q this ++ own q rest)
      go true e r =
          rw (from-number same A n (suc i) (s + length ks) next q (ltb-true q (s + length ks) e), append-nil (own q this))
          (disjoint-rows f (λ y. disjoint_map (placed same (s + length ks) next) (A.moves i y) (dm i y)) s q ks)
      go false e r = rw (all_after f q s ks (ltb-false q (s + length ks) e)) r

  number-ends : (n i s : ℕ) (ks : List K) (q : ℕ) → Disjoint (own q (number same A i n s ks).leaves)
  number-ends zero i s ks q = disjoint-rows A.ends de s q ks
  number-ends (suc n) i s ks q = number-ends n (suc i) (s + length ks) (mention_all same (A.moves i) [] ks) q

module _ (A : Automaton ℕ) (dm : (i q : ℕ) → Disjoint (A.moves i q)) (de : (q : ℕ) → Disjoint (A.ends q)) (g : Gate) where
  pub keyed-moves : (i : ℕ) (x : Key) → Disjoint ((keyed g A).moves i x)
  keyed-moves i (plain q) = disjoint_map (plain_kids (role g i)) (A.moves i q) (dm i q)
  keyed-moves i (shifted j q) = disjoint_map (λ p. (shifted j p.0, shifted j p.1)) (A.moves i q) (dm i q)
  keyed-moves i (inside q) = disjoint_map (inside_kids (role g i)) (A.moves i q) (dm i q)
  keyed-moves i (pair q p s) = disjoint-together (pair_kids (role g i) s) (A.moves i q) (A.moves i p) (dm i q) (dm i p)

  pub keyed-ends : (x : Key) → Disjoint ((keyed g A).ends x)
  keyed-ends (plain q) = de q
  keyed-ends (shifted j q) = disjoint_map (turn j) (A.ends q) (de q)
  keyed-ends (inside q) = de q
  keyed-ends (pair q p s) = disjoint-together (pair_end s) (A.ends q) (A.ends p) (de q) (de p)

pub built_valid : (g : Gate) (Q : QSet) → Valid Q → Valid (built g Q)
unfolding built
built_valid g Q v =
    let A : Automaton ℕ = automaton_of Q in
    let km = keyed-moves A (λ i q. v.moves q) (λ q. v.ends q) g in
    let ke = keyed-ends A (λ i q. v.moves q) (λ q. v.ends q) g in
    record { moves = λ q. number-moves same_key (keyed g A) km ke Q.n 1 0 (root_keys Q) q; ends = λ q. number-ends same_key (keyed g A) km ke Q.n 1 0 (root_keys Q) q }

-- ---- the same roots and qubits
first-level : {K : Type 0} (same : K → K → Bool) (A : Automaton K) (n i s : ℕ) (ks : List K) → roots_in (number same A i n s ks).counts ≡ length ks
first-level same A zero i s ks = refl
first-level same A (suc n) i s ks = refl

length-up_to : (i m : ℕ) → length (map plain (up_to i m)) ≡ m
length-up_to i zero = refl
length-up_to i (suc m) = ap suc (length-up_to (suc i) m)

pub roots_kept : (g : Gate) (Q : QSet) → roots (built g Q) ≡ roots Q
unfolding built
roots_kept g Q = first-level same_key (keyed g (automaton_of Q)) Q.n 1 0 (root_keys Q) ∙ length-up_to 0 (roots Q)

pub n_kept : (g : Gate) (Q : QSet) → (built g Q).n ≡ Q.n
unfolding built
n_kept g Q = refl

-- ---- the same members
some-map : {T U : Type 0} (f : T → U) (o : Option T) → is_some (map_o f o) ≡ is_some o
some-map f none = refl
some-map f (some x) = refl

pub members_kept : (g : Gate) (Q : QSet) → Valid Q → Fits Q.n g → runs (built g Q) ≡ runs Q
unfolding built
members_kept g Q v f =
    same_runs (built g Q) Q (n_kept g Q) (roots_kept g Q)
    (λ s w h. ap is_some (demand2 g Q w s v f (subst (λ (r : ℕ). s < r) (roots_kept g Q) h)) ∙ some-map (gate_matrix g Q.n) (tree Q s w))
