-- The walk's members are those that the definitions list: the words of a list of states depend only on which words give each of them a tree.
-- Assumes nothing.
use mathlib.Core.Path.{◌≡◌, refl, sym, ap, ap₂, ◌∙◌}
use mathlib.Core.Bool.{Bool, true, false, cond, ◌&&◌}
use mathlib.Core.List.{List, [], ◌∷◌, ◌++◌, map}
use mathlib.Core.Option.{Option, none, some}
use Prim.Native.Nat.{ℕ, zero, suc, ◌+◌, ◌<◌}
use native.Mathlib.Omega.{arith}
use lib.IntN.{ℤ}
use lib.ListN.{get_or, set, replicate}
use Rattle.amplitude.specs.Leaf.{Leaf}
use Rattle.automata.specs.Choice.{choose}
use Rattle.automata.specs.Tree.{Tree, Automaton, tree_of, node, and_then}
use Rattle.automata.specs.Sets.{automaton_of}
use Rattle.automata.specs.Members.{Member, member, choices, flat, up_to, or_none, kids, nexts, stops, words, runs}
use Rattle.automata.proofs.Words.{all_trees}
use Rattle.automata.proofs.Words as trees
use Rattle.jobs.specs.Reply.{word_places}
use Rattle.lookup.specs.Lookup.{is_some}
use Rattle.matching.specs.Seeking.{Held}
use Rattle.matching.proofs.Exact.{root_tree, roots-are}
use Rattle.walking.specs.Walk.{members_by, filled, root_of}
use Rattle.walking.proofs.Branches.{flat_ext, none_pass, same-members}

-- ---- lists
map_append : {X Y : Type 0} (f : X → Y) (xs ys : List X) → map f (xs ++ ys) ≡ map f xs ++ map f ys
map_append f [] ys = refl
map_append f (x ∷ xs) ys = ap (λ zs. f x ∷ zs) (map_append f xs ys)

map-flat : {Z X Y : Type 0} (f : X → Y) (g : Z → List X) (zs : List Z) → map f (flat g zs) ≡ flat (λ z. map f (g z)) zs
map-flat f g [] = refl
map-flat f g (z ∷ zs) = map_append f (g z) (flat g zs) ∙ ap (λ ys. map f (g z) ++ ys) (map-flat f g zs)

map_twice : {X Y Z : Type 0} (f : Y → Z) (g : X → Y) (xs : List X) → map f (map g xs) ≡ map (λ x. f (g x)) xs
map_twice f g [] = refl
map_twice f g (x ∷ xs) = ap (λ zs. f (g x) ∷ zs) (map_twice f g xs)

map-cond : {X Y : Type 0} (f : X → Y) (b : Bool) (x : X) → cond b (f x ∷ []) [] ≡ map f (cond b (x ∷ []) [])
map-cond f true x = refl
map-cond f false x = refl

-- ---- one step down, for all states of a list
module _ (A : Automaton ℕ) where
  abbrev in_kids : ℕ → ℕ → List ℕ → Option (List ℕ) → Bool
  in_kids i n w none = false
  in_kids i n w (some ks) = all_trees A i n w ks

  nexts_trees : (i n c : ℕ) (w ss : List ℕ) → all_trees A i (suc n) (c ∷ w) ss ≡ in_kids (suc i) n w (nexts A i c ss)
  nexts_trees i n c w [] = refl
  nexts_trees i n c w (s ∷ ss) = go (choose c (A.moves i s)) (nexts A i c ss) (nexts_trees i n c w ss)
    where
      two : (x y : Option (Tree n)) (b : Bool) → trees.is_some (node x y) && b ≡ trees.is_some x && (trees.is_some y && b)
      two none y b = refl
      two (some x) none b = refl
      two (some x) (some y) b = refl

      never : (x : Bool) → x && false ≡ false
      never true = refl
      never false = refl

      go : (o : Option (ℕ × ℕ)) (ks : Option (List ℕ)) → all_trees A i (suc n) (c ∷ w) ss ≡ in_kids (suc i) n w ks
          → trees.is_some (and_then o (λ l r. node (tree_of A (suc i) n w l) (tree_of A (suc i) n w r))) && all_trees A i (suc n) (c ∷ w) ss ≡ in_kids (suc i) n w (kids ks o)
      go none none e = refl
      go none (some ks) e = refl
      go (some p) none e = rw e (never (trees.is_some (node (tree_of A (suc i) n w p.0) (tree_of A (suc i) n w p.1))))
      go (some p) (some ks) e = rw e (two (tree_of A (suc i) n w p.0) (tree_of A (suc i) n w p.1) (all_trees A (suc i) n w ks))

  stops_trees : (i c : ℕ) (ss : List ℕ) → all_trees A i zero (c ∷ []) ss ≡ stops A c ss
  stops_trees i c [] = refl
  stops_trees i c (s ∷ ss) = go (choose c (A.ends s)) (stops_trees i c ss)
    where
      go : (o : Option Leaf) → all_trees A i zero (c ∷ []) ss ≡ stops A c ss → trees.is_some o && all_trees A i zero (c ∷ []) ss ≡ elim o [ none ↦ false | some x ↦ stops A c ss ]
      go none e = refl
      go (some x) e = e

  -- ---- the words listed, each after what stands before it
  pub members-words : (n i root : ℕ) (word : List ℕ) (at : ℕ) (ss : List ℕ)
      → members_by root word at (suc n) (λ (v : List ℕ). all_trees A i n v ss) ≡ map (λ (w : List ℕ). member root (filled word at w)) (words A i n ss)
  unfolding members_by filled
  members-words zero i root word at ss =
      flat_ext (λ (c : ℕ). cond (all_trees A i zero (c ∷ []) ss) (member root (set word at c) ∷ []) []) (λ (c : ℕ). map (λ (w : List ℕ). member root (filled word at w)) (cond (stops A c ss) ((c ∷ []) ∷ []) [])) 32 0
      (λ c lt. ap (λ (b : Bool). cond b (member root (set word at c) ∷ []) []) (stops_trees i c ss) ∙ map-cond (λ (w : List ℕ). member root (filled word at w)) (stops A c ss) (c ∷ []))
      ∙ sym (map-flat (λ (w : List ℕ). member root (filled word at w)) (λ (c : ℕ). cond (stops A c ss) ((c ∷ []) ∷ []) []) choices)
  members-words (suc n) i root word at ss =
      flat_ext (λ (c : ℕ). members_by root (set word at c) (at + 1) (suc n) (λ (v : List ℕ). all_trees A i (suc n) (c ∷ v) ss))
      (λ (c : ℕ). map (λ (w : List ℕ). member root (filled word at w)) (or_none (nexts A i c ss) (λ ks. map (λ w. c ∷ w) (words A (suc i) n ks)))) 32 0
      (λ c lt. go c (nexts A i c ss) (λ v. nexts_trees i n c v ss) (λ ks. members-words n (suc i) root (set word at c) (at + 1) ks))
      ∙ sym (map-flat (λ (w : List ℕ). member root (filled word at w)) (λ (c : ℕ). or_none (nexts A i c ss) (λ ks. map (λ w. c ∷ w) (words A (suc i) n ks))) choices)
    where
      go : (c : ℕ) (o : Option (List ℕ)) → ((v : List ℕ) → all_trees A i (suc n) (c ∷ v) ss ≡ in_kids (suc i) n v o)
          → ((ks : List ℕ) → members_by root (set word at c) (at + 1) (suc n) (λ (v : List ℕ). all_trees A (suc i) n v ks) ≡ map (λ (w : List ℕ). member root (filled (set word at c) (at + 1) w)) (words A (suc i) n ks))
          → members_by root (set word at c) (at + 1) (suc n) (λ (v : List ℕ). all_trees A i (suc n) (c ∷ v) ss) ≡ map (λ (w : List ℕ). member root (filled word at w)) (or_none o (λ ks. map (λ w. c ∷ w) (words A (suc i) n ks)))
      go c none e ih = none_pass root (set word at c) (at + 1) (suc n) (λ (v : List ℕ). all_trees A i (suc n) (c ∷ v) ss) e
      go c (some ks) e ih =
          same-members root (set word at c) (at + 1) (suc n) (λ (v : List ℕ). all_trees A i (suc n) (c ∷ v) ss) (λ (v : List ℕ). all_trees A (suc i) n v ks) e
          ∙ ih ks
          ∙ sym (map_twice (λ (w : List ℕ). member root (filled word at w)) (λ (w : List ℕ). c ∷ w) (words A (suc i) n ks))

-- ---- a table's members, in places
abbrev pub in_zeros : Member → Member
in_zeros (member r w) = member r (filled (replicate word_places 0) 0 w)

same_some : (n : ℕ) (o : Option (Tree n)) → is_some o ≡ trees.is_some o && true
same_some n none = refl
same_some n (some x) = refl

module _ {rows masks : List ℕ} {coefs : List ℤ} {counts first : List ℕ} {n : ℕ} (h : Held rows masks coefs counts first n) where
  root_listed : (r : ℕ) → r < get_or counts 0 0 → root_of rows masks coefs first n r ≡ map in_zeros (map (member r) (words (automaton_of h.set) 1 n (r ∷ [])))
  root_listed r lt =
      same-members r (replicate word_places 0) 0 (suc n) _ (λ (v : List ℕ). all_trees (automaton_of h.set) 1 n v (r ∷ []))
      (λ v. ap is_some (root_tree h v r lt) ∙ same_some n (tree_of (automaton_of h.set) 1 n v r))
      ∙ members-words (automaton_of h.set) n 1 r (replicate word_places 0) 0 (r ∷ [])
      ∙ sym (map_twice in_zeros (member r) (words (automaton_of h.set) 1 n (r ∷ [])))

  pub all_listed : flat (root_of rows masks coefs first n) (up_to 0 (get_or counts 0 0)) ≡ map in_zeros (runs h.set)
  all_listed =
      flat_ext (root_of rows masks coefs first n) (λ (r : ℕ). map in_zeros (map (member r) (words (automaton_of h.set) 1 n (r ∷ [])))) (get_or counts 0 0) 0 (λ r lt. root_listed r (omega arith))
      ∙ sym (map-flat in_zeros (λ (r : ℕ). map (member r) (words (automaton_of h.set) 1 n (r ∷ []))) (up_to 0 (get_or counts 0 0)))
      ∙ ap₂ (λ (k m : ℕ). map in_zeros (flat (λ (r : ℕ). map (member r) (words (automaton_of h.set) 1 m (r ∷ []))) (up_to 0 k))) (roots-are h) h.qubits
