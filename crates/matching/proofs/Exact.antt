-- A table's states give the trees of the set that it holds. So the search on two tables is that on their sets, and a member's tree is found
-- exactly if it is a state of the end set. Assumes nothing.
use mathlib.Core.Path.{◌≡◌, refl, sym, ap, ap₂, ◌∙◌, subst}
use mathlib.Core.Bool.{Bool, ◌||◌}
use mathlib.Core.List.{List, [], ◌∷◌}
use mathlib.Core.Option.{Option, none, some}
use Prim.Native.Nat.{ℕ, zero, suc, ◌+◌, ◌<◌}
use native.Mathlib.Omega.{arith}
use lib.IntN.{ℤ}
use lib.ListN.{get_or, take}
use Rattle.automata.specs.Choice.{choose}
use Rattle.automata.specs.Tree.{Tree, Automaton, tree_of, node, and_then}
use Rattle.automata.specs.Sets.{roots_in, roots, automaton_of}
use Rattle.automata.specs.Members.{up_to}
use Rattle.automata.proofs.Words.{Word}
use Rattle.stored.specs.Rules.{level_of}
use Rattle.verdict.specs.Verdict.{is_state}
use Rattle.verdict.specs.Search.{fits_one, found, searched}
use Rattle.verdict.proofs.Searching.{same_trees, matches, search_exact}
use Rattle.lookup.specs.Alts.{moves_in, table_automaton}
use Rattle.lookup.proofs.AltsLaws.{inner_alts, leaf_alts_lem}
use Rattle.matching.specs.Levels.{Among}
use Rattle.matching.specs.Seeking.{Held, Lent}
use Rattle.matching.proofs.LevelLaws.{start-zero, start-next}
use Rattle.matching.proofs.Grounds.{start_is, level_of_lem, chosen}
use Rattle.matching.proofs.Words.{any_ext, word_found}
use Rattle.matching.proofs.Roots.{word_taken, word_whole}

-- ---- one table
module _ {rows masks : List ℕ} {coefs : List ℤ} {counts first : List ℕ} {n : ℕ} (h : Held rows masks coefs counts first n) where
  tree-same : (m at : ℕ) (w : List ℕ) (s : ℕ) → at + m ≡ n → Among counts at s
      → tree_of (table_automaton rows masks coefs first) (suc at) m w s ≡ tree_of (automaton_of h.set) (suc at) m w s
  tree-same zero at [] s e a = refl
  tree-same zero at (c ∷ []) s e a =
      let l : level_of h.set s ≡ suc h.set.n = level_of_lem h at s (omega arith) a ∙ ap suc (omega (arith, h.qubits)) in
      ap (choose c) (sym (leaf_alts_lem h.formed h.unpacked.holds s l))
  tree-same zero at (c ∷ d ∷ w) s e a = refl
  tree-same (suc m) at [] s e a = refl
  tree-same (suc m) at (c ∷ w) s e a =
      go (choose c (moves_in rows masks first s)) refl (chosen h at s c (omega arith) a) (λ q b. tree-same m (suc at) w q (omega arith) b)
      ∙ ap (λ (o : Option (ℕ × ℕ)). and_then o U') (ap (choose c) (sym (inner_alts h.formed h.unpacked.holds s (omega (arith, level_of_lem h at s (omega arith) a, h.qubits)))))
    where
      U : ℕ → ℕ → Option (Tree (suc m))
      U l r = node (tree_of (table_automaton rows masks coefs first) (suc (suc at)) m w l) (tree_of (table_automaton rows masks coefs first) (suc (suc at)) m w r)

      U' : ℕ → ℕ → Option (Tree (suc m))
      U' l r = node (tree_of (automaton_of h.set) (suc (suc at)) m w l) (tree_of (automaton_of h.set) (suc (suc at)) m w r)

      go : (o : Option (ℕ × ℕ)) → choose c (moves_in rows masks first s) ≡ o
          → ((p : ℕ × ℕ) → choose c (moves_in rows masks first s) ≡ some p → Among counts (suc at) p.0 × Among counts (suc at) p.1)
          → ((q : ℕ) → Among counts (suc at) q → tree_of (table_automaton rows masks coefs first) (suc (suc at)) m w q ≡ tree_of (automaton_of h.set) (suc (suc at)) m w q)
          → and_then o U ≡ and_then o U'
      go none f k ih = refl
      go (some p) f k ih = ap₂ node (ih p.0 (k p f).0) (ih p.1 (k p f).1)

  root_among : (r : ℕ) → r < get_or counts 0 0 → Among counts 0 r
  root_among r lt = record { after = omega (arith, start-zero counts); before = omega (arith, start-zero counts, start-next counts 0) }

  pub roots-are : get_or counts 0 0 ≡ roots h.set
  roots-are = omega (arith, start-zero counts, start-next counts 0, start_is h 1 (omega arith), start-zero h.set.counts, start-next h.set.counts 0, first_count h.set.counts)
    where
      first_count : (cs : List ℕ) → roots_in cs ≡ get_or cs 0 0
      first_count [] = refl
      first_count (c ∷ cs) = refl

  pub root_tree : (w : List ℕ) (r : ℕ) → r < get_or counts 0 0 → tree_of (table_automaton rows masks coefs first) 1 n w r ≡ tree_of (automaton_of h.set) 1 n w r
  root_tree w r lt = tree-same n 0 w r (omega arith) (root_among r lt)

-- ---- two tables
same_trees_lem : (S E S' E' : Automaton ℕ) (n : ℕ) (x y : Option (Tree n)) → same_trees S E n x y ≡ same_trees S' E' n x y
same_trees_lem S E S' E' n none y = refl
same_trees_lem S E S' E' n (some x) none = refl
same_trees_lem S E S' E' n (some x) (some y) = refl

one-among : (f g : ℕ → Bool) (i m : ℕ) → ((e : ℕ) → e < i + m → f e ≡ g e) → fits_one f (up_to i m) ≡ fits_one g (up_to i m)
one-among f g i zero h = refl
one-among f g i (suc m) h = ap₂ ◌||◌ (h i (omega arith)) (one-among f g (suc i) m (λ e lt. h e (omega arith)))

module _ {rows masks : List ℕ} {coefs : List ℤ} {counts first end_rows end_masks : List ℕ} {end_coefs : List ℤ} {end_counts end_first word : List ℕ} {wide size n : ℕ}
    (t : Lent rows masks coefs counts first end_rows end_masks end_coefs end_counts end_first word wide size n) (r : ℕ) (root : r < get_or counts 0 0) where
  abbrev S : Automaton ℕ
  S = table_automaton rows masks coefs first

  abbrev E : Automaton ℕ
  E = table_automaton end_rows end_masks end_coefs end_first

  abbrev S' : Automaton ℕ
  S' = automaton_of t.image.set

  abbrev E' : Automaton ℕ
  E' = automaton_of t.ends.set

  is_word : Word n (take (n + 1) word)
  is_word = subst (Word n) (word_taken t) (word_whole t)

  match_same : (w v : List ℕ) (e : ℕ) → e < get_or end_counts 0 0 → matches S E 1 n w v (r, e) ≡ matches S' E' 1 n w v (r, e)
  match_same w v e lt =
      ap₂ (λ (x y : Option (Tree n)). same_trees S E n x y) (root_tree t.image w r root) (root_tree t.ends v e lt)
      ∙ same_trees_lem S E S' E' n (tree_of S' 1 n w r) (tree_of E' 1 n v e)

  found-same : (e : ℕ) → e < get_or end_counts 0 0 → found S E 1 n (take (n + 1) word) ((r, e) ∷ []) ≡ found S' E' 1 n (take (n + 1) word) ((r, e) ∷ [])
  found-same e lt =
      sym (word_found S E n (take (n + 1) word) (r, e) is_word)
      ∙ any_ext (suc n) (λ v. matches S E 1 n (take (n + 1) word) v (r, e)) (λ v. matches S' E' 1 n (take (n + 1) word) v (r, e)) (λ v. match_same (take (n + 1) word) v e lt)
      ∙ word_found S' E' n (take (n + 1) word) (r, e) is_word

  -- the search on the tables is that on their sets
  pub search_same : searched S E (get_or end_counts 0 0) n (take (n + 1) word) r ≡ searched S' E' (roots t.ends.set) n (take (n + 1) word) r
  search_same =
      one-among (λ e. found S E 1 n (take (n + 1) word) ((r, e) ∷ [])) (λ e. found S' E' 1 n (take (n + 1) word) ((r, e) ∷ [])) 0 (get_or end_counts 0 0) (λ e lt. found-same e (omega arith))
      ∙ ap (λ (k : ℕ). fits_one (λ e. found S' E' 1 n (take (n + 1) word) ((r, e) ∷ [])) (up_to 0 k)) (roots-are t.ends)

  -- where the root and the word give a tree, it is a state of the end set exactly if the search on the tables finds it
  pub state_exact : (x : Tree t.ends.set.n) → tree_of S' 1 t.ends.set.n (take (n + 1) word) r ≡ some x
      → searched S E (get_or end_counts 0 0) n (take (n + 1) word) r ≡ is_state t.ends.set t.ends.set.n x
  state_exact x e =
      search_same
      ∙ ap (λ (k : ℕ). searched S' E' (roots t.ends.set) k (take (n + 1) word) r) t.ends.qubits
      ∙ search_exact t.image.set t.ends.set r (take (n + 1) word) (subst (λ (k : ℕ). Word k (take (n + 1) word)) t.ends.qubits is_word) x e
