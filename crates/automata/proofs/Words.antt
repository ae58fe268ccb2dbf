-- The words listed are exactly those with a tree at every state of the list, each once, strictly in order. Assumes nothing.
use mathlib.Core.Path.{◌≡◌, refl, sym, ap, ◌∙◌, subst}
use mathlib.Core.Bool.{Bool, true, false, cond, ◌&&◌, false≢true}
use mathlib.Core.Logic.{◌⊎◌, inl, inr}
use mathlib.Core.List.Memᴰ
use mathlib.Core.List.{List, [], ◌∷◌, map, Memᴰ}
use mathlib.Core.Option.{Option, none, some}
use Prim.Native.Nat.{ℕ, zero, suc, ◌<◌}
use native.Mathlib.Omega.{arith}
use Rattle.amplitude.specs.Leaf.{Leaf}
use Rattle.automata.specs.Choice.{choose}
use Rattle.automata.specs.Tree.{Tree, Automaton, tree_of, node, and_then}
use Rattle.automata.specs.Members.{nexts, kids, stops, words, choices, or_none}
use Rattle.automata.proofs.Lists.{flat_mem, flat_inv, map_mem, map_inv, up_to_mem, up_to_inv, Each, Strictly, strict_flat, strict_map, each_mapped}

abbrev pub is_some : {T : Type 0} → Option T → Bool
is_some none = false
is_some (some x) = true

-- "A word is one choice per level, n+1 in all."
abbrev pub Word : ℕ → List ℕ → Type 0
Word n [] = ⊥
Word zero (c ∷ []) = c < 32
Word zero (c ∷ d ∷ w) = ⊥
Word (suc n) (c ∷ w) = (c < 32) × Word n w

-- "then by word, level 1 first"
abbrev pub Earlier : List ℕ → List ℕ → Type 0
Earlier [] v = ⊥
Earlier (c ∷ w) [] = ⊥
Earlier (c ∷ w) (d ∷ v) = (c < d) ⊎ ((c ≡ d) × Earlier w v)

pub earlier_asym : (w v : List ℕ) → Earlier w v → Earlier v w → ⊥
earlier_asym [] v h k = h
earlier_asym (c ∷ w) [] h k = h
earlier_asym (c ∷ w) (d ∷ v) (inl h) (inl k) = omega arith
earlier_asym (c ∷ w) (d ∷ v) (inl h) (inr k) = omega (arith, k.0)
earlier_asym (c ∷ w) (d ∷ v) (inr h) (inl k) = omega (arith, h.0)
earlier_asym (c ∷ w) (d ∷ v) (inr h) (inr k) = earlier_asym w v h.1 k.1

module _ {S : Type 0} (A : Automaton S) where
  -- every state of the list gives a tree
  abbrev pub all_trees : ℕ → ℕ → List ℕ → List S → Bool
  all_trees i n w [] = true
  all_trees i n w (s ∷ ss) = is_some (tree_of A i n w s) && all_trees i n w ss

  abbrev in_kids : ℕ → ℕ → List ℕ → Option (List S) → Bool
  in_kids i n w none = false
  in_kids i n w (some ks) = all_trees i n w ks

  -- one step down
  nexts_trees : (i n c : ℕ) (w : List ℕ) (ss : List S) → all_trees i (suc n) (c ∷ w) ss ≡ in_kids (suc i) n w (nexts A i c ss)
  nexts_trees i n c w [] = refl
  nexts_trees i n c w (s ∷ ss) = go (choose c (A.moves i s)) (nexts A i c ss) (nexts_trees i n c w ss)
    where
      two : (x y : Option (Tree n)) (b : Bool) → is_some (node x y) && b ≡ is_some x && (is_some y && b)
      two none y b = refl
      two (some x) none b = refl
      two (some x) (some y) b = refl

      never : (x : Bool) → x && false ≡ false
      never true = refl
      never false = refl

      go : (o : Option (S × S)) (ks : Option (List S)) → all_trees i (suc n) (c ∷ w) ss ≡ in_kids (suc i) n w ks
          → is_some (and_then o (λ l r. node (tree_of A (suc i) n w l) (tree_of A (suc i) n w r))) && all_trees i (suc n) (c ∷ w) ss ≡ in_kids (suc i) n w (kids ks o)
      go none none e = refl
      go none (some ks) e = refl
      go (some p) none e = rw e (never (is_some (node (tree_of A (suc i) n w p.0) (tree_of A (suc i) n w p.1))))
      go (some p) (some ks) e = rw e (two (tree_of A (suc i) n w p.0) (tree_of A (suc i) n w p.1) (all_trees (suc i) n w ks))

  stops_trees : (i c : ℕ) (ss : List S) → all_trees i zero (c ∷ []) ss ≡ stops A c ss
  stops_trees i c [] = refl
  stops_trees i c (s ∷ ss) = go (choose c (A.ends s)) (stops_trees i c ss)
    where
      go : (o : Option Leaf) → all_trees i zero (c ∷ []) ss ≡ stops A c ss → is_some o && all_trees i zero (c ∷ []) ss ≡ elim o [ none ↦ false | some x ↦ stops A c ss ]
      go none e = refl
      go (some x) e = e

  -- ---- listed exactly if every state has a tree
  abbrev last : List S → ℕ → List (List ℕ)
  last ss c = cond (stops A c ss) ((c ∷ []) ∷ []) []

  abbrev further : ℕ → ℕ → List S → ℕ → List (List ℕ)
  further i n ss c = or_none (nexts A i c ss) (λ ks. map (λ w. c ∷ w) (words A (suc i) n ks))

  pub listed : (n i : ℕ) (w : List ℕ) (ss : List S) → Word n w → all_trees i n w ss ≡ true → Memᴰ w (words A i n ss)
  listed zero i [] ss h t = absurd h
  listed zero i (c ∷ []) ss h t = flat_mem (last ss) (up_to_mem 32 0 c (omega arith) (omega arith)) (rw (sym (stops_trees i c ss) ∙ t) (Memᴰ.head refl))
  listed zero i (c ∷ d ∷ w) ss h t = absurd h
  listed (suc n) i [] ss h t = absurd h
  listed (suc n) i (c ∷ w) ss h t =
      flat_mem (further i n ss) (up_to_mem 32 0 c (omega arith) (omega (arith, h.0))) (go (nexts A i c ss) (sym (nexts_trees i n c w ss) ∙ t) (λ ks k. listed n (suc i) w ks h.1 k))
    where
      go : (o : Option (List S)) → in_kids (suc i) n w o ≡ true → ((ks : List S) → all_trees (suc i) n w ks ≡ true → Memᴰ w (words A (suc i) n ks))
          → Memᴰ (c ∷ w) (or_none o (λ ks. map (λ w'. c ∷ w') (words A (suc i) n ks)))
      go none e ih = absurd (false≢true e)
      go (some ks) e ih = map_mem (λ w'. c ∷ w') (ih ks e)

  -- a word listed is a word, and every state has a tree with it
  pub told : (n i : ℕ) (w : List ℕ) (ss : List S) → Memᴰ w (words A i n ss) → Word n w × (all_trees i n w ss ≡ true)
  told zero i w ss h =
      let r : (c : ℕ) × Memᴰ c choices × Memᴰ w (last ss c) = flat_inv (last ss) choices h in
      go r.0 (up_to_inv 32 0 r.0 r.1).1 (stops A r.0 ss) refl r.2
    where
      go : (c : ℕ) → c < 32 → (b : Bool) → stops A c ss ≡ b → Memᴰ w (cond b ((c ∷ []) ∷ []) []) → Word zero w × (all_trees i zero w ss ≡ true)
      go c l true e m = subst (λ (v : List ℕ). Word zero v × (all_trees i zero v ss ≡ true)) (sym (Memᴰ.eq_of_singleton m)) (l, stops_trees i c ss ∙ e)
      go c l false e m = absurd (Memᴰ.not-nil m)
  told (suc n) i w ss h =
      let r : (c : ℕ) × Memᴰ c choices × Memᴰ w (further i n ss c) = flat_inv (further i n ss) choices h in
      go r.0 (up_to_inv 32 0 r.0 r.1).1 (nexts A i r.0 ss) refl r.2 (λ v ks k. told n (suc i) v ks k)
    where
      go : (c : ℕ) → c < 32 → (o : Option (List S)) → nexts A i c ss ≡ o → Memᴰ w (or_none o (λ ks. map (λ w'. c ∷ w') (words A (suc i) n ks)))
          → ((v : List ℕ) (ks : List S) → Memᴰ v (words A (suc i) n ks) → Word n v × (all_trees (suc i) n v ks ≡ true)) → Word (suc n) w × (all_trees i (suc n) w ss ≡ true)
      go c l none e m ih = absurd (Memᴰ.not-nil m)
      go c l (some ks) e m ih =
          let q : (v : List ℕ) × Memᴰ v (words A (suc i) n ks) × (w ≡ c ∷ v) = map_inv (λ w'. c ∷ w') (words A (suc i) n ks) m in
          let t = ih q.0 ks q.1 in
          subst (λ (u : List ℕ). Word (suc n) u × (all_trees i (suc n) u ss ≡ true)) (sym q.2)
          ((l, t.0), nexts_trees i n c q.0 ss ∙ ap (in_kids (suc i) n q.0) e ∙ t.1)

  -- ---- strictly in order
  abbrev Begins : ℕ → List ℕ → Type 0
  Begins c [] = ⊥
  Begins c (d ∷ w) = c ≡ d

  begins_earlier : (c d : ℕ) (w v : List ℕ) → c < d → Begins c w → Begins d v → Earlier w v
  begins_earlier c d [] v h k l = k
  begins_earlier c d (a ∷ w) [] h k l = l
  begins_earlier c d (a ∷ w) (b ∷ v) h k l = inl (omega arith)

  pub in_order : (n i : ℕ) (ss : List S) → Strictly Earlier (words A i n ss)
  in_order zero i ss = strict_flat Earlier Begins (last ss) (λ c. mine c (stops A c ss)) (λ c. once c (stops A c ss)) begins_earlier 32 0
    where
      mine : (c : ℕ) (b : Bool) → Each (Begins c) (cond b ((c ∷ []) ∷ []) [])
      mine c true = (refl, tt)
      mine c false = tt

      once : (c : ℕ) (b : Bool) → Strictly Earlier (cond b ((c ∷ []) ∷ []) [])
      once c true = (tt, tt)
      once c false = tt
  in_order (suc n) i ss = strict_flat Earlier Begins (further i n ss) (λ c. mine c (nexts A i c ss)) (λ c. once c (nexts A i c ss) (in_order n (suc i))) begins_earlier 32 0
    where
      mine : (c : ℕ) (o : Option (List S)) → Each (Begins c) (or_none o (λ ks. map (λ w. c ∷ w) (words A (suc i) n ks)))
      mine c none = tt
      mine c (some ks) = each_mapped (Begins c) (λ w. c ∷ w) (λ w. refl) (words A (suc i) n ks)

      once : (c : ℕ) (o : Option (List S)) → ((ks : List S) → Strictly Earlier (words A (suc i) n ks)) → Strictly Earlier (or_none o (λ ks. map (λ w. c ∷ w) (words A (suc i) n ks)))
      once c none ih = tt
      once c (some ks) ih = strict_map Earlier Earlier (λ w. c ∷ w) (λ w v h. inr (refl, h)) (words A (suc i) n ks) (ih ks)
