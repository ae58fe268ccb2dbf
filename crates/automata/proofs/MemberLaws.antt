-- Members are exactly the roots and words with a tree, each once, strictly in order; so two sets with trees at the same places have the same
-- members. Assumes nothing.
use mathlib.Core.Path.{◌≡◌, refl, sym, ◌∙◌, subst}
use mathlib.Core.Bool.{Bool, true, false, ◌&&◌}
use mathlib.Core.Logic.{◌⊎◌, inl, inr}
use mathlib.Core.List.{List, [], ◌∷◌, map, Memᴰ}
use Prim.Native.Nat.{ℕ, ◌<◌}
use native.Mathlib.Omega.{arith}
use Rattle.automata.specs.Sets.{QSet, automaton_of, roots, tree}
use Rattle.automata.specs.Members.{Member, member, runs, words, up_to}
use Rattle.automata.proofs.Lists.{flat_mem, flat_inv, map_mem, map_inv, up_to_mem, up_to_inv, Strictly, strict_flat, strict_map, strict_same, each_mapped}
use Rattle.automata.proofs.Words.{is_some, Word, Earlier, earlier_asym, listed, told, in_order}

-- "Members are ordered by root, then by word"
abbrev pub Before : Member → Member → Type 0
Before (member r w) (member s v) = (r < s) ⊎ ((r ≡ s) × Earlier w v)

before_asym : (x y : Member) → Before x y → Before y x → ⊥
before_asym (member r w) (member s v) (inl h) (inl k) = omega arith
before_asym (member r w) (member s v) (inl h) (inr k) = omega (arith, k.0)
before_asym (member r w) (member s v) (inr h) (inl k) = omega (arith, h.0)
before_asym (member r w) (member s v) (inr h) (inr k) = earlier_asym w v h.1 k.1

-- "A root and a word give a tree .. Such a root and word is a member."
pub record IsMember (Q : QSet) (r : ℕ) (w : List ℕ) : Type 0 where
  pub root : r < roots Q
  pub word : Word Q.n w
  pub has_tree : is_some (tree Q r w) ≡ true

abbrev IsRun : QSet → Member → Type 0
IsRun Q (member r w) = IsMember Q r w

and-true : (b : Bool) → b && true ≡ b
and-true true = refl
and-true false = refl

module _ (Q : QSet) where
  abbrev of_root : ℕ → List Member
  of_root r = map (member r) (words (automaton_of Q) 1 Q.n (r ∷ []))

  -- each root and word with a tree is listed
  pub is-listed : (r : ℕ) (w : List ℕ) → IsMember Q r w → Memᴰ (member r w) (runs Q)
  is-listed r w h =
      flat_mem of_root (up_to_mem (roots Q) 0 r (omega arith) (omega (arith, h.root)))
      (map_mem (member r) (listed (automaton_of Q) Q.n 1 w (r ∷ []) h.word (and-true (is_some (tree Q r w)) ∙ h.has_tree)))

  -- and nothing else is
  listed-is : (m : Member) → Memᴰ m (runs Q) → IsRun Q m
  listed-is m h =
      let p : (r : ℕ) × Memᴰ r (up_to 0 (roots Q)) × Memᴰ m (of_root r) = flat_inv of_root (up_to 0 (roots Q)) h in
      let q : (w : List ℕ) × Memᴰ w (words (automaton_of Q) 1 Q.n (p.0 ∷ [])) × (m ≡ member p.0 w) = map_inv (member p.0) _ p.2 in
      let t = told (automaton_of Q) Q.n 1 q.0 (p.0 ∷ []) q.1 in
      let u = up_to_inv (roots Q) 0 p.0 p.1 in
      subst (IsRun Q) (sym q.2) (record { root = omega (arith, u.1); word = t.0; has_tree = sym (and-true (is_some (tree Q p.0 q.0))) ∙ t.1 })

  pub is_member_lem : (r : ℕ) (w : List ℕ) → Memᴰ (member r w) (runs Q) → IsMember Q r w
  is_member_lem r w h = listed-is (member r w) h

  abbrev Rooted : ℕ → Member → Type 0
  Rooted r (member s w) = r ≡ s

  rooted-before : (r s : ℕ) (x y : Member) → r < s → Rooted r x → Rooted s y → Before x y
  rooted-before r s (member a w) (member b v) h k l = inl (omega arith)

  pub runs_in_order : Strictly Before (runs Q)
  runs_in_order =
      strict_flat Before Rooted of_root (λ r. each_mapped (Rooted r) (member r) (λ w. refl) (words (automaton_of Q) 1 Q.n (r ∷ [])))
      (λ r. strict_map Earlier Before (member r) (λ w v h. inr (refl, h)) (words (automaton_of Q) 1 Q.n (r ∷ [])) (in_order (automaton_of Q) Q.n 1 (r ∷ [])))
      rooted-before (roots Q) 0

-- trees at the same places: the same members, in the same order
module _ (Q P : QSet) (n : Q.n ≡ P.n) (r : roots Q ≡ roots P) (t : (s : ℕ) (w : List ℕ) → s < roots Q → is_some (tree Q s w) ≡ is_some (tree P s w)) where
  there : (m : Member) → IsRun Q m → IsRun P m
  there (member s w) h = record { root = omega (arith, h.root); word = subst (λ (k : ℕ). Word k w) n h.word; has_tree = sym (t s w h.root) ∙ h.has_tree }

  back : (m : Member) → IsRun P m → IsRun Q m
  back (member s w) h = record { root = omega (arith, h.root); word = subst (λ (k : ℕ). Word k w) (sym n) h.word; has_tree = t s w (omega (arith, h.root)) ∙ h.has_tree }

  relisted : (R : QSet) (m : Member) → IsRun R m → Memᴰ m (runs R)
  relisted R (member s w) h = is-listed R s w h

  pub same_runs : runs Q ≡ runs P
  same_runs =
      strict_same Before before_asym (runs Q) (runs P) (runs_in_order Q) (runs_in_order P)
      (λ m h. relisted P m (there m (listed-is Q m h))) (λ m h. relisted Q m (back m (listed-is P m h)))
