-- In a well-formed set no state falls from record to record: rule 10 orders the records of each kind, and by rules 8 and 9 the TR records are of
-- levels above the leaves, so of smaller numbers. Assumes nothing.
use mathlib.Core.Path.{◌≡◌, refl, ◌∙◌}
use mathlib.Core.Bool.{Bool, true, false, cond}
use mathlib.Core.Logic.{inl, inr}
use mathlib.Core.List.{List, [], ◌∷◌, ◌++◌, map}
use Prim.Native.Nat.{ℕ, zero, suc, ◌+◌, ◌-◌, ◌<◌, ◌≤◌}
use native.Mathlib.Decide.{dec_lt}
use native.Mathlib.Omega.{arith}
use lib.Dec.{ltb}
use lib.ListN.{length, get_or, length-append, length-map}
use borrow.Author.Tests.{ltb-false, le-ltb}
use Rattle.amplitude.proofs.Equal.{both}
use Rattle.automata.specs.Sets.{Rec, rec, TR, LF, QSet, level_in}
use Rattle.automata.proofs.Lists.{Each, Strictly, each_map, each_append, strict_map}
use Rattle.stored.specs.Rules.{Bounds, ordered, order_ok}
use Rattle.stored.proofs.Levels.{level-from}
use Rattle.stored.proofs.OrderLaws.{Follows, ordered_strictly}
use Rattle.stored.proofs.WellFormed.{WellFormed, FineTR, FineLF, trs_fine, lfs_fine}
use Rattle.tables.specs.States.{state_in, states_of, state_at, Rising}

-- ---- a greater number is on no earlier level
pub level-rises : (i : ℕ) (cs : List ℕ) (s q : ℕ) → s ≤ q → level_in i cs s ≤ level_in i cs q
level-rises i [] s q h = omega arith
level-rises i (c ∷ cs) s q h = go (ltb s c) refl (level-rises (suc i) cs (s - c) (q - c) (omega arith))
  where
    go : (b : Bool) → ltb s c ≡ b → level_in (suc i) cs (s - c) ≤ level_in (suc i) cs (q - c) → cond b i (level_in (suc i) cs (s - c)) ≤ level_in i (c ∷ cs) q
    go true e r = level-from i (c ∷ cs) q
    go false e r = let l = ltb-false s c e in rw (le-ltb q c (omega arith)) r

-- ---- lists that do not fall
abbrev Climbs : List ℕ → Type 0
Climbs xs = Strictly (λ (x y : ℕ). x ≤ y) xs

each_at : (P : ℕ → Type 0) (xs : List ℕ) (i : ℕ) → Each P xs → i < length xs → P (get_or xs i 0)
each_at P [] i h lt = absurd (omega arith)
each_at P (x ∷ xs) zero h lt = h.0
each_at P (x ∷ xs) (suc i) h lt = each_at P xs i h.1 (omega arith)

climbs_at : (xs : List ℕ) → Climbs xs → (i j : ℕ) → i ≤ j → j < length xs → get_or xs i 0 ≤ get_or xs j 0
climbs_at [] h i j le lt = absurd (omega arith)
climbs_at (x ∷ xs) h zero zero le lt = omega arith
climbs_at (x ∷ xs) h zero (suc j) le lt = each_at (λ y. x ≤ y) xs j h.0 (omega arith)
climbs_at (x ∷ xs) h (suc i) zero le lt = absurd (omega arith)
climbs_at (x ∷ xs) h (suc i) (suc j) le lt = climbs_at xs h.1 i j (omega arith) (omega arith)

climbs_append : (xs ys : List ℕ) → Climbs xs → Climbs ys → Each (λ x. Each (λ y. x ≤ y) ys) xs → Climbs (xs ++ ys)
climbs_append [] ys h k l = k
climbs_append (x ∷ xs) ys h k l = (each_append (λ y. x ≤ y) xs ys h.0 l.0, climbs_append xs ys h.1 k l.1)

module _ {X : Type 0} where
  each-states : (P : ℕ → Type 0) (ts : List (Rec X)) → Each (λ t. P (state_in t)) ts → Each P (map state_in ts)
  each-states P [] h = tt
  each-states P (t ∷ ts) h = (h.0, each-states P ts h.1)

  follows_le : (p t : Rec X) → Follows p t → state_in p ≤ state_in t
  follows_le (rec s m x) (rec q m' y) (inl l) = omega arith
  follows_le (rec s m x) (rec q m' y) (inr l) = omega (arith, l.state)

  ordered_climbs : (ts : List (Rec X)) → ordered ts ≡ true → Climbs (map state_in ts)
  ordered_climbs ts h = strict_map Follows (λ (x y : ℕ). x ≤ y) state_in follows_le ts (ordered_strictly ts h)

-- ---- a well-formed set
module _ (b : Bounds) (Q : QSet) (w : WellFormed b Q) where
  inner-before : (t : TR) (l : LF) → FineTR Q t → FineLF Q l → state_in t < state_in l
  inner-before (rec s m p) (rec q m' x) f g = go (dec_lt s q)
    where
      go : Dec (s < q) → s < q
      go (yes h) = h
      go (no h) = absurd (omega (arith, level-rises 1 Q.counts q s (omega arith), f.state, g.state))

  climb : Climbs (states_of Q)
  unfolding order_ok
  climb =
      let o = both (ordered Q.inner) _ w.order in
      climbs_append (map state_in Q.inner) (map state_in Q.leaves) (ordered_climbs Q.inner o.0) (ordered_climbs Q.leaves o.1)
      (each-states (λ x. Each (λ y. x ≤ y) (map state_in Q.leaves)) Q.inner
      (each_map (FineTR Q) (λ t. Each (λ y. state_in t ≤ y) (map state_in Q.leaves))
      (λ t f. each-states (λ y. state_in t ≤ y) Q.leaves (each_map (FineLF Q) (λ l. state_in t ≤ state_in l) (λ l g. let lt = inner-before t l f g in omega arith) Q.leaves (lfs_fine b Q w)))
      Q.inner (trs_fine b Q w)))

  pub formed-rises : Rising (state_at Q) (length Q.inner + length Q.leaves)
  formed-rises =
      let e : length (states_of Q) ≡ length Q.inner + length Q.leaves =
      length-append (map state_in Q.inner) (map state_in Q.leaves) ∙ (let x = length-map Q.inner state_in in let y = length-map Q.leaves state_in in omega arith) in
      record { rises = λ i j le lt. climbs_at (states_of Q) climb i j le (omega arith) }
