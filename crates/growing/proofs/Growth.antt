-- A level that is over its bounds stays so: a record more makes its records longer, and a mention never makes its keys shorter. Assumes nothing.
use mathlib.Core.Bool.{Bool, true, false, cond}
use mathlib.Core.Logic.{inl, inr}
use mathlib.Core.List.{List, [], ◌∷◌, ◌++◌}
use Prim.Native.Nat.{ℕ, suc, ◌≤◌}
use native.Mathlib.Omega.{arith}
use lib.Dec.{eqb}
use lib.ListN.{length, length-append}
use Rattle.automata.specs.Choice.{Alt, alt}
use Rattle.gates.specs.Numbering.{is_in, mention}
use Rattle.stepwise.specs.Grow.{Level, grow, grow_state, grow_all}
use Rattle.growing.specs.declared.Most.{Most}
use Rattle.growing.specs.Growing.{Over}

mention_longer : (ks : List ℕ) (k : ℕ) → length ks ≤ length (mention eqb ks k)
mention_longer ks k = go (is_in eqb k ks)
  where
    go : (b : Bool) → length ks ≤ length (cond b ks (ks ++ (k ∷ [])))
    go true = omega arith
    go false = omega (arith, length-append ks (k ∷ []))

module _ (most : Most) where
  pub over-grow : (s m l r : ℕ) (G : Level ℕ) → Over most G → Over most (grow eqb most.base s m l r G)
  unfolding grow
  over-grow s m l r G (inl h) = inl (simp length-append (omega arith))
  over-grow s m l r G (inr h) = inr (omega (arith, mention_longer G.keys l, mention_longer (mention eqb G.keys l) r))

  pub over_state : (s : ℕ) (us : List (Alt (ℕ × ℕ))) (G : Level ℕ) → Over most G → Over most (grow_state eqb most.base s us G)
  unfolding grow_state
  over_state s [] G h = h
  over_state s (alt m p ∷ us) G h = over_state s us (grow eqb most.base s m p.0 p.1 G) (over-grow s m p.0 p.1 G h)

  pub over-all : (f : ℕ → List (Alt (ℕ × ℕ))) (s : ℕ) (ks : List ℕ) (G : Level ℕ) → Over most G → Over most (grow_all eqb most.base f s ks G)
  unfolding grow_all
  over-all f s [] G h = h
  over-all f s (k ∷ ks) G h = over-all f (suc s) ks (grow_state eqb most.base s (f k) G) (over_state s (f k) G h)
