-- A scan passes exactly if every element does, and runs on from one list into the next. Assumes nothing.
use mathlib.Core.Path.{◌≡◌, refl, sym, ap, ◌∙◌}
use mathlib.Core.Bool.{Bool, true, false, cond}
use mathlib.Core.List.{List, [], ◌∷◌, ◌++◌}
use Prim.Native.Nat.{ℕ, suc, ◌+◌}
use native.Mathlib.Omega.{arith}
use lib.ListN.{length}
use lib.Dec.{eqb, eqb-zero-suc, eqb-suc-suc}
use borrow.Author.Tests.{eqb-true, eq-eqb}
use Rattle.automata.proofs.Lists.{Each, each_append}
use Rattle.stored.specs.Rules.{first_bad, passes}

module _ {X : Type 0} (test : X → Bool) where
  pub each-passes : (xs : List X) → Each (λ x. test x ≡ true) xs → passes test xs ≡ true
  each-passes xs h = eq-eqb (first_bad test xs) (length xs) (go xs h)
    where
      go : (ys : List X) → Each (λ y. test y ≡ true) ys → first_bad test ys ≡ length ys
      go [] k = refl
      go (y ∷ ys) k = rw k.0 (ap suc (go ys k.1))

  pub passes-each : (xs : List X) → passes test xs ≡ true → Each (λ x. test x ≡ true) xs
  passes-each xs h = go xs (eqb-true (first_bad test xs) (length xs) h)
    where
      step : (b : Bool) (n m : ℕ) → cond b (suc n) 0 ≡ suc m → (b ≡ true) × (n ≡ m)
      step true n m e = (refl, omega arith)
      step false n m e = absurd (omega arith)

      go : (ys : List X) → first_bad test ys ≡ length ys → Each (λ y. test y ≡ true) ys
      go [] e = tt
      go (y ∷ ys) e = let r = step (test y) (first_bad test ys) (length ys) e in (r.0, go ys r.1)

  -- a scan of two lists, one after the other
  pub bad_append : (xs ys : List X) → first_bad test (xs ++ ys) ≡ cond (passes test xs) (length xs + first_bad test ys) (first_bad test xs)
  bad_append [] ys = omega arith
  bad_append (x ∷ xs) ys = rw (bad_append xs ys) (go (test x) (first_bad test xs) (length xs))
    where
      on : (p : Bool) (n m : ℕ) → suc (cond p (m + first_bad test ys) n) ≡ cond p (suc m + first_bad test ys) (suc n)
      on true n m = omega arith
      on false n m = refl

      go : (b : Bool) (n m : ℕ)
          → cond b (suc (cond (eqb n m) (m + first_bad test ys) n)) 0 ≡ cond (eqb (cond b (suc n) 0) (suc m)) (suc m + first_bad test ys) (cond b (suc n) 0)
      go true n m = on (eqb n m) n m ∙ ap (λ (p : Bool). cond p (suc m + first_bad test ys) (suc n)) (sym (eqb-suc-suc n m))
      go false n m = ap (λ (p : Bool). cond p (suc m + first_bad test ys) 0) (sym (eqb-zero-suc m))

  pub passes_append : (xs ys : List X) → passes test xs ≡ true → passes test ys ≡ true → passes test (xs ++ ys) ≡ true
  passes_append xs ys h k = each-passes (xs ++ ys) (each_append (λ x. test x ≡ true) xs ys (passes-each xs h) (passes-each ys k))
