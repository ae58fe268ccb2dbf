-- A test that every element passes: of one element, and of two lists put together. Assumes nothing.
use mathlib.Core.Path.{◌≡◌, refl, sym, ap, ◌∙◌}
use mathlib.Core.Bool.{Bool, true, false, ◌&&◌, and-true, and_assoc}
use mathlib.Core.List.{List, [], ◌∷◌, ◌++◌}
use Prim.Native.Nat.compare
use Prim.Native.Nat.{suc}
use native.Mathlib.Omega.{arith}
use lib.ListN.{length}
use borrow.Author.Tests.{ne_eqb}
use Rattle.stored.specs.Rules.{passes}

module _ {X : Type 0} (test : X → Bool) where
  passes_cons : (x : X) (xs : List X) → passes test (x ∷ xs) ≡ test x && passes test xs
  passes_cons x xs = go (test x) refl
    where
      go : (b : Bool) → test x ≡ b → passes test (x ∷ xs) ≡ b && passes test xs
      go true e = rw (e, compare.suc-suc) refl
      go false e = rw e (ne_eqb 0 (suc (length xs)) (λ z. omega arith))

  pub passes-one : (x : X) → passes test (x ∷ []) ≡ test x
  passes-one x = passes_cons x [] ∙ and-true (test x)

  pub passes_append : (xs ys : List X) → passes test (xs ++ ys) ≡ passes test xs && passes test ys
  passes_append [] ys = refl
  passes_append (x ∷ xs) ys = passes_cons x (xs ++ ys) ∙ ap (λ (b : Bool). test x && b) (passes_append xs ys) ∙ sym (and_assoc (test x) (passes test xs) (passes test ys)) ∙ ap (λ (b : Bool). b && passes test ys) (sym (passes_cons x xs))
