-- Lists put together, and tests taken apart. Assumes nothing.
use mathlib.Core.Path.{◌≡◌, refl, sym, ap, ◌∙◌}
use mathlib.Core.Bool.{Bool, true, false, ◌&&◌, false≢true}
use mathlib.Core.List.{List, [], ◌∷◌, ◌++◌}
use Prim.Native.Nat.{ℕ, suc}
use lib.ListN.{length}
use lib.Dec.{eqb}
use borrow.Author.Tests.{eqb-true, eq-eqb}
use Rattle.qasm.specs.Lexed.{same_bytes}

pub app : {X : Type 0} (xs ys zs : List X) → (xs ++ ys) ++ zs ≡ xs ++ (ys ++ zs)
app [] ys zs = refl
app (x ∷ xs) ys zs = ap (λ l. x ∷ l) (app xs ys zs)

pub append-nil : {X : Type 0} (xs : List X) → xs ++ [] ≡ xs
append-nil [] = refl
append-nil (x ∷ xs) = ap (λ l. x ∷ l) (append-nil xs)

-- one step further in the list
pub on : {X : Type 0} (xs ys zs : List X) → xs ++ (ys ++ zs) ≡ (xs ++ ys) ++ zs
on xs ys zs = sym (app xs ys zs)

pub on3 : {X : Type 0} (ws xs ys zs : List X) → ws ++ (xs ++ (ys ++ zs)) ≡ (ws ++ (xs ++ ys)) ++ zs
on3 ws xs ys zs = ap (λ l. ws ++ l) (on xs ys zs) ∙ on ws (xs ++ ys) zs

-- one more, and what follows
pub one_more : {X : Type 0} (w a : List X) (t : X) (rest : List X) → ((w ++ a) ++ (t ∷ [])) ++ rest ≡ w ++ (a ++ (t ∷ rest))
one_more w a t rest = app (w ++ a) (t ∷ []) rest ∙ app w a (t ∷ rest)

pub length_more : {X : Type 0} (l : List X) (t : X) → length (l ++ (t ∷ [])) ≡ suc (length l)
length_more [] t = refl
length_more (x ∷ l) t = ap (λ n. suc n) (length_more l t)

pub same_bytes_lem : (q r : List ℕ) → same_bytes q r ≡ true → q ≡ r
unfolding same_bytes
same_bytes_lem [] [] e = refl
same_bytes_lem [] (b ∷ s) e = absurd (false≢true e)
same_bytes_lem (a ∷ r) [] e = absurd (false≢true e)
same_bytes_lem (a ∷ r) (b ∷ s) e = go (eqb a b) refl e (same_bytes_lem r s)
  where
    go : (x : Bool) → eqb a b ≡ x → x && same_bytes r s ≡ true → (same_bytes r s ≡ true → r ≡ s) → a ∷ r ≡ b ∷ s
    go true ab t ih = ap (λ c. c ∷ r) (eqb-true a b ab) ∙ ap (λ l. b ∷ l) (ih t)
    go false ab t ih = absurd (false≢true t)

pub bytes_same : (q : List ℕ) → same_bytes q q ≡ true
unfolding same_bytes
bytes_same [] = refl
bytes_same (a ∷ r) = ap (λ b. b && same_bytes r r) (eq-eqb a a refl) ∙ bytes_same r

-- both tests pass
pub passed : (a b : Bool) → a && b ≡ true → (a ≡ true) × (b ≡ true)
passed true b e = (refl, e)
passed false b e = absurd (false≢true e)

pub pass : (a b : Bool) → a ≡ true → b ≡ true → a && b ≡ true
pass true b e f = f
pass false b e f = absurd (false≢true e)
