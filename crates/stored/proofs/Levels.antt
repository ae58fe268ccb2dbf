-- Where a state stands among the levels: it is on one exactly if its number is below their sum. Assumes nothing.
use mathlib.Core.Path.{◌≡◌, refl}
use mathlib.Core.Bool.{Bool, true, false, cond}
use mathlib.Core.List.{List, [], ◌∷◌}
use Prim.Native.Nat.{ℕ, suc, ◌+◌, ◌-◌, ◌<◌, ◌≤◌}
use native.Mathlib.Omega.{arith}
use lib.ListN.{length}
use lib.Dec.{ltb}
use borrow.Author.Tests.{ltb-true, ltb-false, lt-ltb, le-ltb}
use Rattle.automata.specs.Sets.{sum, level_in}

pub level-from : (i : ℕ) (cs : List ℕ) (s : ℕ) → i ≤ level_in i cs s
level-from i [] s = omega arith
level-from i (c ∷ cs) s = go (ltb s c) (level-from (suc i) cs (s - c))
  where
    go : (b : Bool) → suc i ≤ level_in (suc i) cs (s - c) → i ≤ cond b i (level_in (suc i) cs (s - c))
    go true h = omega arith
    go false h = omega arith

pub level-below : (i : ℕ) (cs : List ℕ) (s : ℕ) → level_in i cs s < i + length cs → s < sum cs
level-below i [] s h = absurd (omega arith)
level-below i (c ∷ cs) s h = go (ltb s c) refl h (level-below (suc i) cs (s - c))
  where
    go : (b : Bool) → ltb s c ≡ b → cond b i (level_in (suc i) cs (s - c)) < i + suc (length cs)
        → (level_in (suc i) cs (s - c) < suc i + length cs → s - c < sum cs) → s < c + sum cs
    go true e l ih = omega (arith, ltb-true s c e)
    go false e l ih = omega (arith, ih (omega arith), ltb-false s c e)

pub level-within : (i : ℕ) (cs : List ℕ) (s : ℕ) → s < sum cs → level_in i cs s < i + length cs
level-within i [] s h = absurd (omega arith)
level-within i (c ∷ cs) s h = go (ltb s c) refl (level-within (suc i) cs (s - c))
  where
    go : (b : Bool) → ltb s c ≡ b → (s - c < sum cs → level_in (suc i) cs (s - c) < suc i + length cs) → cond b i (level_in (suc i) cs (s - c)) < i + suc (length cs)
    go true e ih = omega arith
    go false e ih = omega (arith, ih (omega (arith, ltb-false s c e)))

-- a state of the first level listed, and one of a level below it
pub level-first : (i c : ℕ) (cs : List ℕ) (s : ℕ) → s < c → level_in i (c ∷ cs) s ≡ i
level-first i c cs s h = rw (lt-ltb s c h)

pub level-later : (i c : ℕ) (cs : List ℕ) (s : ℕ) → c ≤ s → level_in i (c ∷ cs) s ≡ level_in (suc i) cs (s - c)
level-later i c cs s h = rw (le-ltb s c h)
