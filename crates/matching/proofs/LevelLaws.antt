-- A state is on a level exactly if its number is from where that level begins up to below where the next one does. Assumes nothing.
use mathlib.Core.Path.{◌≡◌, refl, sym, ap, ap₂, ◌∙◌}
use mathlib.Core.Bool.{Bool, true, false, cond}
use mathlib.Core.List.{List, [], ◌∷◌}
use Prim.Native.Nat.{ℕ, zero, suc, ◌+◌, ◌-◌, ◌<◌, ◌≤◌}
use native.Mathlib.Omega.{arith}
use lib.Dec.{ltb}
use lib.ListN.{length, get_or, take}
use lib.Seq.{get_or-take}
use borrow.Author.Tests.{ltb-true, ltb-false}
use Rattle.automata.specs.Sets.{sum, level_in}
use Rattle.stored.proofs.Levels.{level-from, level-first, level-later}
use Rattle.matching.specs.Levels.{start_of, Among}

start_cons : (c : ℕ) (cs : List ℕ) (at : ℕ) → start_of (c ∷ cs) (suc at) ≡ c + start_of cs at
unfolding start_of
start_cons c cs zero = omega arith
start_cons c cs (suc at) = let e = start_cons c cs at in omega arith

pub start-zero : (cs : List ℕ) → start_of cs 0 ≡ 0
unfolding start_of
start-zero cs = refl

start_none : (at : ℕ) → start_of [] at ≡ 0
unfolding start_of
start_none zero = refl
start_none (suc at) = let e = start_none at in omega arith

pub start-next : (counts : List ℕ) (at : ℕ) → start_of counts (suc at) ≡ start_of counts at + get_or counts at 0
unfolding start_of
start-next counts at = refl

pub start-take : (k : ℕ) (counts : List ℕ) (at : ℕ) → at ≤ k → start_of (take k counts) at ≡ start_of counts at
unfolding start_of
start-take k counts zero h = refl
start-take k counts (suc at) h = ap₂ ◌+◌ (start-take k counts at (omega arith)) (get_or-take k counts at 0 h)

pub start-most : (cs : List ℕ) (at : ℕ) → start_of cs at ≤ sum cs
start-most [] at = omega (arith, start_none at)
start-most (c ∷ cs) zero = omega (arith, start-zero (c ∷ cs))
start-most (c ∷ cs) (suc at) = omega (arith, start_cons c cs at, start-most cs at)

pub level-at : (i : ℕ) (cs : List ℕ) (at s : ℕ) → at < length cs → start_of cs at ≤ s → s < start_of cs (suc at) → level_in i cs s ≡ i + at
level-at i [] at s h lo hi = absurd (omega arith)
level-at i (c ∷ cs) zero s h lo hi =
    let lt : s < c = omega (arith, start_cons c cs 0, start-zero cs) in
    let e : i ≡ i + 0 = omega arith in
    level-first i c cs s lt ∙ e
level-at i (c ∷ cs) (suc at) s h lo hi =
    let a = start_cons c cs at in
    let b = start_cons c cs (suc at) in
    let e : suc i + at ≡ i + suc at = omega arith in
    level-later i c cs s (omega arith) ∙ level-at (suc i) cs at (s - c) (omega arith) (omega arith) (omega arith) ∙ e

pub level_tells : (i : ℕ) (cs : List ℕ) (at s : ℕ) → at < length cs → level_in i cs s ≡ i + at → Among cs at s
level_tells i [] at s h e = absurd (omega arith)
level_tells i (c ∷ cs) at s h e = go (ltb s c) refl at h e (λ k l m. level_tells (suc i) cs k (s - c) l m)
  where
    go : (b : Bool) → ltb s c ≡ b → (k : ℕ) → k < suc (length cs) → cond b i (level_in (suc i) cs (s - c)) ≡ i + k
        → ((j : ℕ) → j < length cs → level_in (suc i) cs (s - c) ≡ suc i + j → Among cs j (s - c)) → Among (c ∷ cs) k s
    go true f zero l m ih = record { after = omega (arith, start-zero (c ∷ cs)); before = omega (arith, ltb-true s c f, start_cons c cs 0, start-zero cs) }
    go true f (suc k) l m ih = absurd (omega arith)
    go false f zero l m ih = absurd (omega (arith, level-from (suc i) cs (s - c)))
    go false f (suc k) l m ih =
        let r = ih k (omega arith) (omega arith) in
        let c' = ltb-false s c f in
        record { after = omega (arith, r.after, start_cons c cs k); before = omega (arith, r.before, start_cons c cs (suc k)) }

-- ---- from one level to the next
pub next-sum : (counts : List ℕ) (at to : ℕ) → to ≡ start_of counts (suc at) → to + get_or counts (at + 1) 0 ≡ start_of counts (suc (suc at))
next-sum counts at to e = let k : at + 1 ≡ suc at = omega arith in omega (arith, start-next counts (suc at), ap (λ (i : ℕ). get_or counts i 0) k)

pub next_start : (counts : List ℕ) (at to : ℕ) → to ≡ start_of counts (suc at) → to ≡ start_of counts (at + 1)
next_start counts at to e = let k : at + 1 ≡ suc at = omega arith in e ∙ ap (start_of counts) (sym k)

pub next-stop : (counts : List ℕ) (at to : ℕ) → to ≡ start_of counts (suc at) → to + get_or counts (at + 1) 0 ≡ start_of counts (suc (at + 1))
next-stop counts at to e = let k : at + 1 ≡ suc at = omega arith in next-sum counts at to e ∙ ap (λ (i : ℕ). start_of counts (suc i)) (sym k)
