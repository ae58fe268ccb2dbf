-- Laws of the tally: members one after the other, a check that has stopped, and a walk over numbers in turn. Assumes nothing.
use mathlib.Core.Path.{◌≡◌, refl, sym, ap, ◌∙◌}
use mathlib.Core.Bool.{Bool, true, false}
use mathlib.Core.List.{List, [], ◌∷◌, ◌++◌}
use Prim.Native.Nat.{ℕ, suc, ◌+◌, ◌-◌, ◌<◌, ◌≤◌}
use native.Mathlib.Numerals.{add-one}
use native.Mathlib.Omega.{arith}
use borrow.Author.Tests.{le-leb, lt-leb}
use Rattle.automata.specs.Members.{Member, member, flat, up_to}
use Rattle.walking.specs.declared.Tally.{Tally}
use Rattle.walking.specs.declared.Kind.{Kind}
use Rattle.walking.specs.declared.Kind.TheVariants.{Going, Failed, Undecided}
use Rattle.walking.specs.Tallied.{tick_by, tick_of, tallied, Halted}

tick_halted : (k : Kind) (passes : Member → Bool) (b : ℕ) (t : Tally) (m : Member) → (k ≡ Going → ⊥) → tick_by k passes b t m ≡ t
unfolding tick_by
tick_halted Going passes b t (member r w) h = absurd (h refl)
tick_halted Failed passes b t m h = refl
tick_halted Undecided passes b t m h = refl

pub tick_stays : (passes : Member → Bool) (b : ℕ) (t : Tally) (m : Member) → Halted t → t ≡ tick_of passes b t m
unfolding Halted
tick_stays passes b t m h = sym (tick_halted t.kind passes b t m h)

module _ (passes : Member → Bool) (b : ℕ) where
  pub tally_append : (t : Tally) (xs ys : List Member) → tallied passes b t (xs ++ ys) ≡ tallied passes b (tallied passes b t xs) ys
  unfolding tallied
  tally_append t [] ys = refl
  tally_append t (x ∷ xs) ys = tally_append (tick_of passes b t x) xs ys

  pub tally_halted : (t : Tally) (xs : List Member) → Halted t → tallied passes b t xs ≡ t
  unfolding tallied Halted
  tally_halted t [] h = refl
  tally_halted t (x ∷ xs) h = ap (λ (u : Tally). tallied passes b u xs) (tick_halted t.kind passes b t x h) ∙ tally_halted t xs h

  pub tally_none : (t : Tally) → t ≡ tallied passes b t []
  unfolding tallied
  tally_none t = refl

  pub tally_one : (t : Tally) (m : Member) → tick_of passes b t m ≡ tallied passes b t (m ∷ [])
  unfolding tallied
  tally_one t m = refl

  -- ---- numbers in turn, each with its members: those left come to all of them
  module _ (F : ℕ → List Member) (total : ℕ) where
    pub turn-begin : (t : Tally) → tallied passes b t (flat F (up_to 0 (total - 0))) ≡ tallied passes b t (flat F (up_to 0 total))
    turn-begin t = let e : total - 0 ≡ total = omega arith in ap (λ (k : ℕ). tallied passes b t (flat F (up_to 0 k))) e

    pub turn_on : (t : Tally) (c : ℕ) → c < total → tallied passes b (tallied passes b t (F c)) (flat F (up_to (c + 1) (total - (c + 1)))) ≡ tallied passes b t (flat F (up_to c (total - c)))
    turn_on t c lt =
        let e : suc (total - (c + 1)) ≡ total - c = omega arith in
        sym (tally_append t (F c) (flat F (up_to (c + 1) (total - (c + 1)))))
        ∙ ap (λ (k : ℕ). tallied passes b t (F c ++ flat F (up_to k (total - (c + 1))))) (add-one c)
        ∙ ap (λ (k : ℕ). tallied passes b t (flat F (up_to c k))) e

    pub turn_end : (t : Tally) (c : ℕ) → total ≤ c → t ≡ tallied passes b t (flat F (up_to c (total - c)))
    turn_end t c le = let e : 0 ≡ total - c = omega arith in tally_none t ∙ ap (λ (k : ℕ). tallied passes b t (flat F (up_to c k))) e

-- ---- one member more
module _ (passes : Member → Bool) (b : ℕ) (t : Tally) (r : ℕ) (w : List ℕ) (k : t.kind ≡ Going) where
  pub tick_used : b ≤ t.count → record { kind = Undecided; count = t.count; root = t.root; word = t.word } ≡ tick_of passes b t (member r w)
  unfolding tick_by
  tick_used h = simp (k, le-leb _ _ h)

  pub tick_passed : t.count < b → passes (member r w) ≡ true → record { kind = Going; count = t.count + 1; root = t.root; word = t.word } ≡ tick_of passes b t (member r w)
  unfolding tick_by
  tick_passed h g = simp (k, lt-leb _ _ h, g)

  -- the same, as the code says it: its kind is what it was
  pub tick_counted : t.count < b → passes (member r w) ≡ true → record t { count = t.count + 1 } ≡ tick_of passes b t (member r w)
  tick_counted h g = ap (λ (x : Kind). record { kind = x; count = t.count + 1; root = t.root; word = t.word }) k ∙ tick_passed h g

  pub tick_missed : t.count < b → passes (member r w) ≡ false → record { kind = Failed; count = t.count + 1; root = r; word = w } ≡ tick_of passes b t (member r w)
  unfolding tick_by
  tick_missed h g = simp (k, lt-leb _ _ h, g)
