-- Laws of the tally for many members at once: a check that goes on has counted each of them, and members that all pass are counted in one step.
-- Assumes nothing.
use mathlib.Core.Path.{◌≡◌, refl, sym, ap, ◌∙◌}
use mathlib.Core.Bool.{Bool, true, false}
use mathlib.Core.List.{List, [], ◌∷◌}
use Prim.Native.Nat.{ℕ, suc, ◌+◌, ◌<◌, ◌≤◌}
use native.Mathlib.Decide.{dec_lt}
use native.Mathlib.Omega.{arith}
use lib.ListN.{length}
use Rattle.amplitude.proofs.Equal.{both}
use Rattle.automata.specs.Members.{Member, member}
use Rattle.walking.specs.declared.Tally.{Tally}
use Rattle.walking.specs.declared.Kind.{Kind}
use Rattle.walking.specs.declared.Kind.TheVariants.{Going, Failed, Undecided}
use Rattle.walking.specs.Tallied.{tick_of, tallied, Halted}
use Rattle.walking.proofs.TallyLaws.{tally_halted, tick_used, tick_passed, tick_missed}
use Rattle.blocks.specs.Good.{all_of}

-- so many members more have passed, or the allowance was used up before
abbrev pub gone_on : Tally → ℕ → Tally
gone_on t k = record { kind = Going; count = t.count + k; root = t.root; word = t.word }

-- the first, as the code says it: the kind is what it was
pub as_gone : (t : Tally) (k : ℕ) → t.kind ≡ Going → record t { count = t.count + k } ≡ gone_on t k
as_gone t k g = ap (λ (x : Kind). record { kind = x; count = t.count + k; root = t.root; word = t.word }) g

abbrev pub used_up : Tally → ℕ → Tally
used_up t k = record { kind = Undecided; count = k; root = t.root; word = t.word }

undecided_halts : (t : Tally) (k : ℕ) → Halted (used_up t k)
unfolding Halted
undecided_halts t k e = let z : ◌≡◌ {A = ℕ} 0 1 = cc in omega arith

failed_halts : (k r : ℕ) (w : List ℕ) → Halted (record { kind = Failed; count = k; root = r; word = w })
unfolding Halted
failed_halts k r w e = let z : ◌≡◌ {A = ℕ} 0 1 = cc in omega arith

module _ (passes : Member → Bool) (b : ℕ) where
  first_tick : (t u : Tally) (m : Member) (ms : List Member) → u ≡ tick_of passes b t m → tallied passes b t (m ∷ ms) ≡ tallied passes b u ms
  unfolding tallied
  first_tick t u m ms e = ap (λ (x : Tally). tallied passes b x ms) (sym e)

  -- ---- members that all pass
  pub skip_fits : (ms : List Member) (t : Tally) → t.kind ≡ Going → all_of passes ms ≡ true → (length ms ≡ 0 → ⊥) → t.count + length ms ≤ b → gone_on t (length ms) ≡ tallied passes b t ms
  unfolding tallied all_of
  skip_fits [] t k h some le = absurd (some refl)
  skip_fits (member r w ∷ ms) t k h some le =
      let p = both (passes (member r w)) (all_of passes ms) h in
      go ms p.1 (skip_fits ms (gone_on t 1) refl p.1) le
      ∙ sym (first_tick t (gone_on t 1) (member r w) ms (tick_passed passes b t r w k (omega arith) p.0))
    where
      go : (xs : List Member) → all_of passes xs ≡ true → ((length xs ≡ 0 → ⊥) → t.count + 1 + length xs ≤ b → gone_on (gone_on t 1) (length xs) ≡ tallied passes b (gone_on t 1) xs)
          → t.count + suc (length xs) ≤ b → gone_on t (suc (length xs)) ≡ tallied passes b (gone_on t 1) xs
      go [] e ih fits = refl
      go (x ∷ xs) e ih fits =
          let sum : t.count + suc (length (x ∷ xs)) ≡ t.count + 1 + length (x ∷ xs) = omega arith in
          ap (λ (i : ℕ). record { kind = Going; count = i; root = t.root; word = t.word }) sum
          ∙ ih (λ z. omega arith) (omega arith)

  pub skip_ends : (ms : List Member) (t : Tally) → t.kind ≡ Going → all_of passes ms ≡ true → t.count ≤ b → b < t.count + length ms → used_up t b ≡ tallied passes b t ms
  unfolding tallied all_of
  skip_ends [] t k h le lt = absurd (omega arith)
  skip_ends (member r w ∷ ms) t k h le lt =
      let p = both (passes (member r w)) (all_of passes ms) h in
      go p.0 (λ less. skip_ends ms (gone_on t 1) refl p.1 (omega arith) (omega arith)) (dec_lt t.count b)
    where
      go : passes (member r w) ≡ true → (t.count < b → used_up t b ≡ tallied passes b (gone_on t 1) ms) → Dec (t.count < b) → used_up t b ≡ tallied passes b t (member r w ∷ ms)
      go p ih (yes less) = ih less ∙ sym (first_tick t (gone_on t 1) (member r w) ms (tick_passed passes b t r w k less p))
      go p ih (no less) =
          let same : b ≡ t.count = omega arith in
          ap (used_up t) same
          ∙ sym (tally_halted passes b (used_up t t.count) ms (undecided_halts t t.count))
          ∙ sym (first_tick t (used_up t t.count) (member r w) ms (tick_used passes b t r w k (omega arith)))

  pub skip_over : (ms : List Member) (t : Tally) → t.kind ≡ Going → (length ms ≡ 0 → ⊥) → b ≤ t.count → used_up t t.count ≡ tallied passes b t ms
  skip_over [] t k some le = absurd (some refl)
  skip_over (member r w ∷ ms) t k some le =
      sym (tally_halted passes b (used_up t t.count) ms (undecided_halts t t.count))
      ∙ sym (first_tick t (used_up t t.count) (member r w) ms (tick_used passes b t r w k le))

  pub skip_none : (ms : List Member) (t : Tally) → length ms ≡ 0 → t ≡ tallied passes b t ms
  unfolding tallied
  skip_none [] t e = refl
  skip_none (m ∷ ms) t e = absurd (omega arith)

  -- ---- a check that goes on has counted each member
  pub all-counted : (ms : List Member) (t : Tally) → (tallied passes b t ms).kind ≡ Going → (tallied passes b t ms).count ≡ t.count + length ms
  unfolding tallied Halted
  all-counted [] t g = omega arith
  all-counted (member r w ∷ ms) t g = go t.kind refl (all-counted ms (gone_on t 1))
    where
      halted : (u : Tally) → tallied passes b t (member r w ∷ ms) ≡ tallied passes b u ms → Halted u → (tallied passes b t (member r w ∷ ms)).count ≡ t.count + suc (length ms)
      halted u e h = absurd (h (ap (λ (x : Tally). x.kind) (sym (e ∙ tally_halted passes b u ms h)) ∙ g))

      stays : Halted t → (tallied passes b t (member r w ∷ ms)).count ≡ t.count + suc (length ms)
      stays h = absurd (h (ap (λ (x : Tally). x.kind) (sym (tally_halted passes b t (member r w ∷ ms) h)) ∙ g))

      test : ((tallied passes b (gone_on t 1) ms).kind ≡ Going → (tallied passes b (gone_on t 1) ms).count ≡ t.count + 1 + length ms) → t.kind ≡ Going → (x : Bool) → passes (member r w) ≡ x → Dec (t.count < b) → (tallied passes b t (member r w ∷ ms)).count ≡ t.count + suc (length ms)
      test ih k x e (no less) =
          halted (used_up t t.count) (first_tick t (used_up t t.count) (member r w) ms (tick_used passes b t r w k (omega arith))) (undecided_halts t t.count)
      test ih k false e (yes less) =
          halted (record { kind = Failed; count = t.count + 1; root = r; word = w })
          (first_tick t (record { kind = Failed; count = t.count + 1; root = r; word = w }) (member r w) ms (tick_missed passes b t r w k less e)) (failed_halts (t.count + 1) r w)
      test ih k true e (yes less) =
          let f = first_tick t (gone_on t 1) (member r w) ms (tick_passed passes b t r w k less e) in
          omega (arith, ap (λ (u : Tally). u.count) f, ih (ap (λ (u : Tally). u.kind) (sym f) ∙ g))

      go : (k : Kind) → t.kind ≡ k → ((tallied passes b (gone_on t 1) ms).kind ≡ Going → (tallied passes b (gone_on t 1) ms).count ≡ t.count + 1 + length ms)
          → (tallied passes b t (member r w ∷ ms)).count ≡ t.count + suc (length ms)
      go Going e ih = test ih e (passes (member r w)) refl (dec_lt t.count b)
      go Failed e ih = stays (λ f. let z : ◌≡◌ {A = ℕ} 0 1 = cc in omega arith)
      go Undecided e ih = stays (λ f. let z : ◌≡◌ {A = ℕ} 0 1 = cc in omega arith)
