-- The end states that an image state meets, one after the other: the marks passed on the way are not set, and a test of what is met asks
-- nothing of them. Assumes nothing.
use mathlib.Core.Path.{◌≡◌, sym, ap, ap₂, ◌∙◌}
use mathlib.Core.Bool.{Bool, true, false, cond, ◌&&◌}
use mathlib.Core.List.{List}
use Prim.Native.Nat.{ℕ, ◌+◌, ◌-◌, ◌*◌, ◌/◌, ◌%◌, ◌<◌, ◌≤◌, max}
use native.Mathlib.Decide.{dec_lt}
use native.Mathlib.Omega.{arith}
use lib.ListN.{get_or}
use Rattle.automata.specs.Choice.{has}
use Rattle.flags.specs.Flags.{flag_at}
use Rattle.masks.specs.Next.{FirstFrom, NoneFrom}
use Rattle.meeting.specs.Met.{place, is_met, FirstMet, NoneMet}
use Rattle.meeting.specs.All.{all_in, if_met, met_by}
use Rattle.meeting.proofs.AllLaws.{same_test, all_none, all_more, all_tells, all-is, all_on, all-stops}

-- ---- word after word
module _ (wide : ℕ) (met : List ℕ) (s : ℕ) where
  -- end state e is a bit of its word
  in_word : (at b e : ℕ) → e ≡ at * 32 + b → b < 32 → is_met wide met s e ≡ has (get_or met (s * wide + at) 0) b
  unfolding is_met flag_at
  in_word at b e is small =
      let word : place wide s e / 32 ≡ s * wide + at = omega arith in
      let bit : place wide s e % 32 ≡ b = omega arith in
      ap₂ (λ (i c : ℕ). has (get_or met i 0) c) word bit

  -- the end states from `from` up to below e are passed
  pub record Passed (from e : ℕ) : Type 0 where
    pub after : from ≤ e
    pub skipped : (f : ℕ) → from ≤ f → f < e → is_met wide met s f ≡ false

  pub start : (from : ℕ) → Passed from from
  start from = record { after = omega arith; skipped = λ f lo hi. absurd (omega arith) }

  module _ {from e : ℕ} (w : Passed from e) where
    -- what is left of the word has no mark
    pub passed : NoneFrom (get_or met (s * wide + e / 32) 0) (e % 32) → {f : ℕ} → f ≡ (e / 32 + 1) * 32 → Passed from f
    passed next {f} at =
        let a = w.after in
        record { after = omega arith; skipped = λ i lo hi. go i lo hi (dec_lt i e) }
      where
        go : (i : ℕ) → from ≤ i → i < f → Dec (i < e) → is_met wide met s i ≡ false
        go i lo hi (yes l) = w.skipped i lo l
        go i lo hi (no l) =
            let d : i ≡ e / 32 * 32 + i % 32 = omega arith in
            in_word (e / 32) (i % 32) i d (omega arith) ∙ next.all (i % 32) (omega arith) (omega arith)

    module _ {b : ℕ} (next : FirstFrom (get_or met (s * wide + e / 32) 0) (e % 32) b) {f : ℕ} (at : f ≡ e / 32 * 32 + b) where
      passed_to : Passed from f
      passed_to =
          let a = w.after in
          let l = next.after in
          let m = next.below in
          record { after = omega arith; skipped = λ i lo hi. go i lo hi (dec_lt i e) }
        where
          go : (i : ℕ) → from ≤ i → i < f → Dec (i < e) → is_met wide met s i ≡ false
          go i lo hi (yes l) = w.skipped i lo l
          go i lo hi (no l) =
              let m = next.below in
              let d : i ≡ e / 32 * 32 + i % 32 = omega arith in
              in_word (e / 32) (i % 32) i d (omega arith) ∙ next.skipped (i % 32) (omega arith) (omega arith)

      pub found : (stop : ℕ) → f < stop → FirstMet wide met s from stop f
      found stop lt = record {
        after = passed_to.after;
        before = lt;
        skipped = passed_to.skipped;
        here = in_word (e / 32) b f at next.below ∙ next.here;
      }

      pub found_past : (stop : ℕ) → stop ≤ f → NoneMet wide met s from stop
      found_past stop k = record { all = λ i lo hi. passed_to.skipped i lo (omega arith) }

  pub none_left : {from e : ℕ} → Passed from e → (stop : ℕ) → stop ≤ e → NoneMet wide met s from stop
  none_left w stop k = record { all = λ f lo hi. w.skipped f lo (omega arith) }

-- ---- a loop over the end states that image state s meets, from `start` up to below `stop`
-- the same marks are met in the same order
module _ {wide : ℕ} {met met' : List ℕ} {s from stop : ℕ} (same : (f : ℕ) → from ≤ f → f < stop → is_met wide met' s f ≡ is_met wide met s f) where
  pub first-as : {e : ℕ} → FirstMet wide met' s from stop e → FirstMet wide met s from stop e
  first-as {e} n =
      let b = n.before in
      record {
        after = n.after;
        before = n.before;
        skipped = λ f lo hi. sym (same f lo (omega arith)) ∙ n.skipped f lo hi;
        here = sym (same e n.after n.before) ∙ n.here;
      }

  pub none_as : NoneMet wide met' s from stop → NoneMet wide met s from stop
  none_as n = record { all = λ f lo hi. sym (same f lo hi) ∙ n.all f lo hi }

module _ (g : ℕ → ℕ → Bool) (wide : ℕ) (met : List ℕ) (s : ℕ) where
  pub if_met_lem : (e : ℕ) → is_met wide met s e ≡ true → if_met g wide met s e ≡ g s e
  if_met_lem e h = ap (λ (b : Bool). cond b (g s e) true) h

  if_not : (e : ℕ) → is_met wide met s e ≡ false → if_met g wide met s e ≡ true
  if_not e h = ap (λ (b : Bool). cond b (g s e) true) h

  -- ---- what is met up to the next one, and up to the end
  module _ (start stop : ℕ) {from : ℕ} (after : start ≤ from) where
    pub met_up_to : {e : ℕ} → FirstMet wide met s from stop e → met_by g wide met s start (e - start) ≡ met_by g wide met s start (from - start)
    unfolding met_by
    met_up_to {e} n =
        let lo = n.after in
        same_test _ _
        (λ h. all-is (if_met g wide met s) start (from - start) (λ f a b. all_tells (if_met g wide met s) start (e - start) f h a (omega arith)))
        (λ h. all-is (if_met g wide met s) start (e - start) (λ f a b. go h f a (omega arith) (dec_lt f from)))
      where
        go : all_in (if_met g wide met s) start (from - start) ≡ true → (f : ℕ) → start ≤ f → f < e → Dec (f < from) → if_met g wide met s f ≡ true
        go h f a b (yes l) = all_tells (if_met g wide met s) start (from - start) f h a (omega arith)
        go h f a b (no l) = if_not f (n.skipped f (omega arith) b)

    pub met_on : {e : ℕ} → FirstMet wide met s from stop e → met_by g wide met s start (e + 1 - start) ≡ met_by g wide met s start (from - start) && g s e
    unfolding met_by
    met_on {e} n =
        let lo = n.after in
        all_more (if_met g wide met s) start e (omega arith) ∙ ap₂ ◌&&◌ (met_up_to n) (if_met_lem e n.here)

    pub met_end : from ≤ max start stop → NoneMet wide met s from stop → met_by g wide met s start (stop - start) ≡ met_by g wide met s start (from - start)
    unfolding met_by
    met_end most n =
        same_test _ _
        (λ h. all-is (if_met g wide met s) start (from - start) (λ f a b. all_tells (if_met g wide met s) start (stop - start) f h a (omega arith)))
        (λ h. all-is (if_met g wide met s) start (stop - start) (λ f a b. go h f a (omega arith) (dec_lt f from)))
      where
        go : all_in (if_met g wide met s) start (from - start) ≡ true → (f : ℕ) → start ≤ f → f < stop → Dec (f < from) → if_met g wide met s f ≡ true
        go h f a b (yes l) = all_tells (if_met g wide met s) start (from - start) f h a (omega arith)
        go h f a b (no l) = if_not f (n.all f (omega arith) b)

  module _ (start stop : ℕ) where
    -- the loop goes on from `from`, and all that image state s met before pass
    pub record Passing (from : ℕ) : Type 0 where
      pub after : start ≤ from
      pub pass : met_by g wide met s start (from - start) ≡ true

    pub pass_first : Passing start
    unfolding met_by
    pass_first = record { after = omega arith; pass = all_none (if_met g wide met s) start (start - start) (omega arith) }

    module _ {from : ℕ} (p : Passing from) where
      -- all before the next one pass
      before_next : (e : ℕ) → ((f : ℕ) → from ≤ f → f < e → is_met wide met s f ≡ false) → (f : ℕ) → start ≤ f → f < e → if_met g wide met s f ≡ true
      unfolding met_by
      before_next e skipped f lo hi = go (dec_lt f from)
        where
          go : Dec (f < from) → if_met g wide met s f ≡ true
          go (yes l) = all_tells (if_met g wide met s) start (from - start) f p.pass lo (omega arith)
          go (no l) = if_not f (skipped f (omega arith) hi)

      module _ {e : ℕ} (n : FirstMet wide met s from stop e) where
        pub pass_next : g s e ≡ true → Passing (e + 1)
        unfolding met_by
        pass_next k =
            let a = p.after in
            let b = n.after in
            record {
              after = omega arith;
              pass = all_on (if_met g wide met s) start e (omega arith)
                  (all-is (if_met g wide met s) start (e - start) (λ f lo hi. before_next e n.skipped f lo (omega arith)))
                  (if_met_lem e n.here ∙ k);
            }

        pub pass_stops : g s e ≡ false → false ≡ met_by g wide met s start (stop - start)
        unfolding met_by
        pass_stops k =
            let a = p.after in
            let b = n.after in
            all-stops (if_met g wide met s) start e stop (omega arith) n.before (if_met_lem e n.here ∙ k)

      pub pass_all : NoneMet wide met s from stop → true ≡ met_by g wide met s start (stop - start)
      unfolding met_by
      pass_all n =
          sym (all-is (if_met g wide met s) start (stop - start) (λ f lo hi. before_next stop n.all f lo (omega arith)))
