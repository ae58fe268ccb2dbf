-- Choice after choice and relation after relation, from a place on. Assumes nothing.
use mathlib.Core.Path.{◌≡◌, refl, sym, ap, ◌∙◌}
use mathlib.Core.Bool.{Bool, true, false, ◌&&◌, false≢true}
use mathlib.Core.List.{List}
use Prim.Native.Nat.{ℕ, ◌+◌, ◌*◌, ◌/◌, ◌%◌, ◌<◌, ◌≤◌}
use native.Mathlib.Decide.{dec_lt}
use native.Mathlib.Omega.{arith}
use lib.Dec.{ltb}
use lib.IntN.{ℤ}
use lib.ListN.{length, get_or}
use borrow.Author.Tests.{ltb-false}
use Rattle.automata.specs.Choice.{choices_most, has}
use Rattle.masks.specs.Next.{FirstFrom, NoneFrom}
use Rattle.lookup.specs.Alts.{table_automaton}
use Rattle.meeting.specs.declared.Level.{Level}
use Rattle.meeting.specs.All.{all_met}
use Rattle.meeting.proofs.MetLaws.{Same}
use Rattle.sharing.specs.Shared.{has_choice}
use Rattle.stepping.specs.Step.{Kept}
use Rattle.matching.specs.Seeking.{tried}
use Rattle.relating.specs.Found.{plane_of, found}
use Rattle.relating.proofs.Cells.{kept-marks}
use Rattle.batching.specs.Fill.{Grown, Filled}
use Rattle.batching.proofs.Grows.{low-marks, grown-from, Trying, tries, tries_on, filled_none, filled_on}
use Rattle.batching.specs.Batch.{Wise, Whole, Took, Batched}
use Rattle.batching.proofs.Wholes.{tried-marks, whole-none, whole_from, whole_skip, whole_on}

-- one of both tests of a loop fails
pub turned : (i to k most : ℕ) → ltb i to && ltb k most ≡ false → i < to → k < most → ⊥
turned i to k most e lt lt' = go (ltb i to) (ltb k most) refl refl e
  where
    go : (a b : Bool) → ltb i to ≡ a → ltb k most ≡ b → a && b ≡ false → ⊥
    go true true f g h = false≢true (sym h)
    go true false f g h = absurd (omega (arith, ltb-false k most g))
    go false b f g h = absurd (omega (arith, ltb-false i to f))

-- ---- choices of one relation
-- the choices from `from` up to below d were tried
pub record Taking (rows masks first end_rows end_masks end_first : List ℕ) (c wide plane : ℕ) (may entry : List ℕ) (q room : ℕ) (met : List ℕ) (l next : Level) (from : ℕ) (stack row : List ℕ) (d r : ℕ) : Type 0 where
  pub trying : Trying rows masks first end_rows end_masks end_first c wide plane entry q room met l next stack row r
  pub whole : Whole rows masks first end_rows end_masks end_first c wide plane may entry q met l next from d stack r
  pub most : d ≤ 32
  pub still : d ≡ from → r ≡ q
  pub least : from ≤ d

module _ {rows masks first end_rows end_masks end_first : List ℕ} {c wide plane : ℕ} {may entry : List ℕ} {q room : ℕ} {met : List ℕ} {l next : Level} {from : ℕ} where
  pub takes : from < 32 → q ≤ room → Taking rows masks first end_rows end_masks end_first c wide plane may entry q room met l next from entry met from q
  takes lt h = record { trying = tries h; whole = whole-none from; most = omega arith; still = λ e. refl; least = omega arith }

  pub takes_on : {stack row stack' row' : List ℕ} {d r r' : ℕ} → Taking rows masks first end_rows end_masks end_first c wide plane may entry q room met l next from stack row d r → d < 32 → r < room → l.stop ≤ wide * 32
      → length stack' ≡ length stack → length row' ≡ length row → Kept wide row l.to row' → Grown rows masks first end_rows end_masks end_first c wide plane stack r (r + 1) row l next stack' r'
      → Whole rows masks first end_rows end_masks end_first c wide plane may stack r row l next d (d + 1) stack' r'
      → Taking rows masks first end_rows end_masks end_first c wide plane may entry q room met l next from stack' row' (d + 1) r'
  takes_on {d = d} t small lt narrow e f k w a = record {
    trying = tries_on t.trying lt narrow e f k w;
    whole = whole_on t.whole (whole_from (kept-marks narrow t.trying.kept) a);
    most = omega arith;
    still = λ h. absurd (omega (arith, t.least));
    least = omega (arith, t.least);
  }

  -- on to the next choice that all end states have
  module _ {stack row : List ℕ} {d r shared : ℕ} (t : Taking rows masks first end_rows end_masks end_first c wide plane may entry q room met l next from stack row d r)
      (is : (b : ℕ) → b < choices_most → has shared b ≡ all_met (has_choice end_masks end_first b) wide met l) where
    pub takes_next : {till : ℕ} → FirstFrom shared d till → Taking rows masks first end_rows end_masks end_first c wide plane may entry q room met l next from stack row till r
    takes_next {till} n =
        let b = n.below in
        record {
          trying = t.trying;
          whole = whole_skip till (λ b lo hi. sym (is b (omega (arith, n.below))) ∙ n.skipped b lo hi) t.whole;
          most = omega arith;
          still = λ e. t.still (omega (arith, t.least, n.after));
          least = omega (arith, t.least, n.after);
        }

    pub takes_all : NoneFrom shared d → Taking rows masks first end_rows end_masks end_first c wide plane may entry q room met l next from stack row 32 r
    takes_all n = record {
      trying = t.trying;
      whole = whole_skip 32 (λ b lo hi. sym (is b hi) ∙ n.all b lo hi) t.whole;
      most = omega arith;
      still = λ e. t.still (omega (arith, t.least, t.most));
      least = omega (arith, t.least, t.most);
    }

  pub took : {stack row : List ℕ} {d r : ℕ} → Taking rows masks first end_rows end_masks end_first c wide plane may entry q room met l next from stack row d r → (d < 32 → r < room → ⊥)
      → Took rows masks first end_rows end_masks end_first c wide plane may entry q room met l next from d stack r
  took {d = d} {r = r} t stop = record { grown = t.trying.grown; whole = t.whole; most = t.most; moves = λ lt lt'. go lt lt' (dec_lt from d) }
    where
      go : from < 32 → q < room → Dec (from < d) → from < d
      go lt lt' (yes h) = h
      go lt lt' (no h) =
          let e : d ≡ from = omega (arith, t.least) in
          absurd (stop (omega arith) (omega (arith, t.still e)))

  -- the same of another row with the relation
  pub took_from : {met' stack' : List ℕ} {to r : ℕ} → Same wide met met' l → Took rows masks first end_rows end_masks end_first c wide plane may entry q room met' l next from to stack' r
      → Took rows masks first end_rows end_masks end_first c wide plane may entry q room met l next from to stack' r
  took_from s w = record { grown = grown-from s w.grown; whole = whole_from s w.whole; moves = w.moves; most = w.most }

-- ---- relation after relation
-- the places from `from` up to below `place` were tried
pub record Batching (rows masks first end_rows end_masks end_first : List ℕ) (c wide plane : ℕ) (may entry : List ℕ) (p room : ℕ) (l next : Level) (from : ℕ) (stack : List ℕ) (place q : ℕ) : Type 0 where
  pub filled : Filled rows masks first end_rows end_masks end_first c wide plane entry p room l next stack q
  pub still : place ≡ from → q ≡ 0
  pub least : from ≤ place
  pub each : (coefs end_coefs : List ℤ) (word : List ℕ) (at m : ℕ) → get_or word at 0 ≡ c
      → Wise (table_automaton rows masks coefs first) (table_automaton end_rows end_masks end_coefs end_first) word (at + 1) m wide may next
      → (k d : ℕ) → d < 32 → from ≤ k * 32 + d → k * 32 + d < place
      → tried (table_automaton rows masks coefs first) (table_automaton end_rows end_masks end_coefs end_first) word at m d wide (plane_of plane entry k) l ≡ true
      → found (table_automaton rows masks coefs first) (table_automaton end_rows end_masks end_coefs end_first) word (at + 1) m wide plane stack q next ≡ true

module _ {rows masks first end_rows end_masks end_first : List ℕ} {c wide plane : ℕ} {may entry : List ℕ} {p room : ℕ} {l next : Level} {from : ℕ} where
  pub batches : Batching rows masks first end_rows end_masks end_first c wide plane may entry p room l next from entry from 0
  batches = record { filled = filled_none; still = λ e. refl; least = omega arith; each = λ coefs end_coefs word at m e w k d small lo hi h. absurd (omega arith) }

  module _ {stack stack' : List ℕ} {place to q r : ℕ} (narrow : l.stop ≤ wide * 32) (long : l.to * wide ≤ plane)
      (t : Batching rows masks first end_rows end_masks end_first c wide plane may entry p room l next from stack place q)
      (w : Took rows masks first end_rows end_masks end_first c wide plane may stack q room (plane_of plane stack (place / 32)) l next (place % 32) to stack' r) where
    each_on : (coefs end_coefs : List ℤ) (word : List ℕ) (at m : ℕ) → get_or word at 0 ≡ c
        → Wise (table_automaton rows masks coefs first) (table_automaton end_rows end_masks end_coefs end_first) word (at + 1) m wide may next
        → (k d : ℕ) → d < 32 → from ≤ k * 32 + d → k * 32 + d < place / 32 * 32 + to
        → tried (table_automaton rows masks coefs first) (table_automaton end_rows end_masks end_coefs end_first) word at m d wide (plane_of plane entry k) l ≡ true → Dec (k * 32 + d < place)
        → found (table_automaton rows masks coefs first) (table_automaton end_rows end_masks end_coefs end_first) word (at + 1) m wide plane stack' r next ≡ true
    each_on coefs end_coefs word at m e v k d small lo hi h (yes lt) =
        w.whole.keeps (table_automaton rows masks coefs first) (table_automaton end_rows end_masks end_coefs end_first) word (at + 1) m (t.each coefs end_coefs word at m e v k d small lo lt h)
    each_on coefs end_coefs word at m e v k d small lo hi h (no ge) =
        let most = w.most in
        let same : k ≡ place / 32 = omega arith in
        w.whole.each coefs end_coefs word at m e v d (omega arith) (omega arith)
        (tried-marks (table_automaton rows masks coefs first) (table_automaton end_rows end_masks end_coefs end_first) word at m d l (low-marks (place / 32) narrow long t.filled.low)
        ∙ ap (λ (x : ℕ). tried (table_automaton rows masks coefs first) (table_automaton end_rows end_masks end_coefs end_first) word at m d wide (plane_of plane entry x) l) (sym same)
        ∙ h)

    pub batches_on : place < p * 32 → q < room → Batching rows masks first end_rows end_masks end_first c wide plane may entry p room l next from stack' (place / 32 * 32 + to) r
    batches_on lt lt' =
        let on = w.moves (omega arith) lt' in
        let le = t.least in
        record {
          filled = filled_on (place / 32) (omega arith) narrow long t.filled w.grown;
          still = λ e. absurd (omega arith);
          least = omega arith;
          each = λ coefs end_coefs word at m e v k d small lo hi h. each_on coefs end_coefs word at m e v k d small lo hi h (dec_lt (k * 32 + d) place);
        }

  pub batched : {stack : List ℕ} {place q : ℕ} → Batching rows masks first end_rows end_masks end_first c wide plane may entry p room l next from stack place q → (place < p * 32 → q < room → ⊥)
      → Batched rows masks first end_rows end_masks end_first c wide plane may entry p room l next from place stack q
  batched {place = place} {q = q} t stop = record { filled = t.filled; each = t.each; moves = λ lt some. go lt some (dec_lt from place) }
    where
      go : from < p * 32 → 0 < room → Dec (from < place) → from < place
      go lt some (yes h) = h
      go lt some (no h) =
          let e : place ≡ from = omega (arith, t.least) in
          absurd (stop (omega arith) (omega (arith, t.still e)))
