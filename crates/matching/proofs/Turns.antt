-- The search's steps: one level down by a choice of the end set, the last level, and the marks that stay. Assumes nothing.
use mathlib.Core.Path.{◌≡◌, refl, sym, ap, ◌∙◌}
use mathlib.Core.Bool.{Bool, true, false, ◌&&◌, false≢true}
use mathlib.Core.List.{List, [], ◌∷◌}
use mathlib.Core.Option.{Option, none, some}
use Prim.Native.Nat.{ℕ, zero, suc, ◌+◌, ◌-◌, ◌*◌, ◌<◌, ◌≤◌}
use native.Mathlib.Decide.{dec_lt}
use native.Mathlib.Nat.{mul-le-mul_right}
use native.Mathlib.Omega.{arith}
use native.Mathlib.Numerals.{add-one}
use lib.IntN.{ℤ}
use lib.ListN.{length, get_or}
use Rattle.amplitude.specs.Leaf.{Leaf}
use Rattle.automata.specs.Choice.{choose}
use Rattle.automata.specs.Tree.{Tree, Automaton, tree_of, node, and_then}
use Rattle.automata.specs.Members.{choices}
use Rattle.verdict.specs.Search.{same_leaves, fits_one}
use Rattle.verdict.proofs.Searching.{same_trees, matches, no_tree, two_trees}
use Rattle.lookup.specs.Lookup.{pair_row, is_some}
use Rattle.lookup.specs.Alts.{alts_from, table_automaton}
use Rattle.meeting.specs.declared.Level.{Level}
use Rattle.meeting.specs.Met.{is_met}
use Rattle.meeting.specs.All.{all_met}
use Rattle.meeting.proofs.Places.{words-before}
use Rattle.meeting.proofs.MetLaws.{met_same, met_fails}
use Rattle.stepping.specs.Step.{kids, kids_in, Kept, Gone, Stage}
use Rattle.stepping.proofs.Answers.{has-taken}
use Rattle.sharing.specs.Shared.{has_choice}
use Rattle.fitting.specs.Fit.{leaves_in, LeafStage}
use Rattle.matching.specs.Levels.{start_of, IsLevel, NextFits}
use Rattle.matching.specs.Seeking.{word_from, any_word, twins, sought, tried, Sound, Hints, Seeking}
use Rattle.matching.proofs.LevelLaws.{start-next}
use Rattle.matching.proofs.Grounds.{starts-small, level-there, inner, leafy}
use Rattle.matching.proofs.Words.{one_ext, any_ext, any_none}

-- ---- one pair
module _ (S E : Automaton ℕ) where
  pairs_step : (i n c d : ℕ) (w v : List ℕ) (s e : ℕ)
      → matches S E i (suc n) (c ∷ w) (d ∷ v) (s, e) ≡ kids (λ l r. matches S E (suc i) n w v (l, r)) (choose c (S.moves i s)) (choose d (E.moves i e))
  pairs_step i n c d w v s e = go (choose c (S.moves i s)) (choose d (E.moves i e))
    where
      U : ℕ → ℕ → Option (Tree (suc n))
      U l r = node (tree_of S (suc i) n w l) (tree_of S (suc i) n w r)

      U' : ℕ → ℕ → Option (Tree (suc n))
      U' l r = node (tree_of E (suc i) n v l) (tree_of E (suc i) n v r)

      go : (o o' : Option (ℕ × ℕ)) → same_trees S E (suc n) (and_then o U) (and_then o' U') ≡ kids (λ l r. matches S E (suc i) n w v (l, r)) o o'
      go none o' = refl
      go (some p) none = no_tree S E (suc n) (U p.0 p.1)
      go (some p) (some q) = two_trees S E n (tree_of S (suc i) n w p.0) (tree_of S (suc i) n w p.1) (tree_of E (suc i) n v q.0) (tree_of E (suc i) n v q.1)

  module _ (word : List ℕ) where
    pub twins-step : (at m d : ℕ) (v : List ℕ) (s e : ℕ)
        → twins S E word at (suc m) (d ∷ v) s e ≡ kids (twins S E word (at + 1) m v) (choose (get_or word at 0) (S.moves (suc at) s)) (choose d (E.moves (suc at) e))
    unfolding word_from
    twins-step at m d v s e =
        pairs_step (suc at) m (get_or word at 0) d (word_from word (at + 1) m) v s e
        ∙ ap (λ (i : ℕ). kids (λ l r. matches S E (suc i) m (word_from word (at + 1) m) v (l, r)) (choose (get_or word at 0) (S.moves (suc at) s)) (choose d (E.moves (suc at) e))) (sym (add-one at))

    pub twins_last : (at d s e : ℕ) → twins S E word at 0 (d ∷ []) s e ≡ same_leaves (choose (get_or word at 0) (S.ends s)) (choose d (E.ends e))
    unfolding word_from
    twins_last at d s e = go (choose (get_or word at 0) (S.ends s)) (choose d (E.ends e))
      where
        go : (x y : Option Leaf) → same_trees S E zero x y ≡ same_leaves x y
        go none y = refl
        go (some x) none = refl
        go (some x) (some y) = refl

    -- ---- all choices of this level
    pub seek_some : (at m wide : ℕ) (met : List ℕ) (l : Level) → sought S E word at (suc m) wide met l ≡ fits_one (λ d. tried S E word at m d wide met l) choices
    unfolding any_word
    seek_some at m wide met l = refl

pub one_less : (m : ℕ) → (m ≡ 0 → ⊥) → suc (m - 1) ≡ m
one_less m h = omega arith

kids-there : (g : ℕ → ℕ → Bool) (o p : Option (ℕ × ℕ)) → kids g o p ≡ true → is_some p ≡ true
kids-there g none p e = absurd (false≢true e)
kids-there g (some x) none e = e
kids-there g (some x) (some y) e = refl

-- ---- on tables
module _ (rows masks : List ℕ) (coefs : List ℤ) (first end_rows end_masks : List ℕ) (end_coefs : List ℤ) (end_first word : List ℕ) where
  abbrev S : Automaton ℕ
  S = table_automaton rows masks coefs first

  abbrev E : Automaton ℕ
  E = table_automaton end_rows end_masks end_coefs end_first

  -- the last level
  seek_last : (at wide : ℕ) (met : List ℕ) (l : Level)
      → fits_one (λ d. all_met (leaves_in rows masks coefs first end_rows end_masks end_coefs end_first (get_or word at 0) d) wide met l) choices ≡ sought S E word at 0 wide met l
  unfolding any_word
  seek_last at wide met l =
      one_ext (λ d. all_met (leaves_in rows masks coefs first end_rows end_masks end_coefs end_first (get_or word at 0) d) wide met l) (λ d. all_met (twins S E word at 0 (d ∷ [])) wide met l) choices
      (λ d. met_same (leaves_in rows masks coefs first end_rows end_masks end_coefs end_first (get_or word at 0) d) (twins S E word at 0 (d ∷ [])) wide met met l (record { each = λ s e on. refl })
      (λ s e on. sym (twins_last S E word at d s e)))

  pub seek_zero : (at m wide : ℕ) (met : List ℕ) (l : Level) {r : Bool} → m ≡ 0
      → r ≡ fits_one (λ d. all_met (leaves_in rows masks coefs first end_rows end_masks end_coefs end_first (get_or word at 0) d) wide met l) choices → r ≡ sought S E word at m wide met l
  seek_zero at m wide met l z e = e ∙ seek_last at wide met l ∙ ap (λ (k : ℕ). sought S E word at k wide met l) (sym z)

  -- a choice that not all end states have
  pub no_attempt : (at m d wide : ℕ) (met : List ℕ) (l : Level) → all_met (has_choice end_masks end_first d) wide met l ≡ false → false ≡ tried S E word at m d wide met l
  unfolding alts_from
  no_attempt at m d wide met l e =
      sym (any_none (suc m) (λ v. all_met (twins S E word at (suc m) (d ∷ v)) wide met l)
      (λ v. met_fails (twins S E word at (suc m) (d ∷ v)) (has_choice end_masks end_first d) wide met l
      (λ s f on h. has-taken (pair_row end_rows) end_masks end_first f d ∙ kids-there (twins S E word (at + 1) m v) (choose (get_or word at 0) (S.moves (suc at) s)) (choose d (E.moves (suc at) f)) (sym (twins-step S E word at m d v s f) ∙ h)) e))

  -- a pair that could not match
  pub no_may : (at m wide : ℕ) (may met : List ℕ) (counts end_counts : List ℕ) (n : ℕ) {l : Level} → IsLevel counts end_counts at l → at + m ≡ n → Sound S E word counts end_counts wide may 0 n
      → all_met (is_met wide may) wide met l ≡ false → false ≡ sought S E word at m wide met l
  no_may at m wide may met counts end_counts n {l} is e t f =
      sym (any_none (suc m) (λ v. all_met (twins S E word at m v) wide met l)
      (λ v. met_fails (twins S E word at m v) (is_met wide may) wide met l
      (λ s q on h. t.each at m (omega arith) e s q (record { after = omega (arith, on.after, is.from); before = omega (arith, on.before, is.to) })
      (record { after = omega (arith, on.end_after, is.start); before = omega (arith, on.end_before, is.stop) }) v h) f))

  -- one level down by choice d
  module _ (at m d wide : ℕ) (met : List ℕ) (l : Level) {next : Level} {met' : List ℕ} {r : Bool}
      (g : Gone wide met next (λ h. all_met (kids_in rows masks first end_rows end_masks end_first (get_or word at 0) d h) wide met l) met' r) where
    by_word : (v : List ℕ) → all_met (twins S E word at (suc m) (d ∷ v)) wide met l ≡ r && all_met (twins S E word (at + 1) m v) wide met' next
    by_word v =
        met_same (twins S E word at (suc m) (d ∷ v)) (kids_in rows masks first end_rows end_masks end_first (get_or word at 0) d (twins S E word (at + 1) m v)) wide met met l (record { each = λ s e on. refl })
        (λ s e on. twins-step S E word at m d v s e)
        ∙ sym (g.is (twins S E word (at + 1) m v))

    pub attempt_fails : r ≡ false → false ≡ tried S E word at m d wide met l
    attempt_fails e =
        sym (any_none (suc m) (λ v. all_met (twins S E word at (suc m) (d ∷ v)) wide met l) (λ v. by_word v ∙ ap (λ (b : Bool). b && all_met (twins S E word (at + 1) m v) wide met' next) e))

    pub attempt_goes : r ≡ true → sought S E word (at + 1) m wide met' next ≡ tried S E word at m d wide met l
    attempt_goes e =
        any_ext (suc m) (λ v. all_met (twins S E word (at + 1) m v) wide met' next) (λ v. all_met (twins S E word at (suc m) (d ∷ v)) wide met l)
        (λ v. sym (by_word v ∙ ap (λ (b : Bool). b && all_met (twins S E word (at + 1) m v) wide met' next) e))

-- ---- what is asked
starts-rise : (cs : List ℕ) (a b : ℕ) → a ≤ b → start_of cs a ≤ start_of cs b
starts-rise cs a zero h = let e : a ≡ 0 = omega arith in omega (arith, ap (start_of cs) e)
starts-rise cs a (suc b) h = go (dec_lt a (suc b)) (starts-rise cs a b)
  where
    go : Dec (a < suc b) → (a ≤ b → start_of cs a ≤ start_of cs b) → start_of cs a ≤ start_of cs (suc b)
    go (yes e) ih = omega (arith, ih (omega arith), start-next cs b)
    go (no e) ih = let same : a ≡ suc b = omega arith in omega (arith, ap (start_of cs) same)

module _ {rows masks : List ℕ} {coefs : List ℤ} {counts first end_rows end_masks : List ℕ} {end_coefs : List ℤ} {end_counts end_first word : List ℕ} {wide size at : ℕ} {l : Level} where
  pub next_fits : (m : ℕ) → Seeking rows masks coefs counts first end_rows end_masks end_coefs end_counts end_first word wide size at (suc m) l → NextFits counts end_counts at
  next_fits m t = record {
    there = level-there t.lent.image (at + 1) (omega arith);
    end_there = level-there t.lent.ends (at + 1) (omega arith);
    small = starts-small t.lent.image (suc (suc at)) (omega arith);
    end_small = starts-small t.lent.ends (suc (suc at)) (omega arith);
  }

  pub small-level : (m : ℕ) → Seeking rows masks coefs counts first end_rows end_masks end_coefs end_counts end_first word wide size at m l → l.stop ≤ wide * 32
  small-level m t = omega (arith, t.here.stop, starts-rise end_counts (suc at) (suc (at + m)) (omega arith), t.lent.narrow)

  pub long-level : (m : ℕ) → Seeking rows masks coefs counts first end_rows end_masks end_coefs end_counts end_first word wide size at m l → l.to * wide ≤ size
  long-level m t =
      let le : l.to ≤ start_of counts (suc (at + m)) = omega (arith, t.here.to, starts-rise counts (suc at) (suc (at + m)) (omega arith)) in
      omega (arith, mul-le-mul_right wide le, t.lent.long)

  -- the level's choice of the word is there, and levels are few
  pub letter-there : (m : ℕ) → Seeking rows masks coefs counts first end_rows end_masks end_coefs end_counts end_first word wide size at m l → at < length word
  letter-there m t = omega (arith, t.lent.letters)

  pub letter-small : (m : ℕ) → Seeking rows masks coefs counts first end_rows end_masks end_coefs end_counts end_first word wide size at m l → get_or word at 0 < 32
  letter-small m t = t.lent.small at (omega arith)

  pub levels-few : (m : ℕ) → Seeking rows masks coefs counts first end_rows end_masks end_coefs end_counts end_first word wide size at m l → at + m ≤ 20
  levels-few m t = omega (arith, t.lent.image.qubits, t.lent.image.formed.n_few)

  pub leaf-stage : Seeking rows masks coefs counts first end_rows end_masks end_coefs end_counts end_first word wide size at 0 l → LeafStage rows masks coefs first end_rows end_masks end_coefs end_first wide size l
  leaf-stage t =
      let z : at + 0 ≡ at = omega arith in
      record {
        image = λ s lo hi. leafy t.lent.image s (rw z (record { after = omega (arith, t.here.from); before = omega (arith, t.here.to) }));
        ends = λ e lo hi. leafy t.lent.ends e (rw z (record { after = omega (arith, t.here.start); before = omega (arith, t.here.stop) }));
        there = λ s e lo hi lo' hi'. record { long = omega (arith, words-before wide s l.to hi, long-level 0 t); narrow = omega (arith, small-level 0 t) };
      }

-- the same in a row of marks as long, and of as many levels
pub again : {rows masks : List ℕ} {coefs : List ℤ} {counts first end_rows end_masks : List ℕ} {end_coefs : List ℤ} {end_counts end_first word : List ℕ} {wide size size' at m m' : ℕ} {l : Level}
    → size' ≡ size → m' ≡ m → Seeking rows masks coefs counts first end_rows end_masks end_coefs end_counts end_first word wide size at m l
    → Seeking rows masks coefs counts first end_rows end_masks end_coefs end_counts end_first word wide size' at m' l
again e f t = rw (e, f) t

pub kept_less : {wide : ℕ} {met met' : List ℕ} {from from' : ℕ} → from ≤ from' → Kept wide met from' met' → Kept wide met from met'
kept_less h k = record { each = λ s e lt small. k.each s e (omega arith) small }

module _ {rows masks : List ℕ} {coefs : List ℤ} {counts first end_rows end_masks : List ℕ} {end_coefs : List ℤ} {end_counts end_first word : List ℕ} {wide size at : ℕ} {l next : Level} (m : ℕ)
    (t : Seeking rows masks coefs counts first end_rows end_masks end_coefs end_counts end_first word wide size at (suc m) l) (is : IsLevel counts end_counts (at + 1) next) where
  pub seek_next : Seeking rows masks coefs counts first end_rows end_masks end_coefs end_counts end_first word wide size (at + 1) m next
  seek_next = let e : at + 1 + m ≡ at + suc m = omega arith in record { lent = rw e t.lent; here = is }

  one : at + 1 ≡ suc at
  one = omega arith

  from_is : next.from ≡ start_of counts (suc at)
  from_is = is.from ∙ ap (start_of counts) one

  to_is : next.to ≡ start_of counts (suc (suc at))
  to_is = is.to ∙ ap (λ (i : ℕ). start_of counts (suc i)) one

  start_is : next.start ≡ start_of end_counts (suc at)
  start_is = is.start ∙ ap (start_of end_counts) one

  stop_is : next.stop ≡ start_of end_counts (suc (suc at))
  stop_is = is.stop ∙ ap (λ (i : ℕ). start_of end_counts (suc i)) one

  pub below : l.to ≤ next.from
  below = omega (arith, t.here.to, from_is)

  pub below_all : l.to ≤ next.to
  below_all = omega (arith, below, from_is, to_is, start-next counts (suc at))

  pub stage : Stage rows masks first end_rows end_masks end_first wide size l next
  stage = record {
    below = below;
    levels = omega (arith, from_is, to_is, start-next counts (suc at));
    small = small-level (suc m) t;
    long = long-level m seek_next;
    narrow = small-level m seek_next;
    image = λ s lo hi. rw (from_is, to_is) (inner t.lent.image at s (omega arith) (record { after = omega (arith, t.here.from); before = omega (arith, t.here.to) }));
    ends = λ e lo hi. rw (start_is, stop_is) (inner t.lent.ends at e (omega arith) (record { after = omega (arith, t.here.start); before = omega (arith, t.here.stop) }));
  }

-- ---- the marks of pairs that could match
pub hints-again : {S E : Automaton ℕ} {word counts end_counts : List ℕ} {wide : ℕ} {may : List ℕ} {n n' : ℕ} → n' ≡ n → Hints S E word counts end_counts wide may n → Hints S E word counts end_counts wide may n'
hints-again e h = rw e h
