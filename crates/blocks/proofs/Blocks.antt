-- A clean block: each word that goes on from it is found from it. Choice after choice, and one level down; what is remembered of it, and that on
-- the walk's way its members pass. Assumes nothing.
use mathlib.Core.Path.{◌≡◌, refl, sym, ap, ap₂, ◌∙◌}
use mathlib.Core.Bool.{Bool, true, false, ◌&&◌, false≢true}
use mathlib.Core.List.{List, [], ◌∷◌}
use Prim.Native.Nat.{ℕ, zero, suc, ◌+◌, ◌-◌, ◌*◌, ◌<◌, ◌≤◌}
use native.Mathlib.Decide.{dec_lt}
use native.Mathlib.Numerals.{add-one}
use native.Mathlib.Omega.{arith}
use lib.Dec.{eqb}
use lib.IntN.{ℤ}
use lib.ListN.{length, get_or, set, replicate, length-replicate}
use lib.Seq.{get_or-set_other}
use borrow.Author.Tests.{eqb-true, eq-eqb}
use Rattle.amplitude.proofs.Equal.{both}
use Rattle.automata.specs.Choice.{choices_most}
use Rattle.jobs.specs.Reply.{word_places}
use Rattle.lookup.specs.Lookup.{transition_row, is_some}
use Rattle.lookup.specs.Alts.{table_automaton}
use Rattle.meeting.specs.declared.Level.{Level}
use Rattle.matching.specs.Levels.{IsLevel}
use Rattle.matching.specs.Seeking.{word_from}
use Rattle.reaching.specs.Reached.{all_reached, kids_in, has_choice, Kept, Gone}
use Rattle.relating.specs.Found.{found}
use Rattle.batching.specs.Fill.{Low, Filled}
use Rattle.remembering.specs.Memory.{Same}
use Rattle.walking.specs.Walk.{filled, trees_by, visit_of, passes_in}
use Rattle.walking.proofs.Branches.{same-members, trees_down, last_trees}
use Rattle.walking.proofs.Rooms.{zeros_small}
use Rattle.walking.proofs.Skips.{trees_lack}
use Rattle.blocks.specs.Good.{all_of, found_in, good, Clean, OnPath}
use Rattle.blocks.proofs.Words.{spelt_from, members-is, members_tell, members-long, fill-long, fill-low, fill-small, fill_read}
use Rattle.blocks.proofs.Founds.{found-words, found-low, found_block, trees_kept, trees_block}
use Rattle.blocks.proofs.Levels.{level-is}

module _ {rows masks : List ℕ} {coefs : List ℤ} {first end_rows end_masks : List ℕ} {end_coefs : List ℤ} {end_first : List ℕ} {wide plane at m p : ℕ} {l : Level} where
  -- ---- choice after choice
  pub clean_none : {row stack : List ℕ} → Clean rows masks coefs first end_rows end_masks end_coefs end_first wide plane at m p l row stack 0 0
  clean_none = record { each = λ w small lo hi h. absurd (omega arith) }

  pub clean_turn : {row stack : List ℕ} {c : ℕ} → Clean rows masks coefs first end_rows end_masks end_coefs end_first wide plane at m p l row stack 0 c → Clean rows masks coefs first end_rows end_masks end_coefs end_first wide plane at m p l row stack c (c + 1) → Clean rows masks coefs first end_rows end_masks end_coefs end_first wide plane at m p l row stack 0 (c + 1)
  clean_turn {row} {stack} {c} a b = record { each = λ w small lo hi h. go w small hi h (dec_lt (get_or w at 0) c) }
    where
      go : (w : List ℕ) → ((i : ℕ) → get_or w i 0 < choices_most) → get_or w at 0 < c + 1 → trees_by rows masks coefs first at m row l.from l.to (word_from w at m) ≡ true
          → Dec (get_or w at 0 < c) → found (table_automaton rows masks coefs first) (table_automaton end_rows end_masks end_coefs end_first) w at m wide plane stack p l ≡ true
      go w small hi h (yes lt) = a.each w small (omega arith) lt h
      go w small hi h (no lt) = b.each w small (omega arith) hi h

  pub clean_all : {row stack : List ℕ} {c : ℕ} → choices_most ≤ c → Clean rows masks coefs first end_rows end_masks end_coefs end_first wide plane at m p l row stack 0 c → Clean rows masks coefs first end_rows end_masks end_coefs end_first wide plane at m p l row stack 0 choices_most
  clean_all le a = record { each = λ w small lo hi h. a.each w small lo (omega arith) h }

  module _ (narrow : l.stop ≤ wide * 32) (long : l.to * wide ≤ plane) where
    -- the same of the row and the stack before
    pub clean_kept : {row row' stack stack' : List ℕ} {lo hi : ℕ} → Kept row l.to row' → Low wide plane l stack stack' → Clean rows masks coefs first end_rows end_masks end_coefs end_first wide plane at m p l row' stack' lo hi → Clean rows masks coefs first end_rows end_masks end_coefs end_first wide plane at m p l row stack lo hi
    clean_kept k w a = record {
      each = λ u small lo hi h. sym (found-low (table_automaton rows masks coefs first) (table_automaton end_rows end_masks end_coefs end_first) at m wide plane p l narrow long u w) ∙ a.each u small lo hi (trees_kept rows masks coefs first at m l.from l.to (word_from u at m) k ∙ h);
    }

    -- the same of those after, and of a block that is the same
    pub clean_same : {row row' row'' stack stack' stack'' : List ℕ} {lo hi : ℕ} → Kept row l.to row' → Low wide plane l stack stack' → Same wide plane l.from l.to p row' stack' row'' stack''
        → Clean rows masks coefs first end_rows end_masks end_coefs end_first wide plane at m p l row stack lo hi → Clean rows masks coefs first end_rows end_masks end_coefs end_first wide plane at m p l row'' stack'' lo hi
    clean_same k w s a = record {
      each = λ u small lo hi h.
          found_block (table_automaton rows masks coefs first) (table_automaton end_rows end_masks end_coefs end_first) at m wide plane p l narrow long u s
          ∙ found-low (table_automaton rows masks coefs first) (table_automaton end_rows end_masks end_coefs end_first) at m wide plane p l narrow long u w
          ∙ a.each u small lo hi (sym (trees_block rows masks coefs first at m l.from l.to (word_from u at m) s ∙ trees_kept rows masks coefs first at m l.from l.to (word_from u at m) k) ∙ h);
    }

-- ---- one level down
word_down : (rows masks : List ℕ) (coefs : List ℤ) (first : List ℕ) (from to till c : ℕ) (row row' : List ℕ) (r : Bool) → Gone row to till (λ g. all_reached (kids_in rows masks first c g) row from to) row' r
    → (w : List ℕ) (at m : ℕ) → get_or w at 0 ≡ c → trees_by rows masks coefs first at (suc m) row from to (word_from w at (suc m)) ≡ true
    → r && trees_by rows masks coefs first (suc at) m row' to till (word_from w (at + 1) m) ≡ true
unfolding word_from
word_down rows masks coefs first from to till c row row' r gone w at m e h =
    sym (trees_down rows masks coefs first from c gone at m (word_from w (at + 1) m))
    ∙ ap (λ (d : ℕ). trees_by rows masks coefs first at (suc m) row from to (d ∷ word_from w (at + 1) m)) (sym e)
    ∙ h

module _ {rows masks : List ℕ} {coefs : List ℤ} {first end_rows end_masks : List ℕ} {end_coefs : List ℤ} {end_first : List ℕ} {wide plane p : ℕ} {l : Level} {row row' stack : List ℕ} {till c : ℕ} {r : Bool}
    (gone : Gone row l.to till (λ g. all_reached (kids_in rows masks first c g) row l.from l.to) row' r) where
  pub clean_dead : (at m : ℕ) → (m ≡ 0 → ⊥) → r ≡ false → Clean rows masks coefs first end_rows end_masks end_coefs end_first wide plane at m p l row stack c (c + 1)
  clean_dead at zero some f = absurd (some refl)
  clean_dead at (suc m) some f = record {
    each = λ w small lo hi h.
        let e : get_or w at 0 ≡ c = omega arith in
        absurd (false≢true (ap (λ (x : Bool). x && trees_by rows masks coefs first (suc at) m row' l.to till (word_from w (at + 1) m)) (sym f)
        ∙ word_down rows masks coefs first l.from l.to till c row row' r gone w at m e h));
  }

  pub clean_down : (at m : ℕ) {room q : ℕ} {next : Level} {stack' : List ℕ} → (m ≡ 0 → ⊥) → r ≡ true → next.from ≡ l.to → next.to ≡ till
      → Filled rows masks first end_rows end_masks end_first c wide plane stack p room l next stack' q
      → Clean rows masks coefs first end_rows end_masks end_coefs end_first wide plane (at + 1) (m - 1) q next row' stack' 0 choices_most
      → Clean rows masks coefs first end_rows end_masks end_coefs end_first wide plane at m p l row stack c (c + 1)
  clean_down at zero some f from to t below = absurd (some refl)
  clean_down at (suc m) {q = q} {next = next} {stack' = stack'} some f from to t below = record {
    each = λ w small lo hi h.
        let e : get_or w at 0 ≡ c = omega arith in
        t.sound coefs end_coefs w at m e (below'.each w small (omega arith) (small (at + 1))
        (ap₂ (λ (i j : ℕ). trees_by rows masks coefs first i m row' j next.to (word_from w (at + 1) m)) (add-one at) from
        ∙ ap (λ (j : ℕ). trees_by rows masks coefs first (suc at) m row' l.to j (word_from w (at + 1) m)) to
        ∙ ap (λ (x : Bool). x && trees_by rows masks coefs first (suc at) m row' l.to till (word_from w (at + 1) m)) (sym f)
        ∙ word_down rows masks coefs first l.from l.to till c row row' r gone w at m e h));
  }
    where
      below' : Clean rows masks coefs first end_rows end_masks end_coefs end_first wide plane (at + 1) m q next row' stack' 0 choices_most
      below' = let less : suc m - 1 ≡ m = omega arith in rw less at below

-- ---- choices that a state reached lacks
word_lacks : (rows masks : List ℕ) (coefs : List ℤ) (first row : List ℕ) (from to : ℕ) (w : List ℕ) (at m : ℕ) → all_reached (has_choice masks first (get_or w at 0)) row from to ≡ false → trees_by rows masks coefs first at m row from to (word_from w at m) ≡ false
unfolding word_from
word_lacks rows masks coefs first row from to w at zero e = trees_lack rows masks coefs first row from to at 0 (get_or w at 0) [] e
word_lacks rows masks coefs first row from to w at (suc m) e = trees_lack rows masks coefs first row from to at (suc m) (get_or w at 0) (word_from w (at + 1) m) e

module _ {rows masks : List ℕ} {coefs : List ℤ} {first end_rows end_masks : List ℕ} {end_coefs : List ℤ} {end_first : List ℕ} {wide plane at m p : ℕ} {l : Level} {row stack : List ℕ} {lo hi : ℕ} where
  pub clean_skip : ((d : ℕ) → lo ≤ d → d < hi → all_reached (has_choice masks first d) row l.from l.to ≡ false)
      → Clean rows masks coefs first end_rows end_masks end_coefs end_first wide plane at m p l row stack 0 lo → Clean rows masks coefs first end_rows end_masks end_coefs end_first wide plane at m p l row stack 0 hi
  clean_skip lacks a = record { each = λ w small low high h. go w small high h (dec_lt (get_or w at 0) lo) }
    where
      go : (w : List ℕ) → ((i : ℕ) → get_or w i 0 < choices_most) → get_or w at 0 < hi → trees_by rows masks coefs first at m row l.from l.to (word_from w at m) ≡ true
          → Dec (get_or w at 0 < lo) → found (table_automaton rows masks coefs first) (table_automaton end_rows end_masks end_coefs end_first) w at m wide plane stack p l ≡ true
      go w small high h (yes lt) = a.each w small (omega arith) lt h
      go w small high h (no lt) = absurd (false≢true (sym (word_lacks rows masks coefs first row l.from l.to w at m (lacks (get_or w at 0) (omega arith) high)) ∙ h))

-- ---- the last level
module _ {rows masks : List ℕ} {coefs : List ℤ} {first end_rows end_masks : List ℕ} {end_coefs : List ℤ} {end_first : List ℕ} {wide plane at m p : ℕ} {l : Level} {row stack : List ℕ} {c : ℕ} where
  pub clean_ends : m ≡ 0 → {e : Bool} → e ≡ all_reached (λ (q : ℕ). is_some (transition_row masks first q c)) row l.from l.to → e ≡ false
      → Clean rows masks coefs first end_rows end_masks end_coefs end_first wide plane at m p l row stack c (c + 1)
  unfolding word_from
  clean_ends z is f = rw z (record {
    each = λ w small lo hi h.
        let e : get_or w at 0 ≡ c = omega arith in
        absurd (false≢true (sym f ∙ is ∙ last_trees rows masks coefs first at c row l.from l.to
        ∙ ap (λ (d : ℕ). trees_by rows masks coefs first at 0 row l.from l.to (d ∷ [])) (sym e) ∙ h));
  })

  pub clean_leads : m ≡ 0
      → ((w : List ℕ) (i : ℕ) → get_or w i 0 ≡ c → found (table_automaton rows masks coefs first) (table_automaton end_rows end_masks end_coefs end_first) w i 0 wide plane stack p l ≡ true)
      → Clean rows masks coefs first end_rows end_masks end_coefs end_first wide plane at m p l row stack c (c + 1)
  clean_leads z f = rw z (record { each = λ w small lo hi h. f w at (omega arith) })

-- ---- what is remembered
module _ (rows masks : List ℕ) (coefs : List ℤ) (counts first end_rows end_masks : List ℕ) (end_coefs : List ℤ) (end_counts end_first : List ℕ) (wide plane n at m p : ℕ) (l : Level)
    (levels : at + m ≡ n) (few : n ≤ 20) (here : IsLevel counts end_counts at l) where
  good_with : (row stack : List ℕ) (k : ℕ) → good rows masks coefs counts first end_rows end_masks end_coefs end_counts end_first wide plane n at p row stack k
      ≡ all_of (found_in (table_automaton rows masks coefs first) (table_automaton end_rows end_masks end_coefs end_first) at m wide plane stack p l) (visit_of rows masks coefs first 0 (replicate word_places 0) at m row l.from l.to) && eqb (length (visit_of rows masks coefs first 0 (replicate word_places 0) at m row l.from l.to)) k
  unfolding good
  good_with row stack k =
      let less : n - at ≡ m = omega arith in
      ap₂ (λ (i : ℕ) (y : Level). all_of (found_in (table_automaton rows masks coefs first) (table_automaton end_rows end_masks end_coefs end_first) at i wide plane stack p y) (visit_of rows masks coefs first 0 (replicate word_places 0) at i row y.from y.to) && eqb (length (visit_of rows masks coefs first 0 (replicate word_places 0) at i row y.from y.to)) k)
      less (sym (level-is here))

  zeros_long : at + m < length {A = ℕ} (replicate word_places 0)
  zeros_long = omega (arith, length-replicate {A = ℕ} word_places 0)

  pub good_tells : (row stack : List ℕ) (k : ℕ) → good rows masks coefs counts first end_rows end_masks end_coefs end_counts end_first wide plane n at p row stack k ≡ true
      → Clean rows masks coefs first end_rows end_masks end_coefs end_first wide plane at m p l row stack 0 choices_most
      × ((root : ℕ) (word : List ℕ) → length (visit_of rows masks coefs first root word at m row l.from l.to) ≡ k)
  good_tells row stack k h =
      let b = both (all_of (found_in (table_automaton rows masks coefs first) (table_automaton end_rows end_masks end_coefs end_first) at m wide plane stack p l) (visit_of rows masks coefs first 0 (replicate word_places 0) at m row l.from l.to)) _ (sym (good_with row stack k) ∙ h) in (
        record {
          each = λ w small lo hi t.
              let s = spelt_from w small m at in
              found-words (table_automaton rows masks coefs first) (table_automaton end_rows end_masks end_coefs end_first) at m wide plane p l w (filled (replicate word_places 0) at (word_from w at m)) stack (sym (fill_read m (word_from w at m) (replicate word_places 0) at s.long zeros_long))
              ∙ members_tell (found_in (table_automaton rows masks coefs first) (table_automaton end_rows end_masks end_coefs end_first) at m wide plane stack p l) 0 (replicate word_places 0) at (suc m) (trees_by rows masks coefs first at m row l.from l.to) b.0 (word_from w at m) s t;
        },
        λ root word. members-long (suc m) root word at 0 (replicate word_places 0) at (trees_by rows masks coefs first at m row l.from l.to) ∙ eqb-true _ k b.1,
      )

  good-from : (row stack : List ℕ) (k : ℕ) → Clean rows masks coefs first end_rows end_masks end_coefs end_first wide plane at m p l row stack 0 choices_most
      → length (visit_of rows masks coefs first 0 (replicate word_places 0) at m row l.from l.to) ≡ k → good rows masks coefs counts first end_rows end_masks end_coefs end_counts end_first wide plane n at p row stack k ≡ true
  good-from row stack k a e =
      good_with row stack k
      ∙ ap₂ ◌&&◌ (members-is (found_in (table_automaton rows masks coefs first) (table_automaton end_rows end_masks end_coefs end_first) at m wide plane stack p l) 0 (replicate word_places 0) at (suc m) (trees_by rows masks coefs first at m row l.from l.to) (λ v s t.
      let small = fill-small v (replicate word_places 0) at (suc m) s (omega (arith, zeros_long)) (zeros_small word_places) in
      a.each (filled (replicate word_places 0) at v) small (omega arith) (small at) (ap (trees_by rows masks coefs first at m row l.from l.to) (fill_read m v (replicate word_places 0) at s.long zeros_long) ∙ t)))
      (eq-eqb _ k e)

  -- a clean block, with so many members, is remembered rightly
  pub good-is : l.stop ≤ wide * 32 → l.to * wide ≤ plane → {row row' row'' stack stack' stack'' : List ℕ} (k root : ℕ) (word : List ℕ)
      → Clean rows masks coefs first end_rows end_masks end_coefs end_first wide plane at m p l row stack 0 choices_most
      → length (visit_of rows masks coefs first root word at m row l.from l.to) ≡ k
      → Kept row l.to row' → Low wide plane l stack stack' → Same wide plane l.from l.to p row' stack' row'' stack''
      → good rows masks coefs counts first end_rows end_masks end_coefs end_counts end_first wide plane n at p row'' stack'' k ≡ true
  good-is narrow long {row} {row'} {row''} {stack'' = stack''} k root word a e kept low same =
      good-from row'' stack'' k (clean_same narrow long kept low same a)
      (ap length (same-members 0 (replicate word_places 0) at (suc m) (trees_by rows masks coefs first at m row'' l.from l.to) (trees_by rows masks coefs first at m row l.from l.to) (λ v. trees_block rows masks coefs first at m l.from l.to v same ∙ trees_kept rows masks coefs first at m l.from l.to v kept))
      ∙ members-long (suc m) 0 (replicate word_places 0) at root word at (trees_by rows masks coefs first at m row l.from l.to)
      ∙ e)

-- ---- on the walk's way
module _ {rows masks : List ℕ} {coefs : List ℤ} {first end_rows end_masks : List ℕ} {end_coefs : List ℤ} {end_counts end_first : List ℕ} {wide plane n at m p : ℕ} {l : Level} {root : ℕ} {word stack : List ℕ}
    (path : OnPath rows masks coefs first end_rows end_masks end_coefs end_counts end_first wide plane n at m p l root word stack) where
  pub block_passes : at + m ≡ n → n ≤ 20 → length word ≡ word_places → ((i : ℕ) → get_or word i 0 < choices_most) → {row : List ℕ}
      → Clean rows masks coefs first end_rows end_masks end_coefs end_first wide plane at m p l row stack 0 choices_most
      → all_of (passes_in rows masks coefs first end_rows end_masks end_coefs end_counts end_first n) (visit_of rows masks coefs first root word at m row l.from l.to) ≡ true
  block_passes levels few long small {row} a =
      members-is (passes_in rows masks coefs first end_rows end_masks end_coefs end_counts end_first n) root word at (suc m) (trees_by rows masks coefs first at m row l.from l.to) (λ v s t.
      let little = fill-small v word at (suc m) s (omega arith) small in
      path.each (filled word at v) (record { letters = omega (arith, fill-long v word at); small = λ i le. little i }) (λ i lt. fill-low v word at i lt)
      (a.each (filled word at v) little (omega arith) (little at) (ap (trees_by rows masks coefs first at m row l.from l.to) (fill_read m v word at s.long (omega arith)) ∙ t)))

  pub path-kept : l.stop ≤ wide * 32 → l.to * wide ≤ plane → {stack' : List ℕ} → Low wide plane l stack stack'
      → OnPath rows masks coefs first end_rows end_masks end_coefs end_counts end_first wide plane n at m p l root word stack'
  path-kept narrow long low = record {
    each = λ w whole same f.
        path.each w whole same (sym (found-low (table_automaton rows masks coefs first) (table_automaton end_rows end_masks end_coefs end_first) at m wide plane p l narrow long w low) ∙ f);
  }

pub path-down : {rows masks : List ℕ} {coefs : List ℤ} {first end_rows end_masks : List ℕ} {end_coefs : List ℤ} {end_counts end_first : List ℕ} {wide plane n at p : ℕ} {l : Level} {root : ℕ} {word stack : List ℕ} (m : ℕ) → (m ≡ 0 → ⊥)
    → OnPath rows masks coefs first end_rows end_masks end_coefs end_counts end_first wide plane n at m p l root word stack
    → {c room q : ℕ} {next : Level} {stack' : List ℕ} → get_or word at 0 ≡ c → Filled rows masks first end_rows end_masks end_first c wide plane stack p room l next stack' q
    → OnPath rows masks coefs first end_rows end_masks end_coefs end_counts end_first wide plane n (at + 1) (m - 1) q next root word stack'
path-down zero some path letter t = absurd (some refl)
path-down {coefs = coefs} {end_coefs = end_coefs} {at = at} (suc m) some path letter t =
    let less : suc m - 1 ≡ m = omega arith in
    rw less (record {
      each = λ w whole same f. path.each w whole (λ i lt. same i (omega arith)) (t.sound coefs end_coefs w at m (same at (omega arith) ∙ letter) f);
    })

-- another choice on the level
pub path-set : {rows masks : List ℕ} {coefs : List ℤ} {first end_rows end_masks : List ℕ} {end_coefs : List ℤ} {end_counts end_first : List ℕ} {wide plane n at m p : ℕ} {l : Level} {root : ℕ} {word stack : List ℕ} (c : ℕ)
    → OnPath rows masks coefs first end_rows end_masks end_coefs end_counts end_first wide plane n at m p l root word stack
    → OnPath rows masks coefs first end_rows end_masks end_coefs end_counts end_first wide plane n at m p l root (set word at c) stack
path-set {at = at} {word = word} c path = record { each = λ w whole same f. path.each w whole (λ i lt. same i lt ∙ get_or-set_other word at i c 0 (λ e. omega arith)) f }
