-- What the walk leaves at a block, put together: choice after choice, from the level below, and from what is remembered. Assumes nothing.
use mathlib.Core.Path.{◌≡◌, refl, sym, ap, ◌∙◌}
use mathlib.Core.Bool.{Bool, true, false, ◌&&◌, false≢true}
use mathlib.Core.List.{List, ◌∷◌}
use Prim.Native.Nat.{ℕ, ◌+◌, ◌-◌, ◌<◌, ◌≤◌}
use native.Mathlib.Nat.{mul-le-mul_right}
use native.Mathlib.Omega.{arith}
use lib.IntN.{ℤ}
use lib.ListN.{length, get_or}
use Rattle.amplitude.proofs.Equal.{both}
use Rattle.automata.specs.Choice.{choices_most, has}
use Rattle.automata.specs.Members.{Member}
use Rattle.jobs.specs.Reply.{word_places}
use Rattle.meeting.specs.declared.Level.{Level}
use Rattle.matching.specs.Levels.{start_of, IsLevel}
use Rattle.reaching.specs.Reached.{all_reached, kids_in, has_choice, Gone}
use Rattle.reaching.proofs.Spreads.{kept_same, kept_on, kept_less}
use Rattle.batching.specs.Fill.{Low, Filled}
use Rattle.batching.proofs.Grows.{low_same, low_on}
use Rattle.std.specs.Prelude.{Option}
use Rattle.remembering.specs.declared.Seen.{Seen}
use Rattle.remembering.specs.Memory.{Same, Memory}
use Rattle.walking.specs.declared.Tally.{Tally}
use Rattle.walking.specs.declared.Kind.TheVariants.{Going}
use Rattle.walking.specs.Tallied.{tallied}
use Rattle.walking.specs.Walk.{members_by, trees_by, visit_of, passes_in}
use Rattle.walking.proofs.Branches.{branch_fails, branch_goes}
use Rattle.walking.proofs.Rooms.{at-few}
use Rattle.walking.proofs.Skips.{Lacks, skip_lacks}
use Rattle.blocks.specs.Good.{all_of, good, Clean}
use Rattle.blocks.specs.Block.{row_cells, Entered, Strode}
use Rattle.blocks.proofs.Words.{set-letter}
use Rattle.blocks.proofs.Counts.{all-counted}
use Rattle.blocks.proofs.Blocks.{clean_none, clean_turn, clean_all, clean_skip, clean_kept, clean_dead, clean_down, good_tells, good-is, block_passes}
use Rattle.blocks.proofs.Entries.{entered-few, level-narrow, level-long, next-from}

low_up : {wide plane : ℕ} {l next : Level} {stack stack' : List ℕ} → l.to ≤ next.to → Low wide plane next stack stack' → Low wide plane l stack stack'
low_up {wide = wide} h w = record { each = λ j i lt. w.each j i (omega (arith, mul-le-mul_right wide h)) }

module _ {rows masks : List ℕ} {coefs : List ℤ} {counts first end_rows end_masks : List ℕ} {end_coefs : List ℤ} {end_counts end_first : List ℕ} {wide plane room slots n at m p : ℕ} {l : Level} {root : ℕ} {word stack : List ℕ} {seen : List (Option Seen)} {hints kept : List ℕ} {free may met turn cells : ℕ}
    (t : Entered rows masks coefs counts first end_rows end_masks end_coefs end_counts end_first wide plane room slots n at m p l root word stack seen hints kept free may met turn cells) where
  -- nothing was moved
  pub strode_still : (row : List ℕ) {lo hi : ℕ} {clean : Bool} → (clean ≡ true → Clean rows masks coefs first end_rows end_masks end_coefs end_first wide plane at m p l row stack lo hi)
      → Strode rows masks coefs counts first end_rows end_masks end_coefs end_counts end_first wide plane room slots n at m p l row stack lo hi clean row stack seen hints kept
  strode_still row h = record { reached = kept_same row l.to; marks = low_same wide plane l stack; memory = t.memory; found = h }

  pub strode_last : (row : List ℕ) {c : ℕ} {clean : Bool} → m ≡ 0 → (clean ≡ true → Clean rows masks coefs first end_rows end_masks end_coefs end_first wide plane n 0 p l row stack c (c + 1))
      → Strode rows masks coefs counts first end_rows end_masks end_coefs end_counts end_first wide plane room slots n at m p l row stack c (c + 1) clean row stack seen hints kept
  strode_last row z h =
      let same : at ≡ n = omega (arith, t.visiting.levels) in
      strode_still row (λ k. rw (z, same) (h k))

  -- ---- choice after choice
  pub strode_begin : (row : List ℕ) → Strode rows masks coefs counts first end_rows end_masks end_coefs end_counts end_first wide plane room slots n at m p l row stack 0 0 true row stack seen hints kept
  strode_begin row = strode_still row (λ e. clean_none)

  -- the choices that the level's mask lacks
  pub strode_skip : {row row' stack' : List ℕ} {seen' : List (Option Seen)} {hints' kept' : List ℕ} {mask lo hi : ℕ} {clean : Bool}
      → ((d : ℕ) → d < choices_most → has mask d ≡ all_reached (has_choice masks first d) row l.from l.to) → Lacks mask lo hi
      → Strode rows masks coefs counts first end_rows end_masks end_coefs end_counts end_first wide plane room slots n at m p l row stack 0 lo clean row' stack' seen' hints' kept'
      → Strode rows masks coefs counts first end_rows end_masks end_coefs end_counts end_first wide plane room slots n at m p l row stack 0 hi clean row' stack' seen' hints' kept'
  strode_skip {row} is next s = record {
    reached = s.reached;
    marks = s.marks;
    memory = s.memory;
    found = λ k. clean_skip (skip_lacks rows masks coefs first row l.from l.to is next) (s.found k);
  }

  pub strode_turn : {row row' row'' stack' stack'' : List ℕ} {seen' : List (Option Seen)} {hints' kept' : List ℕ} {seen'' : List (Option Seen)} {hints'' kept'' : List ℕ} {c : ℕ} {clean clean' : Bool}
      → Strode rows masks coefs counts first end_rows end_masks end_coefs end_counts end_first wide plane room slots n at m p l row stack 0 c clean row' stack' seen' hints' kept'
      → Strode rows masks coefs counts first end_rows end_masks end_coefs end_counts end_first wide plane room slots n at m p l row' stack' c (c + 1) clean' row'' stack'' seen'' hints'' kept''
      → Strode rows masks coefs counts first end_rows end_masks end_coefs end_counts end_first wide plane room slots n at m p l row stack 0 (c + 1) (clean && clean') row'' stack'' seen'' hints'' kept''
  strode_turn {clean = clean} {clean' = clean'} a s = record {
    reached = kept_on a.reached s.reached;
    marks = low_on a.marks s.marks;
    memory = s.memory;
    found = λ k.
        let b = both clean clean' k in
        clean_turn (a.found b.0) (clean_kept (level-narrow t) (level-long t) a.reached a.marks (s.found b.1));
  }
      -- nothing was reached by the choice, or the next level's block was walked over

  pub strode_dead : {row row' : List ℕ} {till c : ℕ} {r : Bool} → (m ≡ 0 → ⊥) → Gone row l.to till (λ g. all_reached (kids_in rows masks first c g) row l.from l.to) row' r → r ≡ false
      → Strode rows masks coefs counts first end_rows end_masks end_coefs end_counts end_first wide plane room slots n at m p l row stack c (c + 1) true row' stack seen hints kept
  strode_dead some gone f = record { reached = gone.kept; marks = low_same wide plane l stack; memory = t.memory; found = λ k. clean_dead gone at m some f }

  pub strode_down : {row row' row'' stack' stack'' : List ℕ} {seen'' : List (Option Seen)} {hints'' kept'' : List ℕ} {c : ℕ} {clean : Bool} {next : Level} {q : ℕ} {r : Bool} → (m ≡ 0 → ⊥) → next.from ≡ l.to → l.to ≤ next.to
      → Gone row l.to next.to (λ g. all_reached (kids_in rows masks first c g) row l.from l.to) row' r → r ≡ true
      → Filled rows masks first end_rows end_masks end_first c wide plane stack p room l next stack' q
      → Strode rows masks coefs counts first end_rows end_masks end_coefs end_counts end_first wide plane room slots n (at + 1) (m - 1) q next row' stack' 0 choices_most clean row'' stack'' seen'' hints'' kept''
      → Strode rows masks coefs counts first end_rows end_masks end_coefs end_counts end_first wide plane room slots n at m p l row stack c (c + 1) clean row'' stack'' seen'' hints'' kept''
  strode_down some from later gone f fill s = record {
    reached = kept_on gone.kept (kept_less later s.reached);
    marks = low_on fill.low (low_up later s.marks);
    memory = s.memory;
    found = λ k. clean_down gone at m some f from refl fill (s.found k);
  }

  -- the members that go on with the choice: none, or those of the next level's block
  module _ {c : ℕ} (some : m ≡ 0 → ⊥) (letter : get_or word at 0 ≡ c) (long : length word ≡ word_places) where
    at_there : at < length word
    at_there = omega (arith, at-few t.visiting)

    pub dead_members : {row row' : List ℕ} {till : ℕ} {r : Bool} → Gone row l.to till (λ g. all_reached (kids_in rows masks first c g) row l.from l.to) row' r → r ≡ false → (passes : Member → Bool) (b : ℕ) (u : Tally)
        → u ≡ tallied passes b u (members_by root word (at + 1) m (λ (v : List ℕ). trees_by rows masks coefs first at m row l.from l.to (c ∷ v)))
    dead_members {row} gone f passes b u =
        branch_fails rows masks coefs first l.from c gone root word at m some f passes b u
        ∙ ap (λ (w : List ℕ). tallied passes b u (members_by root w (at + 1) m (λ (v : List ℕ). trees_by rows masks coefs first at m row l.from l.to (c ∷ v)))) (set-letter word at c letter at_there)

    pub down-members : {row row' : List ℕ} {next : Level} {r : Bool} → IsLevel counts end_counts (at + 1) next → Gone row l.to next.to (λ g. all_reached (kids_in rows masks first c g) row l.from l.to) row' r → r ≡ true
        → visit_of rows masks coefs first root word (at + 1) (m - 1) row' next.from next.to
        ≡ members_by root word (at + 1) m (λ (v : List ℕ). trees_by rows masks coefs first at m row l.from l.to (c ∷ v))
    down-members {row} {row'} {next} is gone f =
        ap (λ (i : ℕ). visit_of rows masks coefs first root word (at + 1) (m - 1) row' i next.to) (next-from t some is)
        ∙ ap (λ (w : List ℕ). visit_of rows masks coefs first root w (at + 1) (m - 1) row' l.to next.to) (sym (set-letter word at c letter at_there))
        ∙ branch_goes rows masks coefs first l.from c gone root word at m some f
        ∙ ap (λ (w : List ℕ). members_by root w (at + 1) m (λ (v : List ℕ). trees_by rows masks coefs first at m row l.from l.to (c ∷ v))) (set-letter word at c letter at_there)

  -- ---- a block that is remembered
  module _ (row : List ℕ) (k : ℕ) (h : good rows masks coefs counts first end_rows end_masks end_coefs end_counts end_first wide plane n at p row stack k ≡ true) where
    known : Clean rows masks coefs first end_rows end_masks end_coefs end_first wide plane at m p l row stack 0 choices_most
        × ((r : ℕ) (w : List ℕ) → length (visit_of rows masks coefs first r w at m row l.from l.to) ≡ k)
    known = good_tells rows masks coefs counts first end_rows end_masks end_coefs end_counts end_first wide plane n at m p l t.visiting.levels (entered-few t) t.here row stack k h

    pub known_many : length (visit_of rows masks coefs first root word at m row l.from l.to) ≡ k
    known_many = known.1 root word

    pub known_pass : length word ≡ word_places → all_of (passes_in rows masks coefs first end_rows end_masks end_coefs end_counts end_first n) (visit_of rows masks coefs first root word at m row l.from l.to) ≡ true
    known_pass long = block_passes t.path t.visiting.levels (entered-few t) long t.visiting.small known.0

    pub known_strode : Strode rows masks coefs counts first end_rows end_masks end_coefs end_counts end_first wide plane room slots n at m p l row stack 0 choices_most true row stack seen hints kept
    known_strode = strode_still row (λ e. known.0)

  -- ---- a block that is to be remembered
  module _ {row row' stack' : List ℕ} {seen' : List (Option Seen)} {hints' kept' : List ℕ} {clean : Bool}
      (s : Strode rows masks coefs counts first end_rows end_masks end_coefs end_counts end_first wide plane room slots n at m p l row stack 0 choices_most clean row' stack' seen' hints' kept')
      (b : ℕ) (before after : Tally) (is : after ≡ tallied (passes_in rows masks coefs first end_rows end_masks end_coefs end_counts end_first n) b before (visit_of rows masks coefs first root word at m row l.from l.to)) where
    counted : after.kind ≡ Going → after.count ≡ before.count + length (visit_of rows masks coefs first root word at m row l.from l.to)
    counted g =
        ap (λ (u : Tally). u.count) is
        ∙ all-counted (passes_in rows masks coefs first end_rows end_masks end_coefs end_counts end_first n) b (visit_of rows masks coefs first root word at m row l.from l.to) before (ap (λ (u : Tally). u.kind) (sym is) ∙ g)

    pub counted-more : after.kind ≡ Going → before.count ≤ after.count
    counted-more g = omega (arith, counted g)

    pub kept-good : clean ≡ true → after.kind ≡ Going → (row'' stack'' : List ℕ) → Same wide plane l.from l.to p row' stack' row'' stack''
        → good rows masks coefs counts first end_rows end_masks end_coefs end_counts end_first wide plane n at p row'' stack'' (after.count - before.count) ≡ true
    kept-good k g row'' stack'' same =
        good-is rows masks coefs counts first end_rows end_masks end_coefs end_counts end_first wide plane n at m p l t.visiting.levels (entered-few t) t.here (level-narrow t) (level-long t)
        (after.count - before.count) root word (s.found k) (let e = counted g in omega arith) s.reached s.marks same

  -- the memory after that
  pub strode_kept : {row row' stack' : List ℕ} {seen' : List (Option Seen)} {hints' kept' : List ℕ} {seen'' : List (Option Seen)} {hints'' kept'' : List ℕ} {lo hi : ℕ} {clean : Bool}
      → Strode rows masks coefs counts first end_rows end_masks end_coefs end_counts end_first wide plane room slots n at m p l row stack lo hi clean row' stack' seen' hints' kept'
      → Memory wide plane room row_cells slots (start_of counts) (good rows masks coefs counts first end_rows end_masks end_coefs end_counts end_first wide plane n) seen'' hints'' kept''
      → Strode rows masks coefs counts first end_rows end_masks end_coefs end_counts end_first wide plane room slots n at m p l row stack lo hi clean row' stack' seen'' hints'' kept''
  strode_kept s memory = record { reached = s.reached; marks = s.marks; memory = memory; found = s.found }

  -- all choices have been tried, or the walk stops before
  pub strode_all : {row row' stack' : List ℕ} {seen' : List (Option Seen)} {hints' kept' : List ℕ} {c : ℕ} {clean : Bool} → choices_most ≤ c
      → Strode rows masks coefs counts first end_rows end_masks end_coefs end_counts end_first wide plane room slots n at m p l row stack 0 c clean row' stack' seen' hints' kept'
      → Strode rows masks coefs counts first end_rows end_masks end_coefs end_counts end_first wide plane room slots n at m p l row stack 0 choices_most clean row' stack' seen' hints' kept'
  strode_all le s = record { reached = s.reached; marks = s.marks; memory = s.memory; found = λ k. clean_all le (s.found k) }

  pub strode_stops : {row row' stack' : List ℕ} {seen' : List (Option Seen)} {hints' kept' : List ℕ} {lo hi lo' hi' : ℕ} {clean : Bool}
      → Strode rows masks coefs counts first end_rows end_masks end_coefs end_counts end_first wide plane room slots n at m p l row stack lo hi clean row' stack' seen' hints' kept'
      → Strode rows masks coefs counts first end_rows end_masks end_coefs end_counts end_first wide plane room slots n at m p l row stack lo' hi' false row' stack' seen' hints' kept'
  strode_stops s = record { reached = s.reached; marks = s.marks; memory = s.memory; found = λ k. absurd (false≢true k) }
