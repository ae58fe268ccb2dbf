-- What the walk asks at a block holds from choice to choice and from level to level. Assumes nothing.
use mathlib.Core.Path.{◌≡◌, refl, sym, ap, ◌∙◌}
use mathlib.Core.Bool.{true}
use mathlib.Core.List.{List}
use Prim.Native.Nat.{ℕ, zero, suc, ◌+◌, ◌-◌, ◌*◌, ◌<◌, ◌≤◌}
use native.Mathlib.Nat.{mul-le-mul_right}
use native.Mathlib.Numerals.{add-one}
use native.Mathlib.Omega.{arith}
use lib.IntN.{ℤ}
use lib.ListN.{length, get_or, set}
use Rattle.automata.specs.Choice.{choices_most}
use Rattle.automata.specs.Members.{member}
use Rattle.jobs.specs.Reply.{word_places}
use Rattle.lookup.specs.Alts.{table_automaton}
use Rattle.meeting.specs.declared.Level.{Level}
use Rattle.matching.specs.Levels.{start_of, IsLevel, NextFits}
use Rattle.matching.specs.Seeking.{Lent, Seeking}
use Rattle.matching.proofs.Grounds.{starts-small, level-there}
use Rattle.matching.proofs.LevelLaws.{start-next}
use Rattle.matching.proofs.Turns.{one_less, leaf-stage, stage as pair-stage}
use Rattle.reaching.specs.Reached.{Stage, Ended}
use Rattle.relating.specs.Found.{found}
use Rattle.batching.specs.Fill.{Ground, Low, Filled}
use Rattle.std.specs.Prelude.{Option}
use Rattle.remembering.specs.declared.Seen.{Seen}
use Rattle.remembering.specs.Fits.{Fits}
use Rattle.remembering.specs.Memory.{Memory}
use Rattle.walking.specs.Walk.{passes_in}
use Rattle.walking.proofs.Rooms.{start_up, small-set, both-again, few-levels, at-few, lent, visit-again, leaves-there, states-there, level-celled, stage as reach-stage}
use Rattle.blocks.specs.Good.{good}
use Rattle.blocks.specs.Block.{row_cells, Sized, Entered, Ending}
use Rattle.blocks.proofs.Blocks.{path-kept, path-down, path-set}

some_less : (m : ℕ) → (m ≡ 0 → ⊥) → 0 < m
some_less zero h = absurd (h refl)
some_less (suc m) h = omega arith

pub starts-rise : (counts : List ℕ) (i : ℕ) → start_of counts i ≤ start_of counts (suc i)
starts-rise counts i = omega (arith, start-next counts i)

-- the same with buffers as long
pub sized-again : {counts : List ℕ} {n wide plane room slots free met stack kept hints seen turn met' stack' kept' hints' seen' turn' : ℕ} → met' ≡ met → stack' ≡ stack → kept' ≡ kept → hints' ≡ hints → seen' ≡ seen → turn' ≡ turn
    → Sized counts n wide plane room slots free met stack kept hints seen turn → Sized counts n wide plane room slots free met' stack' kept' hints' seen' turn'
sized-again e₁ e₂ e₃ e₄ e₅ e₆ s = rw (e₁, e₂, e₃, e₄, e₅, e₆) s

module _ {rows masks : List ℕ} {coefs : List ℤ} {counts first end_rows end_masks : List ℕ} {end_coefs : List ℤ} {end_counts end_first : List ℕ} {wide plane room slots n at m p : ℕ} {l : Level} {root : ℕ} {word stack : List ℕ} {seen : List (Option Seen)} {hints kept : List ℕ} {free may met turn cells : ℕ}
    (t : Entered rows masks coefs counts first end_rows end_masks end_coefs end_counts end_first wide plane room slots n at m p l root word stack seen hints kept free may met turn cells) where
  pub entered-few : n ≤ 20
  entered-few = few-levels t.visiting.both

  pub level-narrow : l.stop ≤ wide * 32
  level-narrow = omega (arith, t.here.stop, start_up end_counts (suc at) (suc n) (omega (arith, t.visiting.levels)), t.visiting.both.narrow)

  before_last : l.to ≤ start_of counts (suc n)
  before_last = omega (arith, t.here.to, start_up counts (suc at) (suc n) (omega (arith, t.visiting.levels)))

  pub level-long : l.to * wide ≤ plane
  level-long = omega (arith, mul-le-mul_right wide before_last, t.sized.long)

  pub level-rises : l.from ≤ l.to
  level-rises = omega (arith, t.here.from, t.here.to, starts-rise counts at)

  -- for the level's choices
  pub choices_asked : ((s : ℕ) → l.from ≤ s → s < l.to → Ended masks first s) × (l.to ≤ cells)
  choices_asked = (states-there t.visiting, level-celled t.visiting)

  -- for the look-up
  pub block_fits : {row : List ℕ} → length row ≡ cells → Fits at l.from l.to p wide plane room row_cells slots row stack kept hints seen
  block_fits e = record {
    level = omega (arith, at-few t.visiting);
    rising = level-rises;
    short = omega (arith, before_last, t.sized.short);
    narrow = level-long;
    few = t.few;
    in_row = omega (arith, level-celled t.visiting);
    in_stack = t.sized.planes;
    in_kept = t.sized.in_kept;
    in_rows = t.sized.in_hints;
    in_seen = t.sized.in_seen;
  }

  -- ---- the choice of the level
  pub entered-set : (c : ℕ) → c < choices_most → length word ≡ word_places
      → Entered rows masks coefs counts first end_rows end_masks end_coefs end_counts end_first wide plane room slots n at m p l root (set word at c) stack seen hints kept free may met turn cells
  entered-set c lt long =
      let v = t.visiting in
      record {
        visiting = record {
          both = v.both;
          levels = v.levels;
          begins = v.begins;
          stops = v.stops;
          rooted = v.rooted;
          small = small-set word at c v.small lt (omega (arith, at-few v));
        };
        here = t.here;
        sized = t.sized;
        few = t.few;
        path = path-set c t.path;
        memory = t.memory;
      }

  -- ---- after some words of the block
  pub entered-again : {stack' : List ℕ} {seen' : List (Option Seen)} {hints' kept' : List ℕ} {may' met' turn' cells' : ℕ} → Low wide plane l stack stack'
      → Memory wide plane room row_cells slots (start_of counts) (good rows masks coefs counts first end_rows end_masks end_coefs end_counts end_first wide plane n) seen' hints' kept'
      → length stack' ≡ length stack → length seen' ≡ length seen → length hints' ≡ length hints → length kept' ≡ length kept
      → may' ≡ may → met' ≡ met → turn' ≡ turn → cells' ≡ cells
      → Entered rows masks coefs counts first end_rows end_masks end_coefs end_counts end_first wide plane room slots n at m p l root word stack' seen' hints' kept' free may' met' turn' cells'
  entered-again low memory e₁ e₂ e₃ e₄ e₅ e₆ e₇ e₈ =
      record {
        visiting = visit-again t.visiting e₅ e₈;
        here = t.here;
        sized = sized-again e₆ e₁ e₄ e₃ e₂ e₇ t.sized;
        few = t.few;
        path = path-kept t.path level-narrow level-long low;
        memory = memory;
      }

  -- ---- the last level
  seeking : length word ≡ word_places → Seeking rows masks coefs counts first end_rows end_masks end_coefs end_counts end_first word wide plane at m l
  seeking long =
      let whole : Lent rows masks coefs counts first end_rows end_masks end_coefs end_counts end_first word wide plane n = lent t.visiting.both word long t.visiting.small t.sized.long in
      record { lent = rw t.visiting.levels whole; here = t.here }

  pub ending : (c : ℕ) → m ≡ 0 → c < choices_most → get_or word at 0 ≡ c → length word ≡ word_places → Ending rows masks coefs counts first end_rows end_masks end_coefs end_counts end_first wide plane room n p l root word stack may met cells c
  ending c z lt letter long =
      let v = t.visiting in
      let same : at ≡ n = omega (arith, v.levels) in
      record {
        lent = lent v.both word long v.small t.sized.long;
        hinted = lent v.both word long v.small v.both.hinted;
        space = record { some = t.sized.some; few = omega arith; high = t.sized.batches; long = t.sized.flat };
        rooted = v.rooted;
        leaves = leaves-there v z;
        celled = level-celled v;
        stage = leaf-stage (rw z at (seeking long));
        planes = omega (arith, mul-le-mul_right plane t.few, t.sized.planes);
        path = rw (z, same) at t.path;
        small = lt;
        letter = ap (λ (i : ℕ). get_or word i 0) (sym same) ∙ letter;
      }

  -- ---- one level down
  module _ (some : m ≡ 0 → ⊥) where
    less : at < n
    less = omega (arith, t.visiting.levels, some_less m some)

    pub next_asked : IsLevel counts end_counts at l × NextFits counts end_counts at
    next_asked = (
      t.here,
      record {
        there = level-there t.visiting.both.image (at + 1) (omega (arith, less));
        end_there = level-there t.visiting.both.ends (at + 1) (omega (arith, less));
        small = starts-small t.visiting.both.image (suc (suc at)) (omega (arith, less));
        end_small = starts-small t.visiting.both.ends (suc (suc at)) (omega (arith, less));
      },
    )

    module _ {next : Level} (is : IsLevel counts end_counts (at + 1) next) where
      pub next-from : next.from ≡ l.to
      next-from = is.from ∙ ap (start_of counts) (add-one at) ∙ sym t.here.to

      next-to : next.to ≡ start_of counts (suc (suc at))
      next-to = is.to ∙ ap (λ (i : ℕ). start_of counts (suc i)) (add-one at)

      pub next-later : l.to ≤ next.to
      next-later = omega (arith, next-to, t.here.to, starts-rise counts (suc at))

      next_last : next.to ≤ start_of counts (suc n)
      next_last = omega (arith, next-to, start_up counts (suc (suc at)) (suc n) (omega (arith, less)))

      pub reach_asked : Stage rows masks first cells l.from l.to next.to
      reach_asked = reach-stage t.visiting some next-to

      pub batch_asked : length word ≡ word_places → Ground rows masks first end_rows end_masks end_first wide plane free met l next
      batch_asked long =
          let more = one_less m some in
          let s : Seeking rows masks coefs counts first end_rows end_masks end_coefs end_counts end_first word wide plane at (suc (m - 1)) l = rw more (seeking long) in
          record { stage = pair-stage (m - 1) s is; levels = level-rises; fits = omega (arith, mul-le-mul_right wide next_last, t.sized.hinted); long = t.sized.spare }

      pub entered-down : {c q : ℕ} {stack' : List ℕ} {met' cells' : ℕ} → get_or word at 0 ≡ c → Filled rows masks first end_rows end_masks end_first c wide plane stack p room l next stack' q
          → length stack' ≡ length stack → met' ≡ met → cells' ≡ cells
          → Entered rows masks coefs counts first end_rows end_masks end_coefs end_counts end_first wide plane room slots n (at + 1) (m - 1) q next root word stack' seen hints kept free may met' turn cells'
      entered-down letter f e₁ e₂ e₃ =
          let v = t.visiting in
          record {
            visiting = record {
              both = both-again v.both refl e₃;
              levels = omega (arith, v.levels, less);
              begins = is.from;
              stops = is.to;
              rooted = v.rooted;
              small = v.small;
            };
            here = is;
            sized = sized-again e₂ e₁ refl refl refl refl t.sized;
            few = f.few;
            path = path-down m some t.path letter f;
            memory = t.memory;
          }

-- a word that ends here passes if it is found
pub ending-passes : {rows masks : List ℕ} {coefs : List ℤ} {counts first end_rows end_masks : List ℕ} {end_coefs : List ℤ} {end_counts end_first : List ℕ} {wide plane room n p : ℕ} {l : Level} {root : ℕ} {word stack : List ℕ} {may met cells c : ℕ}
    → Ending rows masks coefs counts first end_rows end_masks end_coefs end_counts end_first wide plane room n p l root word stack may met cells c
    → found (table_automaton rows masks coefs first) (table_automaton end_rows end_masks end_coefs end_first) word n 0 wide plane stack p l ≡ true
    → passes_in rows masks coefs first end_rows end_masks end_coefs end_counts end_first n (member root word) ≡ true
ending-passes {word = word} t f = t.path.each word (record { letters = t.lent.letters; small = t.lent.small }) (λ i lt. refl) f
