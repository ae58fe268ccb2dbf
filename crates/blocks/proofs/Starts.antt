-- The walk at a root: its block is the root and relations to end roots, and what is found from it passes. Assumes nothing.
use mathlib.Core.Path.{◌≡◌, refl}
use mathlib.Core.Bool.{true}
use mathlib.Core.List.{List}
use Prim.Native.Nat.{ℕ, suc, ◌+◌, ◌<◌, ◌≤◌}
use native.Mathlib.Nat.{mul-le-mul_right}
use native.Mathlib.Omega.{arith}
use lib.IntN.{ℤ}
use lib.ListN.{length, get_or, take, replicate}
use Rattle.automata.specs.Tree.{Automaton}
use Rattle.verdict.specs.Search.{searched}
use Rattle.jobs.specs.Reply.{word_places}
use Rattle.lookup.specs.Alts.{table_automaton}
use Rattle.matching.specs.Levels.{start_of}
use Rattle.matching.proofs.LevelLaws.{start-zero, start-next}
use Rattle.matching.proofs.Roots.{root_level, root_level_lem}
use Rattle.relating.specs.Found.{found}
use Rattle.relating.specs.Roots.{Rooted, Whole}
use Rattle.std.specs.Prelude.{Option}
use Rattle.remembering.specs.declared.Seen.{Seen}
use Rattle.remembering.specs.Memory.{Memory}
use Rattle.walking.proofs.Rooms.{start_up, both-again, visit_begins}
use Rattle.blocks.specs.Good.{good}
use Rattle.blocks.specs.Block.{row_cells, Started, Entered}
use Rattle.blocks.proofs.Entries.{sized-again}

roots-are : (cs : List ℕ) → get_or cs 0 0 ≡ start_of cs 1
roots-are cs = omega (arith, start-zero cs, start-next cs 0)

module _ {rows masks : List ℕ} {coefs : List ℤ} {counts first end_rows end_masks : List ℕ} {end_coefs : List ℤ} {end_counts end_first : List ℕ} {wide plane room slots n : ℕ} {seen : List (Option Seen)} {hints kept : List ℕ} {free may met stack turn cells : ℕ}
    (g : Started rows masks coefs counts first end_rows end_masks end_coefs end_counts end_first wide plane room slots n seen hints kept free may met stack turn cells) where
  -- the same after another root
  pub started-again : {seen' : List (Option Seen)} {hints' kept' : List ℕ} {may' met' stack' turn' cells' : ℕ}
      → Memory wide plane room row_cells slots (start_of counts) (good rows masks coefs counts first end_rows end_masks end_coefs end_counts end_first wide plane n) seen' hints' kept'
      → may' ≡ may → met' ≡ met → stack' ≡ stack → length kept' ≡ length kept → length hints' ≡ length hints → length seen' ≡ length seen → turn' ≡ turn → cells' ≡ cells
      → Started rows masks coefs counts first end_rows end_masks end_coefs end_counts end_first wide plane room slots n seen' hints' kept' free may' met' stack' turn' cells'
  started-again memory e₁ e₂ e₃ e₄ e₅ e₆ e₇ e₈ =
      record {
        both = both-again g.both e₁ e₈;
        sized = sized-again e₂ e₃ e₄ e₅ e₆ e₇ g.sized;
        memory = memory;
      }

  module _ (root : ℕ) (lt : root < get_or counts 0 0) where
    roots-within : get_or counts 0 0 ≤ start_of counts (suc n)
    roots-within = omega (arith, roots-are counts, start_up counts 1 (suc n) (omega arith))

    pub begin_asked : Rooted plane wide free root (root_level counts end_counts)
    begin_asked = record {
      after = omega arith;
      before = lt;
      long = omega (arith, mul-le-mul_right wide roots-within, g.sized.long);
      fits = omega (arith, mul-le-mul_right wide roots-within, g.sized.hinted);
      narrow = omega (arith, roots-are end_counts, start_up end_counts 1 (suc n) (omega arith), g.both.narrow);
    }

    pub entered-first : {p : ℕ} {stack' : List ℕ} {met' cells' : ℕ} → p ≤ room
        → ((S E : Automaton ℕ) (word : List ℕ) (m : ℕ) → Whole word m → found S E word 0 m wide plane stack' p (root_level counts end_counts) ≡ true → searched S E (get_or end_counts 0 0) m (take (m + 1) word) root ≡ true)
        → length stack' ≡ stack → cells' ≡ cells → met' ≡ met
        → Entered rows masks coefs counts first end_rows end_masks end_coefs end_counts end_first wide plane room slots n 0 n p (root_level counts end_counts) root (replicate word_places 0) stack' seen hints kept free may met' turn cells'
    entered-first few sound e₁ e₂ e₃ =
        record {
          visiting = visit_begins (both-again g.both refl e₂) root lt;
          here = root_level_lem counts end_counts;
          sized = sized-again e₃ e₁ refl refl refl refl g.sized;
          few = few;
          path = record { each = λ w whole same f. sound (table_automaton rows masks coefs first) (table_automaton end_rows end_masks end_coefs end_first) w n whole f };
          memory = g.memory;
        }
