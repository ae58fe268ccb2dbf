-- Batch after batch: where one leads to a word it is found from the level, and where none does, no place of the level leads to one.
-- Assumes nothing.
use mathlib.Core.Path.{◌≡◌, refl, sym, ap, ◌∙◌}
use mathlib.Core.Bool.{Bool, true, false, false≢true}
use mathlib.Core.List.{List, [], ◌∷◌}
use Prim.Native.Nat.{ℕ, suc, ◌+◌, ◌*◌, ◌<◌, ◌≤◌}
use native.Mathlib.Decide.{dec_lt}
use native.Mathlib.Omega.{arith}
use lib.IntN.{ℤ}
use lib.ListN.{get_or, take}
use Rattle.automata.specs.Members.{choices}
use Rattle.automata.specs.Tree.{Automaton}
use Rattle.automata.proofs.Lists.{up_to_inv}
use Rattle.verdict.specs.Search.{searched, found as pair_found}
use Rattle.verdict.proofs.Searching.{one_tells}
use Rattle.lookup.specs.Alts.{table_automaton}
use Rattle.meeting.specs.declared.Level.{Level}
use Rattle.matching.specs.Levels.{start_of, IsLevel}
use Rattle.matching.specs.Seeking.{sought, tried, Hints, Lent}
use Rattle.matching.proofs.Turns.{no_may, seek_some, seek_next}
use Rattle.matching.proofs.Roots.{root_level, root_level_lem, root_seeking, root_cannot}
use Rattle.relating.specs.Found.{plane_of, found}
use Rattle.relating.specs.Related.{Related}
use Rattle.relating.specs.Roots.{Rooted, Whole}
use Rattle.relating.proofs.Relations.{below_none}
use Rattle.relating.proofs.Grounds.{first-level}
use Rattle.batching.specs.Fill.{Ground, Low}
use Rattle.batching.proofs.Grounds.{related_ground}
use Rattle.batching.proofs.Grows.{low_same, low_on, low-marks, low-found}
use Rattle.batching.specs.Batch.{Wise, Batched}
use Rattle.batching.proofs.Wholes.{tried-marks}
use Rattle.judging.specs.Judge.{Spaced, Judging, Apt, Started}

-- ---- what is asked
module _ {rows masks : List ℕ} {coefs : List ℤ} {counts first end_rows end_masks : List ℕ} {end_coefs : List ℤ} {end_counts end_first word : List ℕ} {wide plane room p size spare at m : ℕ} {l : Level} where
  pub judging-again : {size' spare' m' : ℕ} → size' ≡ size → spare' ≡ spare → m' ≡ m
      → Judging rows masks coefs counts first end_rows end_masks end_coefs end_counts end_first word wide plane room p size spare at m l
      → Judging rows masks coefs counts first end_rows end_masks end_coefs end_counts end_first word wide plane room p size' spare' at m' l
  judging-again e f g t = rw (e, f, g) t

module _ {rows masks : List ℕ} {coefs : List ℤ} {counts first end_rows end_masks : List ℕ} {end_coefs : List ℤ} {end_counts end_first word : List ℕ} {wide plane room p size spare at : ℕ} {l : Level} (m : ℕ)
    (t : Judging rows masks coefs counts first end_rows end_masks end_coefs end_counts end_first word wide plane room p size spare at (suc m) l) {next : Level} (is : IsLevel counts end_counts (at + 1) next) where
  pub batch_ground : {may : ℕ} → start_of counts (suc (at + suc m)) * wide ≤ may → Ground rows masks first end_rows end_masks end_first wide plane may spare l next
  batch_ground h =
      let k = t.seeking.lent in
      let related : Related rows masks coefs counts first end_rows end_masks end_coefs end_counts end_first wide plane (at + suc m) = record { image = k.image; ends = k.ends; long = k.long; narrow = k.narrow } in
      related_ground at m related refl t.seeking.here is h t.space.long

  pub judge_next : {p' : ℕ} → p' ≤ room → Judging rows masks coefs counts first end_rows end_masks end_coefs end_counts end_first word wide plane room p' size spare (at + 1) m next
  judge_next h = record { seeking = seek_next m t.seeking is; space = record { some = t.space.some; few = h; high = t.space.high; long = t.space.long } }

  -- the marks have all that leads to a word
  pub wise : {may : List ℕ} → Hints (table_automaton rows masks coefs first) (table_automaton end_rows end_masks end_coefs end_first) word counts end_counts wide may (at + suc m)
      → Wise (table_automaton rows masks coefs first) (table_automaton end_rows end_masks end_coefs end_first) word (at + 1) m wide may next
  wise {may} h =
      let same : at + 1 + m ≡ at + suc m = omega arith in
      record { each = λ met f. no_may rows masks coefs first end_rows end_masks end_coefs end_first word (at + 1) m wide may met counts end_counts (at + suc m) is same h.sound f }

-- ---- the places of a level
-- those before `place` lead to no word, and the level's relations stand still
pub record Sifting (S E : Automaton ℕ) (word : List ℕ) (at m wide plane : ℕ) (entry : List ℕ) (p : ℕ) (l : Level) (stack : List ℕ) (place : ℕ) : Type 0 where
  pub low : Low wide plane l entry stack
  pub none : (k d : ℕ) → k < p → d < 32 → k * 32 + d < place → tried S E word at m d wide (plane_of plane entry k) l ≡ false

pub sift_none : (S E : Automaton ℕ) (word : List ℕ) (at m wide plane : ℕ) (entry : List ℕ) (p : ℕ) (l : Level) → Sifting S E word at m wide plane entry p l entry 0
sift_none S E word at m wide plane entry p l = record { low = low_same wide plane l entry; none = λ k d lt small hi. absurd (omega arith) }

-- no place is left
pub sift_all : (left : ℕ) {S E : Automaton ℕ} {word : List ℕ} {at m wide plane : ℕ} {entry : List ℕ} {p : ℕ} {l : Level} {stack : List ℕ} {place : ℕ} → suc m ≡ left → p * 32 ≤ place
    → Sifting S E word at m wide plane entry p l stack place → false ≡ found S E word at left wide plane entry p l
sift_all left {S} {E} {word} {at} {m} {wide} {plane} {entry} {p} {l} {stack} {place} e end t =
    below_none p (λ k. sought S E word at (suc m) wide (plane_of plane entry k) l) (λ k lt. go k lt (sought S E word at (suc m) wide (plane_of plane entry k) l) refl)
    ∙ ap (λ (x : ℕ). found S E word at x wide plane entry p l) e
  where
    go : (k : ℕ) → k < p → (b : Bool) → sought S E word at (suc m) wide (plane_of plane entry k) l ≡ b → sought S E word at (suc m) wide (plane_of plane entry k) l ≡ false
    go k lt false f = f
    go k lt true f =
        let r = one_tells (λ d. tried S E word at m d wide (plane_of plane entry k) l) choices (sym (seek_some S E word at m wide (plane_of plane entry k) l) ∙ f) in
        let small : r.0 < 32 = omega (arith, (up_to_inv 32 0 r.0 r.1).1) in
        absurd (false≢true (sym (t.none k r.0 lt small (omega arith)) ∙ r.2))

module _ {rows masks : List ℕ} (coefs : List ℤ) {first end_rows end_masks : List ℕ} (end_coefs : List ℤ) {end_first word : List ℕ} {at m wide plane : ℕ} {entry : List ℕ} {p : ℕ} {l : Level} {stack : List ℕ} {place : ℕ}
    (t : Sifting (table_automaton rows masks coefs first) (table_automaton end_rows end_masks end_coefs end_first) word at m wide plane entry p l stack place) (narrow : l.stop ≤ wide * 32) (long : l.to * wide ≤ plane)
    {c : ℕ} {may : List ℕ} {room : ℕ} {next : Level} {to : ℕ} {mid : List ℕ} {r : ℕ} (b : Batched rows masks first end_rows end_masks end_first c wide plane may stack p room l next place to mid r) (is : get_or word at 0 ≡ c) where
  -- the batch leads to a word
  pub sift_hit : (left : ℕ) → suc m ≡ left → found (table_automaton rows masks coefs first) (table_automaton end_rows end_masks end_coefs end_first) word (at + 1) m wide plane mid r next ≡ true
      → true ≡ found (table_automaton rows masks coefs first) (table_automaton end_rows end_masks end_coefs end_first) word at left wide plane entry p l
  sift_hit left e h =
      sym (sym (low-found (table_automaton rows masks coefs first) (table_automaton end_rows end_masks end_coefs end_first) word at (suc m) p narrow long t.low) ∙ b.filled.sound coefs end_coefs word at m is h)
      ∙ ap (λ (x : ℕ). found (table_automaton rows masks coefs first) (table_automaton end_rows end_masks end_coefs end_first) word at x wide plane entry p l) e

  -- the batch leads to none
  pub sift_on : {stack' : List ℕ} → Wise (table_automaton rows masks coefs first) (table_automaton end_rows end_masks end_coefs end_first) word (at + 1) m wide may next
      → found (table_automaton rows masks coefs first) (table_automaton end_rows end_masks end_coefs end_first) word (at + 1) m wide plane mid r next ≡ false → Low wide plane l mid stack'
      → Sifting (table_automaton rows masks coefs first) (table_automaton end_rows end_masks end_coefs end_first) word at m wide plane entry p l stack' to
  sift_on w f low = record {
    low = low_on t.low (low_on b.filled.low low);
    none = λ k d lt small hi. go k d lt small hi (dec_lt (k * 32 + d) place) (tried (table_automaton rows masks coefs first) (table_automaton end_rows end_masks end_coefs end_first) word at m d wide (plane_of plane entry k) l) refl;
  }
    where
      go : (k d : ℕ) → k < p → d < 32 → k * 32 + d < to → Dec (k * 32 + d < place) → (a : Bool)
          → tried (table_automaton rows masks coefs first) (table_automaton end_rows end_masks end_coefs end_first) word at m d wide (plane_of plane entry k) l ≡ a
          → tried (table_automaton rows masks coefs first) (table_automaton end_rows end_masks end_coefs end_first) word at m d wide (plane_of plane entry k) l ≡ false
      go k d lt small hi (yes old) a e = t.none k d lt small old
      go k d lt small hi (no new) false e = e
      go k d lt small hi (no new) true e =
          absurd (false≢true (sym f ∙ b.each coefs end_coefs word at m is w k d small (omega arith) hi
          (tried-marks (table_automaton rows masks coefs first) (table_automaton end_rows end_masks end_coefs end_first) word at m d l (low-marks k narrow long t.low) ∙ e)))

-- ---- the end's roots
-- those before e match by no word
pub record Rooting (S E : Automaton ℕ) (word : List ℕ) (n root e : ℕ) : Type 0 where
  pub none : (x : ℕ) → x < e → pair_found S E 1 n (take (n + 1) word) ((root, x) ∷ []) ≡ false

pub rooting : (S E : Automaton ℕ) (word : List ℕ) (n root : ℕ) → Rooting S E word n root 0
rooting S E word n root = record { none = λ x lt. absurd (omega arith) }

pub rooted-all : (roots : ℕ) {S E : Automaton ℕ} {word : List ℕ} {n root e : ℕ} → roots ≤ e → Rooting S E word n root e → false ≡ searched S E roots n (take (n + 1) word) root
rooted-all roots {S} {E} {word} {n} {root} end t = below_none roots (λ x. pair_found S E 1 n (take (n + 1) word) ((root, x) ∷ [])) (λ x lt. t.none x (omega arith))

pub rooting_on : {S E : Automaton ℕ} {word : List ℕ} {n root e to wide plane room : ℕ} {may stack stack' : List ℕ} {l : Level} {r : ℕ} → Rooting S E word n root e → Started wide plane room may stack root l e to stack' r
    → Whole word n → Apt S E word n wide may root l → found S E word 0 n wide plane stack' r l ≡ false → Rooting S E word n root to
rooting_on {S} {E} {word} {n} {root} {e} {to} t s w a f = record { none = λ x lt. go x lt (dec_lt x e) (pair_found S E 1 n (take (n + 1) word) ((root, x) ∷ [])) refl }
  where
    go : (x : ℕ) → x < to → Dec (x < e) → (b : Bool) → pair_found S E 1 n (take (n + 1) word) ((root, x) ∷ []) ≡ b → pair_found S E 1 n (take (n + 1) word) ((root, x) ∷ []) ≡ false
    go x lt (yes old) b k = t.none x old
    go x lt (no new) false k = k
    go x lt (no new) true k = absurd (false≢true (sym f ∙ s.rise.each S E word n w a x (omega arith) lt k))

module _ {rows masks : List ℕ} {coefs : List ℤ} {counts first end_rows end_masks : List ℕ} {end_coefs : List ℤ} {end_counts end_first word : List ℕ} {wide plane n : ℕ}
    (t : Lent rows masks coefs counts first end_rows end_masks end_coefs end_counts end_first word wide plane n) where
  pub whole_word : Whole word n
  whole_word = record { letters = t.letters; small = t.small }

  pub root_rooted : {may root : ℕ} → start_of counts (suc n) * wide ≤ may → root < get_or counts 0 0 → Rooted plane wide may root (root_level counts end_counts)
  root_rooted h lt =
      let related : Related rows masks coefs counts first end_rows end_masks end_coefs end_counts end_first wide plane n = record { image = t.image; ends = t.ends; long = t.long; narrow = t.narrow } in
      first-level related (root_level_lem counts end_counts) h lt

  pub apt : {S E : Automaton ℕ} {may : List ℕ} {root : ℕ} → root < get_or counts 0 0 → Hints S E word counts end_counts wide may n → Apt S E word n wide may root (root_level counts end_counts)
  apt {S} {E} {may} {root} lt h = record { each = λ e lo hi f. root_cannot t root e lt hi S E may h f }

  pub judge_roots : {room size spare p : ℕ} → Spaced plane room 0 size spare → p ≤ room
      → Judging rows masks coefs counts first end_rows end_masks end_coefs end_counts end_first word wide plane room p size spare 0 n (root_level counts end_counts)
  judge_roots s le = record { seeking = root_seeking t; space = record { some = s.some; few = le; high = s.high; long = s.long } }

pub spaced-again : {plane room p size spare size' spare' : ℕ} → size' ≡ size → spare' ≡ spare → Spaced plane room p size spare → Spaced plane room p size' spare'
spaced-again e f s = rw (e, f) s
