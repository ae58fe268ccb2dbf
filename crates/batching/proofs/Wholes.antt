-- A relation that leads to a word is among those of the next level: the step by its choice goes, its pairs are marked, and where it is not
-- added it stands there already. Assumes nothing.
use mathlib.Core.Path.{◌≡◌, refl, sym, ap, ◌∙◌, subst}
use mathlib.Core.Bool.{Bool, true, false, false≢true}
use mathlib.Core.List.{List, ◌∷◌}
use Prim.Native.Nat.{ℕ, suc, ◌+◌, ◌-◌, ◌*◌, ◌<◌, ◌≤◌}
use native.Mathlib.Decide.{dec_lt}
use native.Mathlib.Omega.{arith}
use lib.IntN.{ℤ}
use lib.ListN.{get_or, drop}
use lib.Seq.{get_or-take, get_or-drop}
use Rattle.std.specs.List.{slice_range}
use Rattle.automata.specs.Tree.{Automaton}
use Rattle.lookup.specs.Alts.{table_automaton}
use Rattle.meeting.specs.declared.Level.{Level}
use Rattle.meeting.specs.Met.{is_met}
use Rattle.meeting.specs.All.{all_met}
use Rattle.meeting.proofs.MetLaws.{Same, met_same}
use Rattle.sharing.specs.Shared.{has_choice}
use Rattle.stepping.specs.Step.{kids_in, Gone}
use Rattle.matching.specs.Seeking.{twins, sought, tried}
use Rattle.matching.proofs.Words.{any_ext}
use Rattle.matching.proofs.Turns.{no_attempt, attempt_fails, attempt_goes}
use Rattle.relating.specs.Found.{plane_of, found}
use Rattle.relating.specs.Planes.{Copied, Room, Added}
use Rattle.relating.proofs.Cells.{plane_cell, same-cells, sought-same}
use Rattle.relating.proofs.Copies.{not-added, added}
use Rattle.relating.proofs.Relations.{below_tells, below-is}
use Rattle.batching.specs.Batch.{Wise, Stands, Joined, Whole}

-- ---- one plane more, or one that has the words already
module _ {plane wide q : ℕ} {l : Level} {stack row : List ℕ} where
  pub joined_old : l.from * wide ≤ l.to * wide → Stands stack plane q row (l.from * wide) (l.to * wide - l.from * wide) → Joined plane wide stack q row l stack q
  joined_old le w = record {
    added = not-added;
    which = w.which;
    before = w.before;
    same = λ i lo hi.
        let e : w.which * plane + l.from * wide + (i - l.from * wide) ≡ w.which * plane + i = omega arith in
        let f : l.from * wide + (i - l.from * wide) ≡ i = omega arith in
        ap (λ (x : ℕ). get_or stack x 0) (sym e) ∙ w.same (i - l.from * wide) (omega arith) ∙ ap (λ (x : ℕ). get_or row x 0) f;
  }

  pub joined_new : {size scratch : ℕ} {stack' : List ℕ} → Room plane size q wide l scratch
      → Copied row (l.from * wide) stack (q * plane + l.from * wide) (l.to * wide - l.from * wide) stack' → Joined plane wide stack q row l stack' (q + 1)
  joined_new t w = let a = added t w in record { added = a; which = q; before = omega arith; same = λ i lo hi. a.taken (omega arith) i lo hi }

module _ {plane wide q r : ℕ} {l : Level} {stack row stack' : List ℕ} (narrow : l.stop ≤ wide * 32) (long : l.to * wide ≤ plane) where
  -- what is found from the row is found
  pub joined-found : (S E : Automaton ℕ) (word : List ℕ) (at m : ℕ) → Joined plane wide stack q row l stack' r → sought S E word at m wide row l ≡ true → found S E word at m wide plane stack' r l ≡ true
  joined-found S E word at m w h =
      below-is r (λ j. sought S E word at m wide (plane_of plane stack' j) l) w.which w.before
      (sought-same S E word at m l (same-cells narrow (λ i lo hi. plane_cell plane stack' w.which i (omega arith) ∙ w.same i lo hi)) ∙ h)

  -- what was found before is found
  pub added-keeps : (S E : Automaton ℕ) (word : List ℕ) (at m : ℕ) → Added plane wide stack q row l stack' r → found S E word at m wide plane stack q l ≡ true → found S E word at m wide plane stack' r l ≡ true
  added-keeps S E word at m w h =
      let t = below_tells q (λ j. sought S E word at m wide (plane_of plane stack j) l) h in
      below-is r (λ j. sought S E word at m wide (plane_of plane stack' j) l) t.0 (omega (arith, t.1, w.least))
      (sought-same S E word at m l (same-cells narrow (λ i lo hi.
      plane_cell plane stack' t.0 i (omega arith) ∙ w.others t.0 i (omega arith) (λ e. omega (arith, t.1)) ∙ sym (plane_cell plane stack t.0 i (omega arith))))
      ∙ t.2)

-- ---- marks of other levels do not matter
pub tried-marks : (S E : Automaton ℕ) (word : List ℕ) (at m d : ℕ) {wide : ℕ} {met met' : List ℕ} (l : Level) → Same wide met met' l → tried S E word at m d wide met' l ≡ tried S E word at m d wide met l
tried-marks S E word at m d {wide} {met} {met'} l w =
    any_ext (suc m) (λ v. all_met (twins S E word at (suc m) (d ∷ v)) wide met' l) (λ v. all_met (twins S E word at (suc m) (d ∷ v)) wide met l)
    (λ v. met_same (twins S E word at (suc m) (d ∷ v)) (twins S E word at (suc m) (d ∷ v)) wide met met' l w (λ s e on. refl))

-- the step by the word's choice
gone : (rows masks first end_rows end_masks end_first : List ℕ) (c d : ℕ) {wide : ℕ} {met : List ℕ} (l : Level) {next : Level} {met' : List ℕ} {b : Bool}
    → Gone wide met next (λ h. all_met (kids_in rows masks first end_rows end_masks end_first c d h) wide met l) met' b → (word : List ℕ) (at : ℕ) → get_or word at 0 ≡ c
    → Gone wide met next (λ h. all_met (kids_in rows masks first end_rows end_masks end_first (get_or word at 0) d h) wide met l) met' b
gone rows masks first end_rows end_masks end_first c d {wide} {met} l {next} {met'} {b} g word at e =
    subst (λ (x : ℕ). Gone wide met next (λ h. all_met (kids_in rows masks first end_rows end_masks end_first x d h) wide met l) met' b) (sym e) g

-- ---- one choice
module _ {rows masks first end_rows end_masks end_first : List ℕ} {c wide plane : ℕ} {may stack : List ℕ} {q : ℕ} {met : List ℕ} {l next : Level} where
  -- no choice was tried yet
  pub whole-none : (from : ℕ) → Whole rows masks first end_rows end_masks end_first c wide plane may stack q met l next from from stack q
  whole-none from = record { keeps = λ S E word at m h. h; each = λ coefs end_coefs word at m e w d lo hi h. absurd (omega arith) }

  -- a choice that leads to no word
  vain : (d : ℕ)
      → ((coefs end_coefs : List ℤ) (word : List ℕ) (at m : ℕ) → get_or word at 0 ≡ c → Wise (table_automaton rows masks coefs first) (table_automaton end_rows end_masks end_coefs end_first) word (at + 1) m wide may next
      → false ≡ tried (table_automaton rows masks coefs first) (table_automaton end_rows end_masks end_coefs end_first) word at m d wide met l)
      → Whole rows masks first end_rows end_masks end_first c wide plane may stack q met l next d (d + 1) stack q
  vain d none = record {
    keeps = λ S E word at m h. h;
    each = λ coefs end_coefs word at m e w b lo hi h.
        let same : b ≡ d = omega arith in
        absurd (false≢true (none coefs end_coefs word at m e w
        ∙ ap (λ (x : ℕ). tried (table_automaton rows masks coefs first) (table_automaton end_rows end_masks end_coefs end_first) word at m x wide met l) (sym same) ∙ h));
  }

  module _ (d : ℕ) {met' : List ℕ} {b : Bool} (g : Gone wide met next (λ h. all_met (kids_in rows masks first end_rows end_masks end_first c d h) wide met l) met' b) where
    -- the step fails
    pub whole-failed : b ≡ false → Whole rows masks first end_rows end_masks end_first c wide plane may stack q met l next d (d + 1) stack q
    whole-failed f =
        vain d (λ coefs end_coefs word at m e w. attempt_fails rows masks coefs first end_rows end_masks end_coefs end_first word at m d wide met l (gone rows masks first end_rows end_masks end_first c d l g word at e) f)

    -- a pair could not match
    pub whole_unmarked : b ≡ true → all_met (is_met wide may) wide met' next ≡ false → Whole rows masks first end_rows end_masks end_first c wide plane may stack q met l next d (d + 1) stack q
    whole_unmarked t f =
        vain d (λ coefs end_coefs word at m e w. w.each met' f ∙ attempt_goes rows masks coefs first end_rows end_masks end_coefs end_first word at m d wide met l (gone rows masks first end_rows end_masks end_first c d l g word at e) t)

    -- the relation is there
    pub whole-joined : {stack' : List ℕ} {r : ℕ} → next.stop ≤ wide * 32 → next.to * wide ≤ plane → b ≡ true → Joined plane wide stack q met' next stack' r
        → Whole rows masks first end_rows end_masks end_first c wide plane may stack q met l next d (d + 1) stack' r
    whole-joined narrow long t w = record {
      keeps = λ S E word at m h. added-keeps narrow long S E word at m w.added h;
      each = λ coefs end_coefs word at m e k x lo hi h.
          let same : x ≡ d = omega arith in
          joined-found narrow long (table_automaton rows masks coefs first) (table_automaton end_rows end_masks end_coefs end_first) word (at + 1) m w
          (attempt_goes rows masks coefs first end_rows end_masks end_coefs end_first word at m d wide met l (gone rows masks first end_rows end_masks end_first c d l g word at e) t
          ∙ ap (λ (x : ℕ). tried (table_automaton rows masks coefs first) (table_automaton end_rows end_masks end_coefs end_first) word at m x wide met l) (sym same) ∙ h);
    }

-- ---- choice after choice
module _ {rows masks first end_rows end_masks end_first : List ℕ} {c wide plane : ℕ} {may stack : List ℕ} {q : ℕ} {met : List ℕ} {l next : Level} where
  -- the same of another row with the relation
  pub whole_from : {met' stack' : List ℕ} {from to r : ℕ} → Same wide met met' l → Whole rows masks first end_rows end_masks end_first c wide plane may stack q met' l next from to stack' r
      → Whole rows masks first end_rows end_masks end_first c wide plane may stack q met l next from to stack' r
  whole_from s w = record {
    keeps = w.keeps;
    each = λ coefs end_coefs word at m e k d lo hi h.
        w.each coefs end_coefs word at m e k d lo hi (tried-marks (table_automaton rows masks coefs first) (table_automaton end_rows end_masks end_coefs end_first) word at m d l s ∙ h);
  }

  -- choices that not all end states have lead to no word
  pub whole_skip : {stack' : List ℕ} {from to r : ℕ} (till : ℕ) → ((d : ℕ) → to ≤ d → d < till → all_met (has_choice end_masks end_first d) wide met l ≡ false)
      → Whole rows masks first end_rows end_masks end_first c wide plane may stack q met l next from to stack' r
      → Whole rows masks first end_rows end_masks end_first c wide plane may stack q met l next from till stack' r
  whole_skip {stack' = stack'} {to = to} {r = r} till none a =
      record { keeps = a.keeps; each = λ coefs end_coefs word at m e k d lo hi h. go coefs end_coefs word at m d hi h (λ lt. a.each coefs end_coefs word at m e k d lo lt h) (dec_lt d to) }
    where
      go : (coefs end_coefs : List ℤ) (word : List ℕ) (at m d : ℕ) → d < till
          → tried (table_automaton rows masks coefs first) (table_automaton end_rows end_masks end_coefs end_first) word at m d wide met l ≡ true
          → (d < to → found (table_automaton rows masks coefs first) (table_automaton end_rows end_masks end_coefs end_first) word (at + 1) m wide plane stack' r next ≡ true) → Dec (d < to)
          → found (table_automaton rows masks coefs first) (table_automaton end_rows end_masks end_coefs end_first) word (at + 1) m wide plane stack' r next ≡ true
      go coefs end_coefs word at m d hi h old (yes lt) = old lt
      go coefs end_coefs word at m d hi h old (no ge) =
          absurd (false≢true (no_attempt rows masks coefs first end_rows end_masks end_coefs end_first word at m d wide met l (none d (omega arith) hi) ∙ h))

  pub whole_on : {mid stack' : List ℕ} {from to r r' : ℕ} → Whole rows masks first end_rows end_masks end_first c wide plane may stack q met l next from to mid r
      → Whole rows masks first end_rows end_masks end_first c wide plane may mid r met l next to (to + 1) stack' r'
      → Whole rows masks first end_rows end_masks end_first c wide plane may stack q met l next from (to + 1) stack' r'
  whole_on {stack' = stack'} {from = from} {to = to} {r' = r'} a b = record {
    keeps = λ S E word at m h. b.keeps S E word at m (a.keeps S E word at m h);
    each = λ coefs end_coefs word at m e k d lo hi h. go coefs end_coefs word at m e k d lo hi h (dec_lt d to);
  }
    where
      go : (coefs end_coefs : List ℤ) (word : List ℕ) (at m : ℕ) → get_or word at 0 ≡ c
          → Wise (table_automaton rows masks coefs first) (table_automaton end_rows end_masks end_coefs end_first) word (at + 1) m wide may next
          → (d : ℕ) → from ≤ d → d < to + 1 → tried (table_automaton rows masks coefs first) (table_automaton end_rows end_masks end_coefs end_first) word at m d wide met l ≡ true → Dec (d < to)
          → found (table_automaton rows masks coefs first) (table_automaton end_rows end_masks end_coefs end_first) word (at + 1) m wide plane stack' r' next ≡ true
      go coefs end_coefs word at m e k d lo hi h (yes lt) =
          b.keeps (table_automaton rows masks coefs first) (table_automaton end_rows end_masks end_coefs end_first) word (at + 1) m (a.each coefs end_coefs word at m e k d lo lt h)
      go coefs end_coefs word at m e k d lo hi h (no ge) = b.each coefs end_coefs word at m e k d (omega arith) hi h

-- ---- words that are the same
-- a word of a part
part_word : (words : List ℕ) (at count i : ℕ) → i < count → get_or (slice_range words at (at + count)) i 0 ≡ get_or words (at + i) 0
part_word words at count i lt =
    let few : i < at + count - at = omega arith in
    get_or-take (at + count - at) (drop at words) i 0 few ∙ get_or-drop at words i 0

pub same_parts : (words others : List ℕ) (plane j at : ℕ) {start : ℕ} (there count : ℕ) → start ≡ j * plane + at → slice_range words start (start + count) ≡ slice_range others there (there + count)
    → (i : ℕ) → i < count → get_or words (j * plane + at + i) 0 ≡ get_or others (there + i) 0
same_parts words others plane j at {start} there count e same i lt =
    ap (λ (x : ℕ). get_or words (x + i) 0) (sym e)
    ∙ sym (part_word words start count i lt) ∙ ap (λ (s : List ℕ). get_or s i 0) same ∙ part_word others there count i lt
