-- Relations of the next level, one after the other: what is found from them is found from the relations that they come from. Assumes nothing.
use mathlib.Core.Path.{◌≡◌, refl, sym, ◌∙◌}
use mathlib.Core.Bool.{Bool, true, false, false≢true}
use mathlib.Core.List.{List}
use mathlib.Core.Logic.{inl, inr, ⊎_elim}
use Prim.Native.Nat.{ℕ, suc, ◌+◌, ◌*◌, ◌<◌, ◌≤◌}
use native.Mathlib.Nat.{mul-le-mul_right}
use native.Mathlib.Omega.{arith}
use lib.Dec.{eqb}
use lib.ListN.{length, get_or}
use borrow.Author.Tests.{eqb-true, eqb-false}
use Rattle.automata.specs.Choice.{choices_most}
use Rattle.automata.specs.Members.{up_to}
use Rattle.automata.specs.Tree.{Automaton}
use Rattle.lookup.specs.Alts.{table_automaton}
use Rattle.meeting.specs.declared.Level.{Level}
use Rattle.meeting.specs.All.{all_met}
use Rattle.meeting.proofs.MetLaws.{Same}
use Rattle.stepping.specs.Step.{kids_in, Kept, Gone}
use Rattle.stepping.proofs.Steps.{kept_same, kept_on}
use Rattle.matching.specs.Seeking.{sought}
use Rattle.matching.proofs.Words.{one_ext}
use Rattle.relating.specs.Found.{plane_of, found}
use Rattle.relating.specs.Planes.{Added}
use Rattle.relating.proofs.Cells.{plane_cell, same-cells, kept-marks, sought-same}
use Rattle.relating.proofs.Relations.{below-is, found-more, step-sound}
use Rattle.batching.specs.Fill.{Ground, Low, Grown, Filled}
use Rattle.batching.proofs.Grounds.{level-long}

-- ---- the level's words
pub low_same : (wide plane : ℕ) (l : Level) (stack : List ℕ) → Low wide plane l stack stack
low_same wide plane l stack = record { each = λ j i h. refl }

pub low_on : {wide plane : ℕ} {l : Level} {stack mid stack' : List ℕ} → Low wide plane l stack mid → Low wide plane l mid stack' → Low wide plane l stack stack'
low_on a b = record { each = λ j i h. b.each j i h ∙ a.each j i h }

-- the marks of the level are the same in each plane
pub low-marks : {wide plane : ℕ} {l : Level} {stack stack' : List ℕ} (j : ℕ) → l.stop ≤ wide * 32 → l.to * wide ≤ plane → Low wide plane l stack stack' → Same wide (plane_of plane stack j) (plane_of plane stack' j) l
low-marks {wide} {plane} {l} {stack} {stack'} j narrow long w =
    same-cells narrow (λ i lo hi. plane_cell plane stack' j i (omega arith) ∙ w.each j i hi ∙ sym (plane_cell plane stack j i (omega arith)))

-- the marks of the level are those of plane k
pub out_marks : {wide plane : ℕ} {l : Level} (stack row : List ℕ) (k : ℕ) → l.stop ≤ wide * 32 → l.to * wide ≤ plane
    → ((i : ℕ) → l.from * wide ≤ i → i < l.to * wide → get_or row i 0 ≡ get_or stack (k * plane + i) 0) → Same wide (plane_of plane stack k) row l
out_marks {plane = plane} stack row k narrow long w = same-cells narrow (λ i lo hi. w i lo hi ∙ sym (plane_cell plane stack k i (omega arith)))

-- ---- one choice
module _ {rows masks first end_rows end_masks end_first : List ℕ} {c wide plane : ℕ} {stack : List ℕ} {q : ℕ} {met : List ℕ} {l next : Level} where
  pub grown-none : (most : ℕ) → q ≤ most → Grown rows masks first end_rows end_masks end_first c wide plane stack q most met l next stack q
  grown-none most h = record { least = omega arith; few = h; low = low_same wide plane l stack; is = λ coefs end_coefs word at m e k. inl k }

  pub grown-step : {may spare d r : ℕ} {met' stack' : List ℕ} {b : Bool} → Ground rows masks first end_rows end_masks end_first wide plane may spare l next
      → Gone wide met next (λ g. all_met (kids_in rows masks first end_rows end_masks end_first c d g) wide met l) met' b → b ≡ true → d < choices_most
      → Added plane wide stack q met' next stack' r → Grown rows masks first end_rows end_masks end_first c wide plane stack q (q + 1) met l next stack' r
  grown-step {d = d} {stack' = stack'} t g e lt w = record {
    least = w.least;
    few = w.most;
    low = record { each = λ j i h. go j i h (eqb j q) refl };
    is = λ coefs end_coefs word at m f h.
        ⊎_elim inl (λ k. inr (step-sound rows masks coefs first end_rows end_masks end_coefs end_first c d wide met l g e lt word at m f k))
        (found-more (table_automaton rows masks coefs first) (table_automaton end_rows end_masks end_coefs end_first) word (at + 1) m t.stage.narrow t.stage.long w h);
  }
    where
      go : (j i : ℕ) → i < l.to * wide → (b : Bool) → eqb j q ≡ b → get_or stack' (j * plane + i) 0 ≡ get_or stack (j * plane + i) 0
      go j i h true k =
          let e = eqb-true j q k in
          let le = mul-le-mul_right wide t.stage.below in
          rw e (w.low i (omega arith))
      go j i h false k = let le = level-long t in w.others j i (omega arith) (eqb-false j q k)

-- ---- choice after choice, and relation after relation
module _ {rows masks first end_rows end_masks end_first : List ℕ} {c wide plane : ℕ} {stack : List ℕ} {q : ℕ} {met : List ℕ} {l next : Level} where
  -- the same of another row with the relation
  pub grown-from : {met' stack' : List ℕ} {room r : ℕ} → Same wide met met' l → Grown rows masks first end_rows end_masks end_first c wide plane stack q room met' l next stack' r
      → Grown rows masks first end_rows end_masks end_first c wide plane stack q room met l next stack' r
  grown-from s w = record {
    least = w.least;
    few = w.few;
    low = w.low;
    is = λ coefs end_coefs word at m e h.
        ⊎_elim inl (λ k. inr (sym (sought-same (table_automaton rows masks coefs first) (table_automaton end_rows end_masks end_coefs end_first) word at (suc m) l s) ∙ k)) (w.is coefs end_coefs word at m e h);
  }

  pub grown_on : {mid stack' : List ℕ} {room r r' : ℕ} → Grown rows masks first end_rows end_masks end_first c wide plane stack q room met l next mid r → r < room
      → Grown rows masks first end_rows end_masks end_first c wide plane mid r (r + 1) met l next stack' r' → Grown rows masks first end_rows end_masks end_first c wide plane stack q room met l next stack' r'
  grown_on a lt b = record {
    least = omega (arith, a.least, b.least);
    few = omega (arith, b.few);
    low = low_on a.low b.low;
    is = λ coefs end_coefs word at m e h. ⊎_elim (a.is coefs end_coefs word at m e) inr (b.is coefs end_coefs word at m e h);
  }

-- some choices were tried: the spare row has the relation still
pub record Trying (rows masks first end_rows end_masks end_first : List ℕ) (c wide plane : ℕ) (entry : List ℕ) (q room : ℕ) (met : List ℕ) (l next : Level) (stack row : List ℕ) (r : ℕ) : Type 0 where
  pub long : length stack ≡ length entry
  pub spare : length row ≡ length met
  pub kept : Kept wide met l.to row
  pub grown : Grown rows masks first end_rows end_masks end_first c wide plane entry q room met l next stack r

module _ {rows masks first end_rows end_masks end_first : List ℕ} {c wide plane : ℕ} {entry : List ℕ} {q room : ℕ} {met : List ℕ} {l next : Level} where
  pub tries : q ≤ room → Trying rows masks first end_rows end_masks end_first c wide plane entry q room met l next entry met q
  tries h = record { long = refl; spare = refl; kept = kept_same wide met l.to; grown = grown-none room h }

  pub tries_on : {stack row stack' row' : List ℕ} {r r' : ℕ} → Trying rows masks first end_rows end_masks end_first c wide plane entry q room met l next stack row r → r < room → l.stop ≤ wide * 32
      → length stack' ≡ length stack → length row' ≡ length row → Kept wide row l.to row' → Grown rows masks first end_rows end_masks end_first c wide plane stack r (r + 1) row l next stack' r'
      → Trying rows masks first end_rows end_masks end_first c wide plane entry q room met l next stack' row' r'
  tries_on t lt narrow e f k w = record { long = e ∙ t.long; spare = f ∙ t.spare; kept = kept_on t.kept k; grown = grown_on t.grown lt (grown-from (kept-marks narrow t.kept) w) }

module _ {rows masks first end_rows end_masks end_first : List ℕ} {c wide plane : ℕ} {stack : List ℕ} {p room : ℕ} {l next : Level} where
  pub filled_none : Filled rows masks first end_rows end_masks end_first c wide plane stack p room l next stack 0
  filled_none = record { few = omega arith; low = low_same wide plane l stack; sound = λ coefs end_coefs word at m e h. absurd (false≢true h) }

  pub filled_on : {mid stack' : List ℕ} {q r : ℕ} (k : ℕ) → k < p → l.stop ≤ wide * 32 → l.to * wide ≤ plane → Filled rows masks first end_rows end_masks end_first c wide plane stack p room l next mid q
      → Grown rows masks first end_rows end_masks end_first c wide plane mid q room (plane_of plane mid k) l next stack' r → Filled rows masks first end_rows end_masks end_first c wide plane stack p room l next stack' r
  filled_on k lt narrow long a b = record {
    few = b.few;
    low = low_on a.low b.low;
    sound = λ coefs end_coefs word at m e h.
        ⊎_elim (a.sound coefs end_coefs word at m e)
        (λ f. below-is p (λ j. sought (table_automaton rows masks coefs first) (table_automaton end_rows end_masks end_coefs end_first) word at (suc m) wide (plane_of plane stack j) l) k lt
        (sym (sought-same (table_automaton rows masks coefs first) (table_automaton end_rows end_masks end_coefs end_first) word at (suc m) l (low-marks k narrow long a.low)) ∙ f))
        (b.is coefs end_coefs word at m e h);
  }

-- ---- relations of a level stay while those of levels below change
pub low_less : {wide plane : ℕ} {l k : Level} {stack stack' : List ℕ} → k.to ≤ l.to → Low wide plane l stack stack' → Low wide plane k stack stack'
low_less {wide} le w = record { each = λ j i h. w.each j i (omega (arith, mul-le-mul_right wide le)) }

pub low-found : (S E : Automaton ℕ) (word : List ℕ) (at m : ℕ) {wide plane : ℕ} {l : Level} {stack stack' : List ℕ} (p : ℕ) → l.stop ≤ wide * 32 → l.to * wide ≤ plane → Low wide plane l stack stack'
    → found S E word at m wide plane stack' p l ≡ found S E word at m wide plane stack p l
low-found S E word at m {wide} {plane} {l} {stack} {stack'} p narrow long w =
    one_ext (λ j. sought S E word at m wide (plane_of plane stack' j) l) (λ j. sought S E word at m wide (plane_of plane stack j) l) (up_to 0 p)
    (λ j. sought-same S E word at m l (low-marks j narrow long w))
