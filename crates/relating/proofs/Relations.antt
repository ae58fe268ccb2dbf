-- What is found from several relations is found from one of them; and one level down from a relation, by any choice of the end set, leads to
-- nothing that is not found from it. Assumes nothing.
use mathlib.Core.Path.{◌≡◌, refl, sym, ap, ◌∙◌, subst}
use mathlib.Core.Bool.{Bool, true, false, false≢true, ◌&&◌}
use mathlib.Core.List.{List}
use mathlib.Core.Logic.{◌⊎◌, inl, inr}
use Prim.Native.Nat.{ℕ, suc, ◌+◌, ◌*◌, ◌<◌, ◌≤◌}
use native.Mathlib.Decide.{dec_lt}
use native.Mathlib.Omega.{arith}
use lib.Dec.{ltb}
use lib.IntN.{ℤ}
use lib.ListN.{get_or}
use borrow.Author.Tests.{ltb-true}
use Rattle.amplitude.proofs.Equal.{both}
use Rattle.automata.specs.Choice.{choices_most}
use Rattle.automata.specs.Members.{choices, up_to}
use Rattle.automata.specs.Tree.{Automaton}
use Rattle.automata.proofs.Lists.{up_to_mem, up_to_inv}
use Rattle.verdict.specs.Search.{fits_one}
use Rattle.verdict.proofs.Searching.{one_tells, one-is}
use Rattle.lookup.specs.Alts.{table_automaton}
use Rattle.meeting.specs.declared.Level.{Level}
use Rattle.meeting.specs.All.{all_met}
use Rattle.stepping.specs.Step.{kids_in, Gone}
use Rattle.fitting.specs.Fit.{leaves_in}
use Rattle.matching.specs.Seeking.{sought, tried}
use Rattle.matching.proofs.Turns.{seek_zero, seek_some, attempt_goes}
use Rattle.relating.specs.Found.{plane_of, any_below, found}
use Rattle.relating.specs.Planes.{Added}
use Rattle.relating.proofs.Cells.{plane_cell, same-cells, sought-same}

-- both tests of a loop hold
pub turning : (i to k most : ℕ) → ltb i to && ltb k most ≡ true → (i < to) × (k < most)
turning i to k most e = let p = both (ltb i to) (ltb k most) e in (ltb-true i to p.0, ltb-true k most p.1)

-- ---- some number below p
pub below_tells : (p : ℕ) (f : ℕ → Bool) → any_below p f ≡ true → (j : ℕ) × (j < p) × (f j ≡ true)
below_tells p f h =
    let r = one_tells f (up_to 0 p) h in
    (r.0, omega (arith, (up_to_inv p 0 r.0 r.1).1), r.2)

pub below-is : (p : ℕ) (f : ℕ → Bool) (j : ℕ) → j < p → f j ≡ true → any_below p f ≡ true
below-is p f j h e = one-is f (up_to 0 p) j (up_to_mem p 0 j (omega arith) (omega arith)) e

-- no number below p passes
pub below_none : (p : ℕ) (f : ℕ → Bool) → ((j : ℕ) → j < p → f j ≡ false) → false ≡ any_below p f
below_none p f none = go (any_below p f) refl
  where
    go : (b : Bool) → any_below p f ≡ b → false ≡ any_below p f
    go false e = sym e
    go true e = let t = below_tells p f e in absurd (false≢true (sym (none t.0 t.1) ∙ t.2))

pub none_on : (f : ℕ → Bool) {j : ℕ} → ((i : ℕ) → i < j → f i ≡ false) → f j ≡ false → (i : ℕ) → i < j + 1 → f i ≡ false
none_on f {j} none e i lt = go (dec_lt i j)
  where
    go : Dec (i < j) → f i ≡ false
    go (yes less) = none i less
    go (no more) = let same : i ≡ j = omega arith in ap f same ∙ e

-- ---- one plane more
module _ (S E : Automaton ℕ) (word : List ℕ) (at m : ℕ) {plane wide q r : ℕ} {stack row stack' : List ℕ} {l : Level} (narrow : l.stop ≤ wide * 32) (long : l.to * wide ≤ plane)
    (w : Added plane wide stack q row l stack' r) where
  same_old : (j : ℕ) → j < q → sought S E word at m wide (plane_of plane stack' j) l ≡ sought S E word at m wide (plane_of plane stack j) l
  same_old j h =
      sought-same S E word at m l (same-cells narrow (λ i lo hi.
      plane_cell plane stack' j i (omega arith) ∙ w.others j i (omega arith) (λ e. omega arith) ∙ sym (plane_cell plane stack j i (omega arith))))

  same_new : q < r → sought S E word at m wide (plane_of plane stack' q) l ≡ sought S E word at m wide row l
  same_new h = sought-same S E word at m l (same-cells narrow (λ i lo hi. plane_cell plane stack' q i (omega arith) ∙ w.taken h i lo hi))

  -- what is found then is found from the old planes, or from the row that was added
  pub found-more : found S E word at m wide plane stack' r l ≡ true → (found S E word at m wide plane stack q l ≡ true) ⊎ (sought S E word at m wide row l ≡ true)
  found-more h =
      let t = below_tells r (λ j. sought S E word at m wide (plane_of plane stack' j) l) h in
      go t.0 t.1 t.2 (dec_lt t.0 q)
    where
      go : (j : ℕ) → j < r → sought S E word at m wide (plane_of plane stack' j) l ≡ true → Dec (j < q)
          → (found S E word at m wide plane stack q l ≡ true) ⊎ (sought S E word at m wide row l ≡ true)
      go j lt k (yes old) = inl (below-is q (λ j. sought S E word at m wide (plane_of plane stack j) l) j old (sym (same_old j old) ∙ k))
      go j lt k (no new) =
          let least = w.least in
          let most = w.most in
          let e : j ≡ q = omega arith in
          let some : q < r = omega arith in
          inr (sym (same_new some) ∙ ap (λ (x : ℕ). sought S E word at m wide (plane_of plane stack' x) l) (sym e) ∙ k)

-- ---- on tables
module _ (rows masks : List ℕ) (coefs : List ℤ) (first end_rows end_masks : List ℕ) (end_coefs : List ℤ) (end_first : List ℕ) where
  abbrev S : Automaton ℕ
  S = table_automaton rows masks coefs first

  abbrev E : Automaton ℕ
  E = table_automaton end_rows end_masks end_coefs end_first

  -- the last level, by the image's choice c
  pub last_found : (c wide : ℕ) {met met' : List ℕ} (l : Level) {r : Bool} → met ≡ met'
      → r ≡ fits_one (λ d. all_met (leaves_in rows masks coefs first end_rows end_masks end_coefs end_first c d) wide met l) choices
      → (word : List ℕ) (at : ℕ) → get_or word at 0 ≡ c → r ≡ sought S E word at 0 wide met' l
  last_found c wide {met} {met'} l {r} lent e word at is =
      seek_zero rows masks coefs first end_rows end_masks end_coefs end_first word at 0 wide met l refl
      (e ∙ ap (λ (x : ℕ). fits_one (λ d. all_met (leaves_in rows masks coefs first end_rows end_masks end_coefs end_first x d) wide met l) choices) (sym is))
      ∙ ap (λ (row : List ℕ). sought S E word at 0 wide row l) lent

  -- one level down by the image's choice c and choice d of the end set
  pub step-sound : (c d wide : ℕ) (met : List ℕ) (l : Level) {next : Level} {met' : List ℕ} {r : Bool}
      → Gone wide met next (λ g. all_met (kids_in rows masks first end_rows end_masks end_first c d g) wide met l) met' r → r ≡ true → d < choices_most
      → (word : List ℕ) (at m : ℕ) → get_or word at 0 ≡ c → sought S E word (at + 1) m wide met' next ≡ true → sought S E word at (suc m) wide met l ≡ true
  step-sound c d wide met l {next} {met'} {r} g e lt word at m is h =
      let g' = subst (λ (x : ℕ). Gone wide met next (λ f. all_met (kids_in rows masks first end_rows end_masks end_first x d f) wide met l) met' r) (sym is) g in
      seek_some S E word at m wide met l
      ∙ one-is (λ d. tried S E word at m d wide met l) choices d (up_to_mem 32 0 d (omega arith) (omega arith))
      (sym (attempt_goes rows masks coefs first end_rows end_masks end_coefs end_first word at m d wide met l g' e) ∙ h)
