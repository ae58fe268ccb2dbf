-- Tables that hold well-formed sets give all that the functions on relations ask of a level. Assumes nothing.
use mathlib.Core.Path.{◌≡◌}
use mathlib.Core.List.{List}
use Prim.Native.Nat.{ℕ, suc, ◌+◌, ◌*◌, ◌<◌, ◌≤◌}
use native.Mathlib.Omega.{arith}
use lib.IntN.{ℤ}
use lib.ListN.{replicate, length-replicate, get_or-replicate}
use Rattle.meeting.specs.declared.Level.{Level}
use Rattle.fitting.specs.Fit.{LeafStage}
use Rattle.stepping.specs.Step.{Stage}
use Rattle.matching.specs.Levels.{start_of, IsLevel}
use Rattle.matching.specs.Seeking.{Lent, Seeking}
use Rattle.matching.proofs.LevelLaws.{start-zero}
use Rattle.matching.proofs.Turns.{small-level, long-level, leaf-stage, stage}
use Rattle.relating.specs.Related.{Related}
use Rattle.relating.specs.Roots.{Rooted}

-- the search's own record asks for a word: any will do
abbrev no_word : ℕ → List ℕ
no_word n = replicate (n + 1) 0

module _ {rows masks : List ℕ} {coefs : List ℤ} {counts first end_rows end_masks : List ℕ} {end_coefs : List ℤ} {end_counts end_first : List ℕ} {wide plane n : ℕ}
    (t : Related rows masks coefs counts first end_rows end_masks end_coefs end_counts end_first wide plane n) where
  lent : Lent rows masks coefs counts first end_rows end_masks end_coefs end_counts end_first (no_word n) wide plane n
  lent = record {
    image = t.image;
    ends = t.ends;
    letters = omega (arith, length-replicate {A = ℕ} (n + 1) 0);
    small = λ i le. let lt : i < n + 1 = omega arith in rw (get_or-replicate {A = ℕ} (n + 1) i 0 0 lt) (omega arith);
    long = t.long;
    narrow = t.narrow;
  }

  pub seeking : (at m : ℕ) {l : Level} → at + m ≡ n → IsLevel counts end_counts at l → Seeking rows masks coefs counts first end_rows end_masks end_coefs end_counts end_first (no_word n) wide plane at m l
  seeking at m e is = record { lent = rw e lent; here = is }

  -- the same of a row of another length
  pub sized : (size : ℕ) → start_of counts (suc n) * wide ≤ size → Related rows masks coefs counts first end_rows end_masks end_coefs end_counts end_first wide size n
  sized size h = record { image = t.image; ends = t.ends; long = h; narrow = t.narrow }

module _ {rows masks : List ℕ} {coefs : List ℤ} {counts first end_rows end_masks : List ℕ} {end_coefs : List ℤ} {end_counts end_first : List ℕ} {wide plane n : ℕ}
    (t : Related rows masks coefs counts first end_rows end_masks end_coefs end_counts end_first wide plane n) where
  -- the last level, as `leads` asks for it
  pub last_level : {l : Level} → IsLevel counts end_counts n l → LeafStage rows masks coefs first end_rows end_masks end_coefs end_first wide plane l
  last_level is = leaf-stage (seeking t n 0 (omega arith) is)

  -- one level and the next
  pub two-levels : (at m : ℕ) {l next : Level} → at + suc m ≡ n → IsLevel counts end_counts at l → IsLevel counts end_counts (at + 1) next → Stage rows masks first end_rows end_masks end_first wide plane l next
  two-levels at m e is is' = stage m (seeking t at (suc m) e is) is'

  -- level 1, as the first relations ask for it
  pub first-level : {l : Level} {may root : ℕ} → IsLevel counts end_counts 0 l → start_of counts (suc n) * wide ≤ may → root < l.to → Rooted plane wide may root l
  first-level {may = may} is h lt = record {
    after = omega (arith, is.from, start-zero counts);
    before = lt;
    long = long-level n (seeking t 0 n (omega arith) is);
    fits = long-level n (seeking (sized t may h) 0 n (omega arith) is);
    narrow = small-level n (seeking t 0 n (omega arith) is);
  }
