-- What is asked of the tables and rows holds at each call. Assumes nothing.
use mathlib.Core.Path.{◌≡◌}
use mathlib.Core.List.{List}
use Prim.Native.Nat.{ℕ, suc, ◌+◌, ◌*◌, ◌<◌, ◌≤◌}
use native.Mathlib.Nat.{mul-le-mul_right}
use native.Mathlib.Omega.{arith}
use lib.IntN.{ℤ}
use Rattle.meeting.specs.declared.Level.{Level}
use Rattle.meeting.specs.Met.{There}
use Rattle.meeting.proofs.Places.{words-before}
use Rattle.stepping.specs.Step.{Stage}
use Rattle.sharing.specs.Shared.{LevelOpen}
use Rattle.hinting.specs.Hint.{LevelThere}
use Rattle.matching.specs.Levels.{start_of, IsLevel}
use Rattle.matching.proofs.LevelLaws.{start-next}
use Rattle.relating.specs.Planes.{Room}
use Rattle.relating.specs.Related.{Related}
use Rattle.relating.proofs.Grounds.{sized, two-levels}
use Rattle.batching.specs.Fill.{Ground}

-- tables that hold well-formed sets
pub related_ground : {rows masks : List ℕ} {coefs : List ℤ} {counts first end_rows end_masks : List ℕ} {end_coefs : List ℤ} {end_counts end_first : List ℕ} {wide plane n may spare : ℕ} {l next : Level} (at m : ℕ)
    → Related rows masks coefs counts first end_rows end_masks end_coefs end_counts end_first wide plane n → at + suc m ≡ n → IsLevel counts end_counts at l → IsLevel counts end_counts (at + 1) next
    → start_of counts (suc n) * wide ≤ may → plane ≤ spare → Ground rows masks first end_rows end_masks end_first wide plane may spare l next
related_ground {counts = counts} {may = may} at m t e is is' h k = record {
  levels = omega (arith, is.from, is.to, start-next counts at);
  stage = two-levels t at m e is is';
  fits = (two-levels (sized t may h) at m e is is').long;
  long = k;
}

module _ {rows masks first end_rows end_masks end_first : List ℕ} {wide plane may spare : ℕ} {l next : Level} (t : Ground rows masks first end_rows end_masks end_first wide plane may spare l next) where
  pub ground-again : {spare' : ℕ} → spare' ≡ spare → Ground rows masks first end_rows end_masks end_first wide plane may spare' l next
  ground-again e = rw e t

  pub step_ground : Stage rows masks first end_rows end_masks end_first wide spare l next
  step_ground =
      let s = t.stage in
      record { below = s.below; levels = s.levels; small = s.small; long = omega (arith, s.long, t.long); narrow = s.narrow; image = s.image; ends = s.ends }

  next-there : (size : ℕ) → next.to * wide ≤ size → (s e : ℕ) → s < next.to → e < next.stop → There wide size s e
  next-there size h s e lt lt' = record { long = omega (arith, words-before wide s next.to lt); narrow = omega (arith, t.stage.narrow) }

  pub may_ground : LevelThere wide may spare next
  may_ground = record {
    each = λ s lo hi. record { each = λ e lo' hi'. (next-there may t.fits s e hi hi', next-there spare (omega (arith, t.stage.long, t.long)) s e hi hi') };
  }

  -- the level's words stand before the next level's
  pub level-long : l.to * wide ≤ plane
  level-long =
      let le : l.to ≤ next.to = omega (arith, t.stage.below, t.stage.levels) in
      omega (arith, mul-le-mul_right wide le, t.stage.long)

  pub shared_ground : LevelOpen end_masks end_first wide spare l
  shared_ground = record {
    each = λ s e lo hi lo' hi'. record {
      there = record { long = omega (arith, words-before wide s l.to hi, level-long, t.long); narrow = omega (arith, t.stage.small) };
      begun = (t.stage.ends e lo' hi').begun;
      long = (t.stage.ends e lo' hi').long;
    };
  }

  pub next-room : {size q : ℕ} → q * plane + plane ≤ size → Room plane size q wide next spare
  next-room h = record { high = h; levels = t.stage.levels; long = t.stage.long; fits = omega (arith, t.stage.long, t.long) }

  pub level-room : {size k : ℕ} → k * plane + plane ≤ size → Room plane size k wide l spare
  level-room h = record { high = h; levels = t.levels; long = level-long; fits = omega (arith, level-long, t.long) }
