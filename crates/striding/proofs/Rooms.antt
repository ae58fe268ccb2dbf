-- The buffers, as they are shared out, have room for all pairs, planes and slots. Assumes nothing.
use mathlib.Core.Path.{◌≡◌, sym, ap, ◌∙◌}
use mathlib.Core.List.{List, [], ◌∷◌}
use Prim.Native.Nat.{ℕ, zero, suc, ◌+◌, ◌*◌, ◌/◌, ◌%◌, min, ◌<◌, ◌≤◌}
use native.Mathlib.Nat.{mul-le-mul_right}
use native.Mathlib.Omega.{arith}
use lib.IntN.{ℤ}
use native.Mathlib.Numerals.{add-one}
use lib.ListN.{length, get_or, take, replicate, length-replicate}
use Rattle.std.specs.List.{sum}
use Rattle.std.proofs.Math.Seq.{take-suc}
use Rattle.std.proofs.lemmas.List.Sums.{sum_by-append}
use Rattle.matching.proofs.LevelLaws.{start-zero, start-next}
use Rattle.matching.specs.Levels.{start_of}
use Rattle.matching.proofs.Grounds.{level-there}
use Rattle.foreseeing.specs.Foresee.{Both as Foreseen}
use Rattle.std.specs.Prelude.{Option}
use Rattle.std.specs.declared.option.Option.TheVariants.{Some, None}
use Rattle.remembering.specs.declared.Seen.{Seen}
use Rattle.remembering.proofs.MemoryLaws.{nothing}
use Rattle.walking.specs.Walk.{Both}
use Rattle.blocks.specs.Good.{good}
use Rattle.blocks.specs.Block.{row_cells, Started}
use Rattle.striding.specs.Lodged.{Lodged, Shared}

-- the states of the levels before a level, one by one
pub start-sum : (counts : List ℕ) (k : ℕ) → k ≤ length counts → sum (take k counts) ≡ start_of counts k
start-sum counts zero h = sym (start-zero counts)
start-sum counts (suc k) h =
    ap sum (take-suc counts k 0 (omega arith))
    ∙ sum_by-append (λ (x : ℕ). x) (take k counts) (get_or counts k 0 ∷ [])
    ∙ omega (arith, start-sum counts k (omega arith), start-next counts k)

-- so many words to a state of the image: one for each 32 end states
module _ {x w e states ends : ℕ} (is : x ≡ states) (are : e ≡ ends) (words : w ≡ e / 32 + min 1 (e % 32)) (narrow : ends ≤ 128) where
  few_words : w ≤ 4
  few_words = omega arith

  pub plane_small : states ≤ 1024 → x * w ≤ 4096
  plane_small h = let le : x ≤ 1024 = omega arith in omega (arith, mul-le-mul_right w le, few_words)

  pub shared_out : {room slots : ℕ} → states ≤ 1024 → (x * w ≤ 16384 → 0 < room) → room * (x * w) ≤ 16384 → slots ≤ 16 → slots * (room * (x * w)) ≤ 16384 → Shared states ends w (x * w) room slots
  shared_out small some h most k = record { narrow = omega arith; few = few_words; is = ap (λ (i : ℕ). i * w) is; some = some (omega (arith, plane_small small)); planes = h; most = most; stacks = k }

module _ {rows masks : List ℕ} {coefs : List ℤ} {counts first end_rows end_masks : List ℕ} {end_coefs : List ℤ} {end_counts end_first : List ℕ} {met stack kept hints n : ℕ} (g : Lodged rows masks coefs counts first end_rows end_masks end_coefs end_counts end_first met stack kept hints n) where
  pub states_are : sum (take (n + 1) counts) ≡ start_of counts (suc n)
  states_are = ap (λ (k : ℕ). sum (take k counts)) (add-one n) ∙ start-sum counts (suc n) (omega (arith, level-there g.image n (omega arith)))

  pub ends_are : sum (take (n + 1) end_counts) ≡ start_of end_counts (suc n)
  ends_are = ap (λ (k : ℕ). sum (take k end_counts)) (add-one n) ∙ start-sum end_counts (suc n) (omega (arith, level-there g.ends n (omega arith)))

  module _ {wide plane room slots : ℕ} (h : Shared (start_of counts (suc n)) (start_of end_counts (suc n)) wide plane room slots) where
    pub pairs_fit : start_of counts (suc n) * wide ≤ 4096
    pairs_fit = omega (arith, mul-le-mul_right wide g.small, h.few)

    pub foresee_asked : {size : ℕ} → size ≡ 4096 → Foreseen rows masks coefs counts first end_rows end_masks end_coefs end_counts end_first wide size n
    foresee_asked e = record { image = g.image; ends = g.ends; long = omega (arith, pairs_fit); narrow = h.narrow }

    abbrev pub both_lodged : {may cells : ℕ} → may ≡ 4096 → cells ≡ 1024 → Both rows masks coefs counts first end_rows end_masks end_coefs end_counts end_first wide may cells n
    both_lodged e f = record {
      image = g.image;
      ends = g.ends;
      hinted = omega (arith, pairs_fit);
      narrow = h.narrow;
      celled = omega (arith, g.small);
    }

pub started_lodged : {rows masks : List ℕ} {coefs : List ℤ} {counts first end_rows end_masks : List ℕ} {end_coefs : List ℤ} {end_counts end_first : List ℕ} {met stack n wide plane room slots : ℕ} {kept hints : List ℕ} (g : Lodged rows masks coefs counts first end_rows end_masks end_coefs end_counts end_first met stack (length kept) (length hints) n)
    → Shared (start_of counts (suc n)) (start_of end_counts (suc n)) wide plane room slots → {free may turn cells : ℕ}
    → free ≡ 4096 → may ≡ 4096 → turn ≡ 21 → cells ≡ 1024 → Started rows masks coefs counts first end_rows end_masks end_coefs end_counts end_first wide plane room slots n (replicate 336 None) hints kept free may met stack turn cells
started_lodged {rows} {masks} {coefs} {counts} {first} {end_rows} {end_masks} {end_coefs} {end_counts} {end_first} {n = n} {wide = wide} {plane = plane} {room = room} {slots = slots} {kept = kept} {hints = hints} g h e₁ e₂ e₃ e₄ =
    let pairs = pairs_fit g h in
    record {
      both = both_lodged g h e₂ e₄;
      sized = record {
        long = omega (arith, h.is);
        some = h.some;
        flat = omega (arith, h.is, pairs);
        spare = omega (arith, h.is, pairs, g.marks);
        batches = omega (arith, h.planes, g.marks);
        hinted = omega (arith, pairs);
        planes = omega (arith, h.planes, g.planes);
        short = g.small;
        in_kept = omega (arith, h.stacks, g.slots);
        in_hints = omega (arith, h.most, g.cells);
        in_seen = omega (arith, h.most, length-replicate {A = Option Seen} 336 None);
        turns = omega arith;
      };
      memory = nothing wide plane room row_cells slots (start_of counts) (good rows masks coefs counts first end_rows end_masks end_coefs end_counts end_first wide plane n) 336 hints kept (omega (arith, h.most));
    }
