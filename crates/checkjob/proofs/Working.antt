-- Slices of just their named sizes are what the check asks, over the bounds of every set; and what is left in them is what the job's definitions say.
-- Assumes nothing.
use mathlib.Core.Path.{◌≡◌, refl, ap, ap₂, ◌∙◌}
use mathlib.Core.List.{List, ◌∷◌, ◌++◌}
use Prim.Native.Nat.{ℕ}
use native.Mathlib.Omega.{arith}
use lib.ListN.{take, drop, replicate}
use lib.Seq.{length-take-le}
use Rattle.jobs.specs.Buffers.{Buffer, unsigned, zeroed, wiped_all}
use Rattle.jobs.specs.Check.{check_answer}
use Rattle.replies.specs.declared.Fields.{Fields}
use Rattle.replies.specs.Replied.{reply_from}
use Rattle.building.specs.declared.Room.{Room}
use Rattle.applying.specs.Result.{bounds_from}
use Rattle.buffers.specs.Sizes.{marks_size, hints_size, MarksSized}
use Rattle.deciding.specs.Decided.{checked_by}
use Rattle.deciding.proofs.Judging.{as_checked}
use Rattle.checking.specs.Asked.{Checking}
use Rattle.checkjob.specs.Sizes.{check_sizes, check_lent, Long}

abbrev pub room_of : ℕ → Room
room_of states = record { inner = 2048; leaves = 1024; states = states }

module _ {met stack kept hints : List ℕ} where
  sized : MarksSized met stack kept hints → Checking met stack kept hints (room_of 1024) (room_of 128)
  sized m = record {
    start = record { states = omega arith; records = omega arith; leaves = omega arith };
    end = record { states = omega arith; records = omega arith; leaves = omega arith };
    narrow = omega arith;
    rows = record { met_long = omega (arith, m.met_long); stack_long = omega (arith, m.stack_long); kept_long = omega (arith, m.kept_long); hints_long = omega (arith, m.hints_long) };
  }

  pub may_check : {room endroom : Room} → room ≡ room_of 1024 → endroom ≡ room_of 128 → MarksSized met stack kept hints → Checking met stack kept hints room endroom
  may_check r q m = rw (r, q) (sized m)

pub is-answer : (s c e : List ℕ) (most : ℕ) (room endroom : Room) {r : Fields} → room ≡ room_of 1024 → endroom ≡ room_of 128
    → r ≡ reply_from (checked_by (bounds_from room) (bounds_from endroom) s c e most) → r ≡ reply_from (check_answer s c e most)
is-answer s c e most room endroom h k i =
    i ∙ ap₂ (λ (x y : Room). reply_from (checked_by (bounds_from x) (bounds_from y) s c e most)) h k ∙ ap reply_from (as_checked s c e most)

-- a row that came back as long as its named size, and was wiped
pub wiped-whole : {w : List ℕ} {m l n : ℕ} → w ≡ replicate m 0 → m ≡ l → l ≡ n → w ≡ replicate n 0
wiped-whole e h k = e ∙ ap (λ (n : ℕ). replicate n 0) (h ∙ k)

-- ---- the front of a buffer, lent and back
pub fronts_sized : {met stack kept hints : List ℕ} → Long met stack kept hints → MarksSized (take marks_size met) (take marks_size stack) (take marks_size kept) (take hints_size hints)
fronts_sized {met} {stack} {kept} {hints} l = record {
  met_long = length-take-le marks_size met l.met_long;
  stack_long = length-take-le marks_size stack l.stack_long;
  kept_long = length-take-le marks_size kept l.kept_long;
  hints_long = length-take-le hints_size hints l.hints_long;
}

front : (n : ℕ) (l : List ℕ) {p : List ℕ} → p ≡ replicate n 0 → unsigned (p ++ drop n l) ≡ unsigned (zeroed 0 n l)
front n l e = ap (λ (q : List ℕ). unsigned (q ++ drop n l)) e

also : {x y : Buffer} {xs ys : List Buffer} → x ≡ y → xs ≡ ys → x ∷ xs ≡ y ∷ ys
also e f = ap₂ (λ (b : Buffer) (bs : List Buffer). b ∷ bs) e f

pub fronts_wiped : (met stack kept hints : List ℕ) {met' stack' kept' hints' : List ℕ}
    → met' ≡ replicate marks_size 0 → stack' ≡ replicate marks_size 0 → kept' ≡ replicate marks_size 0 → hints' ≡ replicate hints_size 0
    → check_lent (met' ++ drop marks_size met) (stack' ++ drop marks_size stack) (kept' ++ drop marks_size kept) (hints' ++ drop hints_size hints)
    ≡ wiped_all check_sizes (check_lent met stack kept hints)
fronts_wiped met stack kept hints a b c d = also (front marks_size met a) (also (front marks_size stack b) (also (front marks_size kept c) (also (front hints_size hints d) refl)))
