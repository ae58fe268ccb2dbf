-- An input that is not refused holds its three parts, one after the other, and no more. Assumes nothing.
use mathlib.Core.Path.{◌≡◌, ◌∙◌}
use mathlib.Core.Bool.{Bool, true, false, ◌&&◌}
use mathlib.Core.List.{List}
use Prim.Native.Nat.{ℕ, ◌+◌, ◌-◌, ◌≤◌, ◌<◌}
use native.Mathlib.Omega.{arith}
use lib.ListN.{length, take, drop, length-drop}
use lib.Seq.{drop-drop, length-take-le}
use lib.Dec.{leb}
use borrow.Author.Tests.{eqb-true, le-leb, lt-leb}
use Rattle.amplitude.proofs.Equal.{both}
use Rattle.stored.specs.Fields.{u32_at, mark_at}
use Rattle.packing.proofs.Front.{tail_lent}
use Rattle.jobs.specs.Program.{fixed_size, part_most, input_ok}
use Rattle.lines.specs.Divided.{lengths_fit, Divided}

pub too_short : (s : List ℕ) → length s < fixed_size → input_ok s ≡ false
unfolding input_ok
too_short s h = rw (lt-leb fixed_size (length s) h)

-- the two tests of an input that has its first 18 bytes
pub long_enough : (s : List ℕ) → fixed_size ≤ length s
    → input_ok s ≡ (mark_at 74 66 s 0 && lengths_fit (length s) (u32_at s 6) (u32_at s 10) (u32_at s 14))
unfolding input_ok lengths_fit
long_enough s h = rw (le-leb fixed_size (length s) h)

-- an input that is not refused is 18 bytes plus the lengths
pub whole : (s : List ℕ) → input_ok s ≡ true → length s ≡ fixed_size + u32_at s 6 + u32_at s 10 + u32_at s 14
unfolding input_ok
whole s e =
    let a = both (leb fixed_size (length s)) _ e in
    let b = both (mark_at 74 66 s 0) _ a.1 in
    let c = both (leb (u32_at s 6) part_most) _ b.1 in
    let d = both (leb (u32_at s 10) part_most) _ c.1 in
    let f = both (leb (u32_at s 14) part_most) _ d.1 in
    eqb-true (length s) (fixed_size + u32_at s 6 + u32_at s 10 + u32_at s 14) f.1

-- what was read of an input that has its first 18 bytes, and the test of it
module _ (s : List ℕ) {start circuit end : ℕ} {mark fit : Bool} (long : fixed_size ≤ length s)
    (x : start ≡ u32_at s 6) (y : circuit ≡ u32_at s 10) (z : end ≡ u32_at s 14)
    (m : mark ≡ mark_at 74 66 s 0) (f : fit ≡ lengths_fit (length s) start circuit end) where
  pub judged : input_ok s ≡ (mark && fit)
  judged = rw (long_enough s long, m, f, x, y, z)

  module _ (marked : mark ≡ true) (fits : fit ≡ true) where
    taken : input_ok s ≡ true
    taken = judged ∙ rw (marked, fits)

    -- what follows the first 18 bytes
    abbrev rest : List ℕ
    rest = take (length s - fixed_size) (drop fixed_size s)

    pub first_within : start ≤ length rest
    first_within = rw (tail_lent s fixed_size, length-drop fixed_size s) (omega (arith, x, whole s taken))

    pub second_within : {left : List ℕ} → left ≡ drop start rest → circuit ≤ length left
    second_within e = rw (e, tail_lent s fixed_size, length-drop start (drop fixed_size s), length-drop fixed_size s) (omega (arith, x, y, whole s taken))

    pub divided : {most : ℕ} {one two three left : List ℕ} → most ≡ u32_at s 2 → left ≡ drop start rest
        → one ≡ take start rest → two ≡ take circuit left → three ≡ drop circuit left → Divided s most one two three
    divided {left = left} m l a b c =
        let front = tail_lent s fixed_size in
        record {
          good = taken;
          most = m;
          first = rw (a, front, x);
          second = rw (b, l, front, y, x, drop-drop (u32_at s 6) fixed_size s);
          last = rw (c, l, front, y, x, drop-drop (u32_at s 6) fixed_size s, drop-drop (u32_at s 10) (fixed_size + u32_at s 6) s);
          first_long = rw a (length-take-le start rest first_within) ∙ x;
          second_long = rw b (length-take-le circuit left (second_within l)) ∙ y;
        }
