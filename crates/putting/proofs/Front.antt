-- Bytes at the front of an output, and further bytes at the front of the tail that is lent on, are all of them at the front of the output.
-- Assumes nothing.
use mathlib.Core.Path.{◌≡◌, sym, ap, ◌∙◌}
use mathlib.Core.List.{List, ◌++◌, append_assoc, append-nil}
use Prim.Native.Nat.{ℕ, ◌+◌, ◌-◌, ◌≤◌}
use native.Mathlib.Omega.{arith}
use lib.ListN.{length, take, drop, length-append, length-drop}
use lib.Seq.{sets, sets-eq, drop-drop, drop-length, take_all, take_at, drop_at}
use borrow.Rule.Slice.PartMut.{put_mid, Post-is}
use Rattle.putting.specs.Front.{at_front}

pub front_long : (bytes out : List ℕ) → length bytes ≤ length out → length (at_front bytes out) ≡ length out
front_long bytes out h = length-append bytes (drop (length bytes) out) ∙ rw (length-drop (length bytes) out) (omega arith)

-- the tail that is lent
pub tail_lent : (out : List ℕ) (at : ℕ) → take (length out - at) (drop at out) ≡ drop at out
tail_lent out at = take_all (length out - at) (drop at out) (omega (arith, length-drop at out))

pub tail_long : (out : List ℕ) (at : ℕ) → length (take (length out - at) (drop at out)) ≡ length out - at
tail_long out at = ap length (tail_lent out at) ∙ length-drop at out

tail_back : (out ys : List ℕ) (at : ℕ) → at ≤ length out → put_mid at (length out - at) out ys ≡ take at out ++ ys
tail_back out ys at h = rw (Post-is at (length out) out h, drop-length out, append-nil ys)

-- `first` at the front, and then `more` at the front of the tail
pub lent_on : (entry first more : List ℕ) {out ys : List ℕ} {at : ℕ} → at ≡ length first → length first ≤ length entry
    → out ≡ at_front first entry → ys ≡ at_front more (take (length out - at) (drop at out))
    → put_mid at (length out - at) out ys ≡ at_front (first ++ more) entry
lent_on entry first more {out} {ys} {at} e h f g =
    let rest : drop at out ≡ drop (length first) entry = rw f (drop_at first (drop (length first) entry) at (sym e)) in
    let front : take at out ≡ first = rw f (take_at first (drop (length first) entry) at (sym e)) in
    let long : at ≤ length out = omega (arith, ap length f, front_long first entry h) in
    let written : ys ≡ more ++ drop (length (first ++ more)) entry =
    g ∙ rw (tail_lent out at, rest, drop-drop (length more) (length first) entry, length-append first more) in
    tail_back out ys at long ∙ rw (front, written, append_assoc first more)
