-- What is put at the front, and then at the front of the tail, is put at the front as one; its length and its bound are the sums. Assumes
-- nothing.
use mathlib.Core.Path.{◌≡◌, refl, ap, subst, ◌∙◌}
use mathlib.Core.List.{List, ◌++◌}
use Prim.Native.Nat.{ℕ, ◌+◌, ◌-◌, ◌≤◌}
use native.Mathlib.Omega.{arith}
use lib.ListN.{length, take, drop, length-append}
use borrow.Rule.Slice.PartMut.{put_mid}
use Rattle.packing.specs.Written.{at_front}
use Rattle.packing.proofs.Front.{front_long, lent_on}
use Rattle.lines.specs.Put.{Put}

-- all of a list was put
pub put_whole : (bytes entry : List ℕ) {out : List ℕ} → out ≡ at_front bytes entry → Put bytes (length bytes) entry out (length bytes)
put_whole bytes entry e = record { count = refl; few = omega arith; front = e }

module _ {bytes entry out : List ℕ} {most r : ℕ} (p : Put bytes most entry out r) where
  pub put-long : most ≤ length entry → length out ≡ length entry
  put-long h = ap length p.front ∙ front_long bytes entry (omega (arith, p.count, p.few))

  -- the same bytes, with another bound, or written otherwise
  pub put_less : (k : ℕ) → r ≤ k → Put bytes k entry out r
  put_less k h = record { count = p.count; few = h; front = p.front }

  pub put_as : {other : List ℕ} → bytes ≡ other → Put other most entry out r
  put_as e = subst (λ (l : List ℕ). Put l most entry out r) e p

  -- further bytes in the tail
  pub put_on : {more ys : List ℕ} {k n : ℕ} → most ≤ length entry → Put more k (take (length out - r) (drop r out)) ys n
      → Put (bytes ++ more) (most + k) entry (put_mid r (length out - r) out ys) (r + n)
  put_on {more} h q =
      record {
        count = omega (arith, p.count, q.count, length-append bytes more);
        few = omega (arith, p.few, q.few);
        front = lent_on entry bytes more p.count (omega (arith, p.count, p.few)) p.front q.front;
      }
