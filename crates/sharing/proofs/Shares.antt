-- A mask that keeps the choices which all numbers of a range have, number by number; and which choices the full mask has. Assumes nothing.
use mathlib.Core.Path.{◌≡◌, refl, sym, ap, ◌∙◌}
use mathlib.Core.Bool.{Bool, true, false, ◌&&◌}
use Prim.Native.Nat.{ℕ, ◌+◌, ◌-◌, ◌<◌, ◌≤◌, max}
use native.Mathlib.Decide.{dec_lt}
use native.Mathlib.Omega.{arith}
use Rattle.automata.specs.Choice.{has}
use Rattle.meeting.specs.All.{all_in}
use Rattle.meeting.proofs.AllLaws.{all_none, all_more, all_tells}

pub and_assoc : (a b c : Bool) → (a && b) && c ≡ a && (b && c)
and_assoc true b c = refl
and_assoc false b c = refl

and-true : (b : Bool) → b && true ≡ b
and-true true = refl
and-true false = refl

module _ (f : ℕ → Bool) (b : Bool) (from : ℕ) where
  pub share_true : (count : ℕ) → all_in f from count ≡ true → b ≡ b && all_in f from count
  share_true count h = sym (ap (λ (x : Bool). b && x) h ∙ and-true b)

  pub share_none : b ≡ b && all_in f from (from - from)
  share_none = share_true (from - from) (all_none f from (from - from) (omega arith))

  pub share_more : (i : ℕ) {x y : Bool} → from ≤ i → x ≡ b && all_in f from (i - from) → y ≡ x && f i → y ≡ b && all_in f from (i + 1 - from)
  share_more i h p q = q ∙ ap (λ (z : Bool). z && f i) p ∙ and_assoc b (all_in f from (i - from)) (f i) ∙ ap (λ (z : Bool). b && z) (sym (all_more f from i h))

  pub share_all : (to i : ℕ) {x : Bool} → to ≤ i → i ≤ max from to → x ≡ b && all_in f from (i - from) → x ≡ b && all_in f from (to - from)
  share_all to i h k p = p ∙ ap (λ (n : ℕ). b && all_in f from n) (same (dec_lt to from))
    where
      same : Dec (to < from) → i - from ≡ to - from
      same (yes l) = omega arith
      same (no l) = omega arith

all-choices : all_in (has 4294967295) 0 32 ≡ true
unfolding all_in
all-choices = refl

-- the full mask has every choice
pub full : (d : ℕ) → d < 32 → has 4294967295 d ≡ true
full d h = all_tells (has 4294967295) 0 32 d all-choices (omega arith) (omega arith)
