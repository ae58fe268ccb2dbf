-- A number's digits are those of its tenth and one more, so a loop that puts the last digit and goes on with the tenth puts all of them; and
-- a number below the k-th power of ten has at most k. Assumes nothing.
use mathlib.Core.Path.{◌≡◌, refl, sym, ap, ◌∙◌}
use mathlib.Core.Bool.{Bool, true, false}
use mathlib.Core.List.{List, [], ◌∷◌, ◌++◌, append_assoc}
use Prim.Native.Nat.{ℕ, zero, suc, ◌+◌, ◌-◌, ◌*◌, ◌/◌, ◌%◌, ◌≤◌, ◌<◌}
use native.Mathlib.Omega.{arith}
use lib.ListN.{length, set, drop, length-append, length-set}
use lib.Dec.{ltb}
use borrow.Author.Tests.{lt-ltb, le-ltb, ltb-true, ltb-false}
use Rattle.jobs.specs.Program.{digits}
use Rattle.packing.specs.Written.{at_front}
use Rattle.lines.specs.Numeral.{numeral}

-- ---- the definition's turns
abbrev tens : ℕ → ℕ
tens zero = 1
tens (suc k) = tens k * 10

digits-one : (most n : ℕ) → n < 10 → digits (suc most) n ≡ (48 + n) ∷ []
digits-one most n h = rw (lt-ltb n 10 h, digits)

digits_more : (most n : ℕ) → 10 ≤ n → digits (suc most) n ≡ digits most (n / 10) ++ ((48 + n % 10) ∷ [])
digits_more most n h = rw (le-ltb n 10 h, digits)

-- more turns than digits change nothing
enough_step : (k n : ℕ) (b : Bool) → ltb n 10 ≡ b → (10 ≤ n → digits k (n / 10) ≡ digits (suc k) (n / 10))
    → digits (suc k) n ≡ digits (suc (suc k)) n
enough_step k n true e tenth = let small = ltb-true n 10 e in digits-one k n small ∙ sym (digits-one (suc k) n small)
enough_step k n false e tenth =
    let large = ltb-false n 10 e in
    digits_more k n large ∙ ap (λ (l : List ℕ). l ++ ((48 + n % 10) ∷ [])) (tenth large) ∙ sym (digits_more (suc k) n large)

enough : (k n : ℕ) → n < tens (suc k) → digits (suc k) n ≡ digits (suc (suc k)) n
enough zero n h = enough_step zero n (ltb n 10) refl (λ large. absurd (omega arith))
enough (suc k) n h = enough_step (suc k) n (ltb n 10) refl (λ large. enough k (n / 10) (omega arith))

few-step : (most k n : ℕ) (b : Bool) → ltb n 10 ≡ b → (10 ≤ n → length (digits most (n / 10)) ≤ k)
    → length (digits (suc most) n) ≤ suc k
few-step most k n true e tenth = rw (digits-one most n (ltb-true n 10 e)) (omega arith)
few-step most k n false e tenth =
    let large = ltb-false n 10 e in
    let rest = tenth large in
    rw (digits_more most n large) (omega (arith, length-append (digits most (n / 10)) ((48 + n % 10) ∷ [])))

few : (most k n : ℕ) → n < tens (suc k) → length (digits most n) ≤ suc k
few zero k n h = omega arith
few (suc most) zero n h = few-step most zero n (ltb n 10) refl (λ large. absurd (omega arith))
few (suc most) (suc k) n h = few-step most (suc k) n (ltb n 10) refl (λ large. few most k (n / 10) (omega arith))

-- ---- numerals
pub numeral-one : (n : ℕ) → n < 10 → numeral n ≡ (48 + n) ∷ []
unfolding numeral
numeral-one n h = digits-one 19 n h

pub numeral-more : (n : ℕ) → 10 ≤ n → n < 4294967296 → numeral n ≡ numeral (n / 10) ++ ((48 + n % 10) ∷ [])
unfolding numeral
numeral-more n h small =
    digits_more 19 n h ∙ ap (λ (l : List ℕ). l ++ ((48 + n % 10) ∷ [])) (enough 18 (n / 10) (omega arith))

pub numeral-few : (k n : ℕ) → n < tens (suc k) → length (numeral n) ≤ suc k
unfolding numeral
numeral-few k n h = few 20 k n h

pub few8 : (n : ℕ) → n < 256 → length (numeral n) ≤ 3
few8 n h = numeral-few 2 n (omega arith)

pub few32 : (n : ℕ) → n < 4294967296 → length (numeral n) ≤ 10
few32 n h = numeral-few 9 n (omega arith)

pub one-long : (n : ℕ) → n < 10 → length (numeral n) ≡ 1
one-long n h = ap length (numeral-one n h)

pub more-long : (n : ℕ) → 10 ≤ n → n < 4294967296 → length (numeral n) ≡ length (numeral (n / 10)) + 1
more-long n h small = ap length (numeral-more n h small) ∙ length-append (numeral (n / 10)) ((48 + n % 10) ∷ [])

-- ---- counting them
pub record Counting (n left count : ℕ) : Type 0 where
  pub small : n < 4294967296
  pub within : left ≤ n
  pub is : count + length (numeral left) ≡ 1 + length (numeral n)

pub count-begin : (n : ℕ) → n < 4294967296 → Counting n n 1
count-begin n h = record { small = h; within = omega arith; is = refl }

module _ {n left count : ℕ} (p : Counting n left count) where
  pub count_fits : count ≤ 11
  count_fits = omega (arith, p.is, few32 n p.small)

  pub count_next : 10 ≤ left → Counting n (left / 10) (count + 1)
  count_next h =
      let w = p.within in
      let s = p.small in
      record { small = s; within = omega arith; is = omega (arith, p.is, more-long left h (omega arith)) }

  pub count-all : left < 10 → count ≡ length (numeral n)
  count-all h = omega (arith, p.is, one-long left h)

-- ---- writing them
drop-set : (l : List ℕ) (i d : ℕ) → i < length l → drop i (set l i d) ≡ d ∷ drop (suc i) l
drop-set [] i d h = absurd (omega arith)
drop-set (x ∷ l) zero d h = refl
drop-set (x ∷ l) (suc i) d h = drop-set l i d (omega arith)

-- a store behind a front that is still to come is one byte more of that front
set_front : (front out : List ℕ) (d : ℕ) → length front < length out
    → at_front front (set out (length front) d) ≡ at_front (front ++ (d ∷ [])) out
set_front front out d h =
    let long : length (front ++ (d ∷ [])) ≡ suc (length front) = length-append front (d ∷ []) ∙ omega arith in
    rw (drop-set out (length front) d h, long, append_assoc front (d ∷ []))

-- what is left, at the front, comes to the whole
pub record Writing (n : ℕ) (entry out : List ℕ) (left at : ℕ) : Type 0 where
  pub small : n < 4294967296
  pub within : left ≤ n
  pub here : at ≡ length (numeral left)
  pub room : at ≤ length out
  pub long : length out ≡ length entry
  pub is : at_front (numeral left) out ≡ at_front (numeral n) entry

pub write-begin : (n : ℕ) (entry : List ℕ) {count : ℕ} → n < 4294967296 → count ≡ length (numeral n) → count ≤ length entry
    → Writing n entry entry n count
write-begin n entry h e k = record { small = h; within = omega arith; here = e; room = k; long = refl; is = refl }

module _ {n left at : ℕ} {entry out : List ℕ} (p : Writing n entry out left at) where
  pub write-more : 10 ≤ left → 1 ≤ at
  write-more h =
      let w = p.within in
      let s = p.small in
      omega (arith, p.here, more-long left h (omega arith))

  pub write-next : {d : ℕ} → 10 ≤ left → d ≡ 48 + left % 10 → Writing n entry (set out (at - 1) d) (left / 10) (at - 1)
  write-next {d} h e =
      let w = p.within in
      let s = p.small in
      let r = p.room in
      let k = p.here in
      let below : left < 4294967296 = omega arith in
      let more = more-long left h below in
      let at-is : at - 1 ≡ length (numeral (left / 10)) = omega arith in
      let put : at_front (numeral (left / 10)) (set out (at - 1) d) ≡ at_front (numeral left) out =
      rw (at-is, e) (set_front (numeral (left / 10)) out (48 + left % 10) (omega arith)
      ∙ ap (λ (l : List ℕ). at_front l out) (sym (numeral-more left h below))) in
      record {
        small = s;
        within = omega arith;
        here = at-is;
        room = rw (length-set out (at - 1) d) (omega arith);
        long = length-set out (at - 1) d ∙ p.long;
        is = put ∙ p.is;
      }

  pub write-room : left < 10 → 0 < length out
  write-room h = omega (arith, p.here, p.room, one-long left h)

  pub write-all : {d : ℕ} → left < 10 → d ≡ 48 + left → set out 0 d ≡ at_front (numeral n) entry
  write-all {d} h e =
      drop-set out 0 d (write-room h)
      ∙ rw e (ap (λ (l : List ℕ). at_front l out) (sym (numeral-one left h)))
      ∙ p.is
