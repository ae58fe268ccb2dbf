-- Words copied one by one, and what that leaves of a stack of planes. Assumes nothing.
use mathlib.Core.Path.{◌≡◌, refl, sym, ap, ◌∙◌}
use mathlib.Core.Bool.{Bool, true, false}
use mathlib.Core.List.{List}
use Prim.Native.Nat.{ℕ, ◌+◌, ◌-◌, ◌*◌, ◌<◌, ◌≤◌}
use native.Mathlib.Decide.{dec_lt}
use native.Mathlib.Nat.{mul-le-mul_right}
use native.Mathlib.Omega.{arith}
use lib.Dec.{eqb}
use lib.ListN.{length, get_or, set, length-set}
use lib.Seq.{get_or-set_same, get_or-set_other}
use borrow.Author.Tests.{eqb-true, eqb-false}
use Rattle.meeting.specs.declared.Level.{Level}
use Rattle.meeting.proofs.Places.{words-before}
use Rattle.relating.specs.Planes.{Copied, Room, Added}

-- the first i words are copied
pub record Copying (source : List ℕ) (at : ℕ) (entry : List ℕ) (there count : ℕ) (words : List ℕ) (i : ℕ) : Type 0 where
  pub few : i ≤ count
  pub long : length words ≡ length entry
  pub copied : Copied source at entry there i words

pub begin : (source : List ℕ) (at : ℕ) (entry : List ℕ) (there count : ℕ) → Copying source at entry there count entry 0
begin source at entry there count = record {
  few = omega arith;
  long = refl;
  copied = record { taken = λ i h. absurd (omega arith); before = λ i h. refl; after = λ i h. refl };
}

module _ {source : List ℕ} {at : ℕ} {entry : List ℕ} {there count : ℕ} {words : List ℕ} {i : ℕ} (w : Copying source at entry there count words i) where
  pub next : there + count ≤ length entry → i < count → Copying source at entry there count (set words (there + i) (get_or source (at + i) 0)) (i + 1)
  next fits lt = record {
    few = omega arith;
    long = length-set words (there + i) (get_or source (at + i) 0) ∙ w.long;
    copied = record {
      taken = λ j h. go j h (eqb j i) refl;
      before = λ j h. get_or-set_other words (there + i) j (get_or source (at + i) 0) 0 (λ e. omega arith) ∙ w.copied.before j h;
      after = λ j h. get_or-set_other words (there + i) j (get_or source (at + i) 0) 0 (λ e. omega arith) ∙ w.copied.after j (omega arith);
    };
  }
    where
      go : (j : ℕ) → j < i + 1 → (b : Bool) → eqb j i ≡ b → get_or (set words (there + i) (get_or source (at + i) 0)) (there + j) 0 ≡ get_or source (at + j) 0
      go j h true e =
          let l = w.long in
          let lt' : there + i < length words = omega arith in
          rw (eqb-true j i e) (get_or-set_same words (there + i) (get_or source (at + i) 0) 0 lt')
      go j h false e =
          let ne = eqb-false j i e in
          get_or-set_other words (there + i) (there + j) (get_or source (at + i) 0) 0 (λ f. ne (omega arith)) ∙ w.copied.taken j (omega (arith, ne))

  pub all : count ≤ i → Copied source at entry there count words
  all h =
      let f = w.few in
      let e : i ≡ count = omega arith in
      rw e at w.copied

-- ---- planes
module _ {plane wide q : ℕ} {l : Level} {stack row : List ℕ} where
  -- nothing was added
  pub not-added : Added plane wide stack q row l stack q
  not-added = record { least = omega arith; most = omega arith; taken = λ h. absurd (omega arith); others = λ j i h k. refl; low = λ i h. refl }

  -- the level's words went to plane q
  pub added : {size scratch : ℕ} {stack' : List ℕ} → Room plane size q wide l scratch
      → Copied row (l.from * wide) stack (q * plane + l.from * wide) (l.to * wide - l.from * wide) stack' → Added plane wide stack q row l stack' (q + 1)
  added {stack' = stack'} t w = record {
    least = omega arith;
    most = omega arith;
    taken = λ h i lo hi.
        let e : q * plane + l.from * wide + (i - l.from * wide) ≡ q * plane + i = omega arith in
        let f : l.from * wide + (i - l.from * wide) ≡ i = omega arith in
        rw (← e) (w.taken (i - l.from * wide) (omega arith) ∙ ap (λ (x : ℕ). get_or row x 0) f);
    others = λ j i h ne. go j i h (dec_lt j q) ne;
    low = λ i h. w.before (q * plane + i) (omega arith);
  }
    where
      go : (j i : ℕ) → i < plane → Dec (j < q) → (j ≡ q → ⊥) → get_or stack' (j * plane + i) 0 ≡ get_or stack (j * plane + i) 0
      go j i h (yes lt) ne = w.before (j * plane + i) (omega (arith, words-before plane j q lt))
      go j i h (no lt) ne =
          let gt : q < j = omega (arith, ne) in
          let le = mul-le-mul_right wide t.levels in
          w.after (j * plane + i) (omega (arith, words-before plane q j gt, t.long))

-- the level's words of plane q went to another row
pub copied_out : (plane wide q : ℕ) (l : Level) {stack row row' : List ℕ} → Copied stack (q * plane + l.from * wide) row (l.from * wide) (l.to * wide - l.from * wide) row'
    → (i : ℕ) → l.from * wide ≤ i → i < l.to * wide → get_or row' i 0 ≡ get_or stack (q * plane + i) 0
copied_out plane wide q l {stack} {row} {row'} w i lo hi =
    let e : q * plane + l.from * wide + (i - l.from * wide) ≡ q * plane + i = omega arith in
    let f : l.from * wide + (i - l.from * wide) ≡ i = omega arith in
    ap (λ (x : ℕ). get_or row' x 0) (sym f) ∙ w.taken (i - l.from * wide) (omega arith) ∙ ap (λ (x : ℕ). get_or stack x 0) e
