-- The members that go on from a place: what is true of each of them, how many they are, and how their words are read back. Assumes nothing.
use mathlib.Core.Path.{◌≡◌, refl, sym, ap, ap₂, ◌∙◌}
use mathlib.Core.Bool.{Bool, true, false, cond, ◌&&◌}
use mathlib.Core.List.{List, [], ◌∷◌, ◌++◌}
use Prim.Native.Nat.{ℕ, zero, suc, ◌+◌, ◌<◌, ◌≤◌}
use native.Mathlib.Omega.{arith}
use lib.Dec.{eqb}
use lib.ListN.{length, get_or, set, length-set, length-append}
use lib.Seq.{get_or-set_same, get_or-set_other}
use borrow.Author.Tests.{eqb-true, eqb-false}
use Rattle.amplitude.proofs.Equal.{both}
use Rattle.automata.specs.Choice.{choices_most}
use Rattle.automata.specs.Members.{Member, member, flat, up_to}
use Rattle.matching.specs.Seeking.{word_from}
use Rattle.walking.specs.Walk.{members_by, filled}
use Rattle.walking.proofs.Rooms.{small-set}
use Rattle.blocks.specs.Good.{all_of}

-- ---- every member of a list
module _ (f : Member → Bool) where
  all_append : (xs ys : List Member) → all_of f (xs ++ ys) ≡ all_of f xs && all_of f ys
  unfolding all_of
  all_append [] ys = refl
  all_append (x ∷ xs) ys = go (f x) (all_append xs ys)
    where
      go : (b : Bool) → all_of f (xs ++ ys) ≡ all_of f xs && all_of f ys → b && all_of f (xs ++ ys) ≡ (b && all_of f xs) && all_of f ys
      go true e = e
      go false e = refl

  all-flat : (F : ℕ → List Member) (k i : ℕ) → ((c : ℕ) → c < i + k → all_of f (F c) ≡ true) → all_of f (flat F (up_to i k)) ≡ true
  unfolding all_of
  all-flat F zero i h = refl
  all-flat F (suc k) i h = all_append (F i) (flat F (up_to (suc i) k)) ∙ ap₂ ◌&&◌ (h i (omega arith)) (all-flat F k (suc i) (λ c lt. h c (omega arith)))

  flat_tells : (F : ℕ → List Member) (k i : ℕ) → all_of f (flat F (up_to i k)) ≡ true → (c : ℕ) → i ≤ c → c < i + k → all_of f (F c) ≡ true
  flat_tells F zero i h c lo hi = absurd (omega arith)
  flat_tells F (suc k) i h c lo hi =
      let p = both (all_of f (F i)) (all_of f (flat F (up_to (suc i) k))) (sym (all_append (F i) (flat F (up_to (suc i) k))) ∙ h) in
      go p.0 (λ le. flat_tells F k (suc i) p.1 c le (omega arith)) (eqb c i) refl
    where
      go : all_of f (F i) ≡ true → (suc i ≤ c → all_of f (F c) ≡ true) → (b : Bool) → eqb c i ≡ b → all_of f (F c) ≡ true
      go p ih true e = ap (λ (d : ℕ). all_of f (F d)) (eqb-true c i e) ∙ p
      go p ih false e = ih (omega (arith, eqb-false c i e))

pub one_passes : (f : Member → Bool) (x : Member) → f x ≡ true → all_of f (x ∷ []) ≡ true
unfolding all_of
one_passes f x e = ap (λ (b : Bool). b && true) e

-- ---- words of so many choices
pub record Spelt (k : ℕ) (v : List ℕ) : Type 0 where
  pub long : length v ≡ k
  pub small : (i : ℕ) → get_or v i 0 < choices_most

spelt_none : Spelt 0 []
spelt_none = record { long = refl; small = λ i. omega arith }

spelt_more : {k c : ℕ} {v : List ℕ} → c < choices_most → Spelt k v → Spelt (suc k) (c ∷ v)
spelt_more {k} {c} {v} lt s = record { long = ap suc s.long; small = go }
  where
    go : (i : ℕ) → get_or (c ∷ v) i 0 < choices_most
    go zero = lt
    go (suc i) = s.small i

spelt_less : {k c : ℕ} {v : List ℕ} → Spelt (suc k) (c ∷ v) → Spelt k v
spelt_less s = record { long = omega (arith, s.long); small = λ i. s.small (suc i) }

pub spelt_from : (w : List ℕ) → ((i : ℕ) → get_or w i 0 < choices_most) → (m at : ℕ) → Spelt (suc m) (word_from w at m)
unfolding word_from
spelt_from w h zero at = spelt_more (h at) spelt_none
spelt_from w h (suc m) at = spelt_more (h at) (spelt_from w h m (at + 1))

-- ---- the members by a test of the choices to come
module _ (f : Member → Bool) (root : ℕ) where
  pub members-is : (word : List ℕ) (at k : ℕ) (g : List ℕ → Bool) → ((v : List ℕ) → Spelt k v → g v ≡ true → f (member root (filled word at v)) ≡ true) → all_of f (members_by root word at k g) ≡ true
  unfolding members_by filled all_of
  members-is word at zero g h = go (g []) refl
    where
      go : (b : Bool) → g [] ≡ b → all_of f (cond b (member root word ∷ []) []) ≡ true
      go true e = ap (λ (b : Bool). b && true) (h [] spelt_none e)
      go false e = refl
  members-is word at (suc k) g h =
      all-flat f (λ (c : ℕ). members_by root (set word at c) (at + 1) k (λ (v : List ℕ). g (c ∷ v))) 32 0
      (λ c lt. members-is (set word at c) (at + 1) k (λ (v : List ℕ). g (c ∷ v)) (λ v s e. h (c ∷ v) (spelt_more (omega arith) s) e))

  pub members_tell : (word : List ℕ) (at k : ℕ) (g : List ℕ → Bool) → all_of f (members_by root word at k g) ≡ true → (v : List ℕ) → Spelt k v → g v ≡ true → f (member root (filled word at v)) ≡ true
  unfolding members_by filled all_of
  members_tell word at zero g h [] s e = (both (f (member root word)) true (sym (ap (λ (b : Bool). all_of f (cond b (member root word ∷ []) [])) e) ∙ h)).0
  members_tell word at zero g h (c ∷ v) s e = absurd (omega (arith, s.long))
  members_tell word at (suc k) g h [] s e = absurd (omega (arith, s.long))
  members_tell word at (suc k) g h (c ∷ v) s e =
      members_tell (set word at c) (at + 1) k (λ (u : List ℕ). g (c ∷ u))
      (flat_tells f (λ (d : ℕ). members_by root (set word at d) (at + 1) k (λ (u : List ℕ). g (d ∷ u))) 32 0 h c (omega arith) (s.small 0)) v (spelt_less s) e

-- ---- how many they are does not depend on what stands before them
flat-long : (F G : ℕ → List Member) (k i : ℕ) → ((c : ℕ) → length (F c) ≡ length (G c)) → length (flat F (up_to i k)) ≡ length (flat G (up_to i k))
flat-long F G zero i h = refl
flat-long F G (suc k) i h =
    length-append (F i) (flat F (up_to (suc i) k)) ∙ ap₂ ◌+◌ (h i) (flat-long F G k (suc i) h) ∙ sym (length-append (G i) (flat G (up_to (suc i) k)))

pub members-long : (k root : ℕ) (word : List ℕ) (at root' : ℕ) (word' : List ℕ) (at' : ℕ) (g : List ℕ → Bool) → length (members_by root word at k g) ≡ length (members_by root' word' at' k g)
unfolding members_by
members-long zero root word at root' word' at' g = go (g [])
  where
    go : (b : Bool) → length (cond b (member root word ∷ []) []) ≡ length (cond b (member root' word' ∷ []) [])
    go true = refl
    go false = refl
members-long (suc k) root word at root' word' at' g =
    flat-long (λ (c : ℕ). members_by root (set word at c) (at + 1) k (λ (v : List ℕ). g (c ∷ v))) (λ (c : ℕ). members_by root' (set word' at' c) (at' + 1) k (λ (v : List ℕ). g (c ∷ v))) 32 0
    (λ c. members-long k root (set word at c) (at + 1) root' (set word' at' c) (at' + 1) (λ (v : List ℕ). g (c ∷ v)))

-- ---- a word filled from a place on
pub fill-long : (v word : List ℕ) (at : ℕ) → length (filled word at v) ≡ length word
unfolding filled
fill-long [] word at = refl
fill-long (c ∷ v) word at = fill-long v (set word at c) (at + 1) ∙ length-set word at c

pub fill-low : (v word : List ℕ) (at i : ℕ) → i < at → get_or (filled word at v) i 0 ≡ get_or word i 0
unfolding filled
fill-low [] word at i lt = refl
fill-low (c ∷ v) word at i lt = fill-low v (set word at c) (at + 1) i (omega arith) ∙ get_or-set_other word at i c 0 (λ e. omega arith)

pub fill-small : (v word : List ℕ) (at k : ℕ) → Spelt k v → at + k ≤ length word → ((i : ℕ) → get_or word i 0 < choices_most) → (i : ℕ) → get_or (filled word at v) i 0 < choices_most
unfolding filled
fill-small [] word at k s le h i = h i
fill-small (c ∷ v) word at zero s le h i = absurd (omega (arith, s.long))
fill-small (c ∷ v) word at (suc k) s le h i =
    fill-small v (set word at c) (at + 1) k (spelt_less s) (omega (arith, length-set word at c)) (small-set word at c h (s.small 0) (omega arith)) i

pub fill_read : (m : ℕ) (v word : List ℕ) (at : ℕ) → length v ≡ suc m → at + m < length word → word_from (filled word at v) at m ≡ v
unfolding filled word_from
fill_read m [] word at e le = absurd (omega arith)
fill_read zero (c ∷ []) word at e le = ap (λ (d : ℕ). d ∷ []) (get_or-set_same word at c 0 (omega arith))
fill_read zero (c ∷ d ∷ v) word at e le = absurd (omega arith)
fill_read (suc m) (c ∷ v) word at e le =
    ap₂ (λ (d : ℕ) (u : List ℕ). d ∷ u) (fill-low v (set word at c) (at + 1) at (omega arith) ∙ get_or-set_same word at c 0 (omega arith))
    (fill_read m v (set word at c) (at + 1) (omega arith) (omega (arith, length-set word at c)))

-- a choice that is there already
pub set-letter : (word : List ℕ) (at c : ℕ) → get_or word at 0 ≡ c → at < length word → set word at c ≡ word
set-letter [] at c e lt = absurd (omega arith)
set-letter (x ∷ word) zero c e lt = ap (λ (d : ℕ). d ∷ word) (sym e)
set-letter (x ∷ word) (suc at) c e lt = ap (λ (w : List ℕ). x ∷ w) (set-letter word at c e (omega arith))
