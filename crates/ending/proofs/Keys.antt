-- The records of a stored key by the key that it stores, and those of a level key by key. Assumes nothing.
use mathlib.Core.Path.{◌≡◌, refl, sym, ap, ap₂, ◌∙◌}
use mathlib.Core.List.{List, [], ◌∷◌, ◌++◌}
use Prim.Native.Nat.{ℕ, suc, ◌+◌, ◌<◌, ◌≤◌}
use native.Mathlib.Numerals.{add-one}
use native.Mathlib.Omega.{arith}
use lib.IntN.{ℤ}
use lib.ListN.{length, get_or, take, drop}
use lib.Seq.{drop-cons, get_or-take, length-take-le, drop-length}
use Rattle.std.specs.Prelude.{Some, None}
use Rattle.amplitude.specs.Leaf.{Leaf, turn}
use Rattle.amplitude.proofs.LeafLaws.{turn-none}
use Rattle.automata.specs.Choice.{Alt, alt, map_alt, together}
use Rattle.automata.specs.Sets.{LF}
use Rattle.gates.specs.Roles.{key_ends, pair_end}
use Rattle.gates.specs.Numbering as numbering
use Rattle.stepwise.specs.Code.{unstored}
use Rattle.roles.specs.declared.Single.{Single}
use Rattle.roles.specs.declared.Single.TheVariants.{Plain, Inside, Shifted}
use Rattle.roles.specs.declared.Side.{Side}
use Rattle.roles.specs.declared.Key.TheVariants.{One, Pair}
use Rattle.roles.specs.Kept.{side_is, key_is, shift_in}
use Rattle.endrow.specs.declared.NewLeaves.{NewLeaves}
use Rattle.lookup.specs.Alts.{ends_in}
use Rattle.ending.specs.Ends.{ends_of}
use Rattle.endrow.specs.Ended.{LentIn, EndedIn}
use Rattle.ending.proofs.Steps.{OnTheWay, way_begin, way_on, way_end, way_over}

-- ---- one key
not-turned : (us : List (Alt Leaf)) → us ≡ map_alt (turn 0) us
not-turned [] = refl
not-turned (alt m x ∷ us) = ap₂ (λ (y : Leaf) (vs : List (Alt Leaf)). alt m y ∷ vs) (sym (turn-none x)) (not-turned us)

module _ (src choices : List ℕ) (numbers : List ℤ) (first : List ℕ) (x : ℕ) where
  pub single_key : (how : Single) (q : ℕ) → key_is (One how q) ≡ unstored x → ends_of src choices numbers first x ≡ map_alt (turn (shift_in how)) (ends_in src choices numbers first q)
  unfolding ends_of
  single_key how q e = ap (key_ends (ends_in src choices numbers first)) (sym e) ∙ go how
    where
      go : (h : Single) → key_ends (ends_in src choices numbers first) (key_is (One h q)) ≡ map_alt (turn (shift_in h)) (ends_in src choices numbers first q)
      go Plain = not-turned (ends_in src choices numbers first q)
      go Inside = not-turned (ends_in src choices numbers first q)
      go (Shifted j) = refl

  pub pair_key : (s : Side) (q p : ℕ) → key_is (Pair s q p) ≡ unstored x
      → ends_of src choices numbers first x ≡ together (pair_end (side_is s)) (ends_in src choices numbers first q) (ends_in src choices numbers first p)
  unfolding ends_of
  pair_key s q p e = ap (key_ends (ends_in src choices numbers first)) (sym e)

-- ---- the keys of a level
module _ (f : ℕ → List (Alt Leaf)) (base : ℕ) (cur : List ℕ) (count : ℕ) where
  -- the records of the keys from the i-th on, and those of all
  abbrev pub keys_left : ℕ → List LF
  keys_left i = numbering.all_rows f (base + i) (drop i (take count cur))

  abbrev pub keys_all : List LF
  keys_all = numbering.all_rows f base (take count cur)

module _ (f : ℕ → List (Alt Leaf)) (base : ℕ) (cur : List ℕ) (count : ℕ) (room : count ≤ length cur) where
  all_left : keys_left f base cur count 0 ≡ keys_all f base cur count
  all_left = let e : base + 0 ≡ base = omega arith in ap (λ (b : ℕ). numbering.all_rows f b (take count cur)) e

  long : length (take count cur) ≡ count
  long = length-take-le count cur room

  one_left : (i : ℕ) → i < count → keys_left f base cur count i ≡ numbering.rows (base + i) (f (get_or cur i 0)) ++ keys_left f base cur count (i + 1)
  one_left i h =
      let l : i < length (take count cur) = omega (arith, long) in
      let e : suc (base + i) ≡ base + (i + 1) = omega arith in
      ap (numbering.all_rows f (base + i)) (drop-cons (take count cur) i 0 l)
      ∙ ap₂ (λ (x b : ℕ). numbering.rows (base + i) (f x) ++ numbering.all_rows f b (drop (suc i) (take count cur))) (get_or-take count cur i 0 h) e
      ∙ ap (λ (n : ℕ). numbering.rows (base + i) (f (get_or cur i 0)) ++ numbering.all_rows f (base + (i + 1)) (drop n (take count cur))) (sym (add-one i))

  none_left : (i : ℕ) → i ≡ count → keys_left f base cur count i ≡ []
  none_left i e = ap (λ (n : ℕ). numbering.all_rows f (base + i) (drop n (take count cur))) (e ∙ sym long) ∙ ap (numbering.all_rows f (base + i)) (drop-length (take count cur))

  pub level-begin : {v : NewLeaves} → LentIn v → OnTheWay v (keys_all f base cur count) (keys_left f base cur count 0) v
  level-begin l = rw all_left (way_begin l)

  module _ {v w : NewLeaves} (i : ℕ) (o : OnTheWay v (keys_all f base cur count) (keys_left f base cur count i) w) where
    module _ {z : NewLeaves} (h : i < count) where
      pub level_on : EndedIn w (numbering.rows (base + i) (f (get_or cur i 0))) z (Some tt) → OnTheWay v (keys_all f base cur count) (keys_left f base cur count (i + 1)) z
      level_on s = way_on (rw (one_left i h) at o) s

      pub level-over : EndedIn w (numbering.rows (base + i) (f (get_or cur i 0))) z None → EndedIn v (keys_all f base cur count) z None
      level-over s = way_over (keys_left f base cur count (i + 1)) (rw (one_left i h) at o) s

    pub level-end : i ≡ count → EndedIn v (keys_all f base cur count) w (Some tt)
    level-end z = way_end (rw (none_left i z) at o)
