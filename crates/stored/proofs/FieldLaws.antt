-- A number's bytes read back as that number, and bytes are read at a seam as at the front of what stands behind it. Assumes nothing.
use mathlib.Core.Path.{◌≡◌, refl, sym, ap, ap₂, ◌∙◌}
use mathlib.Core.Bool.{◌&&◌}
use mathlib.Core.List.{List, [], ◌∷◌, ◌++◌, map, append_assoc}
use Prim.Native.Nat.{ℕ, suc, ◌+◌, ◌-◌, ◌*◌, ◌/◌, ◌%◌, ◌<◌, ◌≤◌}
use native.Mathlib.Nat.{div-div-eq-div-mul}
use native.Mathlib.Omega.{arith}
use lib.ListN.{length, get_or, length-append}
use lib.Seq.{get_or-append-add}
use lib.IntN.{ℤ, pos, negsuc, nat_abs}
use lib.Dec.{eqb}
use borrow.Author.Tests.{lt-ltb, le-ltb}
use Rattle.amplitude.specs.Amp.{most}
use Rattle.automata.specs.Members.{flat}
use Rattle.automata.proofs.Lists.{Each}
use Rattle.stored.specs.Fields.{u16_at, u32_at, signed32, i32_at, mark_at, records_from, unsigned32}

-- ---- seams
u8_seam : (pre s : List ℕ) (i j : ℕ) → i ≡ length pre + j → get_or (pre ++ s) i 0 ≡ get_or s j 0
u8_seam pre s i j e = ap (λ (k : ℕ). get_or (pre ++ s) k 0) e ∙ get_or-append-add pre s j 0

pub u16_seam : (pre s : List ℕ) (i : ℕ) → u16_at (pre ++ s) (length pre + i) ≡ u16_at s i
unfolding u16_at
u16_seam pre s i = ap₂ (λ (x y : ℕ). x + y * 256) (u8_seam pre s (length pre + i) i refl) (u8_seam pre s (length pre + i + 1) (i + 1) (omega arith))

pub u32_seam : (pre s : List ℕ) (i : ℕ) → u32_at (pre ++ s) (length pre + i) ≡ u32_at s i
unfolding u32_at
u32_seam pre s i =
    let e : length pre + i + 2 ≡ length pre + (i + 2) = omega arith in
    ap₂ (λ (x y : ℕ). x + y * 65536) (u16_seam pre s i) (ap (u16_at (pre ++ s)) e ∙ u16_seam pre s (i + 2))

pub i32_seam : (pre s : List ℕ) (i : ℕ) → i32_at (pre ++ s) (length pre + i) ≡ i32_at s i
unfolding i32_at
i32_seam pre s i = ap signed32 (u32_seam pre s i)

pub mark_seam : (a b : ℕ) (pre s : List ℕ) → mark_at a b (pre ++ s) (length pre) ≡ mark_at a b s 0
unfolding mark_at
mark_seam a b pre s =
    ap₂ (λ (x y : ℕ). eqb x a && eqb y b) (u8_seam pre s (length pre) 0 (omega arith)) (u8_seam pre s (length pre + 1) 1 refl)

-- ---- a number and its bytes
pub split16 : (x : ℕ) → x < 65536 → x % 256 + x / 256 % 256 * 256 ≡ x
split16 x h = omega arith

pub split32 : (x : ℕ) → x < 4294967296 → x % 256 + x / 256 % 256 * 256 + (x / 65536 % 256 + x / 16777216 % 256 * 256) * 65536 ≡ x
split32 x h =
    let y : ℕ = x / 65536 in
    let e : x / 16777216 ≡ y / 256 = sym (div-div-eq-div-mul x 65536 256) in
    rw e (let low : x % 256 + x / 256 % 256 * 256 ≡ x % 65536 = omega arith in let high : y % 256 + y / 256 % 256 * 256 ≡ y = omega arith in omega arith)

-- every whole number in range is its 32 bits, read as signed
pub signed-unsigned : (z : ℤ) → nat_abs z ≤ most → signed32 (unsigned32 z) ≡ z
signed-unsigned (pos n) h = rw (lt-ltb n 2147483648 (omega arith))
signed-unsigned (negsuc n) h =
    let e : 4294967296 - suc (4294967296 - suc n) ≡ n = omega arith in
    rw (le-ltb (4294967296 - suc n) 2147483648 (omega arith)) (ap negsuc e)

pub unsigned_small : (z : ℤ) → nat_abs z ≤ most → unsigned32 z < 4294967296
unsigned_small (pos n) h = omega arith
unsigned_small (negsuc n) h = omega arith

-- ---- records once over their size: what is read at each place of their bytes, one after the other
module _ {X : Type 0} (size : ℕ) (bytes : X → List ℕ) (sized : (x : X) → length (bytes x) ≡ size) where
  pub flat-length : (xs : List X) → length (flat bytes xs) ≡ size * length xs
  flat-length [] = omega arith
  flat-length (x ∷ xs) = length-append (bytes x) (flat bytes xs) ∙ (let e = sized x in let r = flat-length xs in omega arith)

  module _ {Y : Type 0} (P : X → Type 0) (read : List ℕ → ℕ → Y) (want : X → Y)
      (reads : (pre post : List ℕ) (x : X) → P x → read (pre ++ (bytes x ++ post)) (length pre) ≡ want x) where
    pub read_all : (xs : List X) (pre post : List ℕ) (at : ℕ) → Each P xs → at ≡ length pre
        → records_from (read (pre ++ (flat bytes xs ++ post))) at size (length xs) ≡ map want xs
    unfolding records_from
    read_all [] pre post at h e = refl
    read_all (x ∷ xs) pre post at h e =
        let s : List ℕ = pre ++ ((bytes x ++ flat bytes xs) ++ post) in
        let left : s ≡ pre ++ (bytes x ++ (flat bytes xs ++ post)) = ap (λ (t : List ℕ). pre ++ t) (append_assoc (bytes x) (flat bytes xs) post) in
        let on : s ≡ (pre ++ bytes x) ++ (flat bytes xs ++ post) = left ∙ sym (append_assoc pre (bytes x) (flat bytes xs ++ post)) in
        let far : at + size ≡ length (pre ++ bytes x) = (let a = length-append pre (bytes x) in let b = sized x in omega arith) in
        ap₂ (λ (y : Y) (ys : List Y). y ∷ ys)
        (ap (λ (i : ℕ). read s i) e ∙ ap (λ (t : List ℕ). read t (length pre)) left ∙ reads pre (flat bytes xs ++ post) x h.0)
        (ap (λ (t : List ℕ). records_from (read t) (at + size) size (length xs)) on ∙ read_all xs (pre ++ bytes x) post (at + size) h.1 far)
