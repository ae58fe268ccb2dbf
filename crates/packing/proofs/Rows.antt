-- A loop that puts record after record, each at the front of the tail that is left, puts all of them: once i are put, their bytes are at the
-- front and the rest is as it was at entry. Stated once for records of any kind and size. Assumes nothing.
use mathlib.Core.Path.{◌≡◌, refl, sym, ap, ◌∙◌}
use mathlib.Core.List.{List, [], ◌∷◌, ◌++◌, append_assoc, append-nil}
use Prim.Native.Nat.{ℕ, zero, suc, ◌+◌, ◌-◌, ◌*◌, ◌≤◌, ◌<◌}
use native.Mathlib.Nat.{mul_comm, mul-le-mul_right}
use native.Mathlib.Numerals.{add-one}
use native.Mathlib.Omega.{arith}
use lib.ListN.{length, get_or, take, drop}
use lib.Seq.{drop-cons}
use borrow.Rule.Slice.PartMut.{put_mid}
use Rattle.amplitude.specs.Amp.{amp}
use Rattle.amplitude.specs.Leaf.{leaf}
use Rattle.automata.specs.Sets.{TR, LF, rec}
use Rattle.automata.specs.Members.{flat}
use Rattle.stored.specs.Fields.{records_from}
use Rattle.stored.specs.Form.{lv_size, tr_size, lf_size}
use Rattle.stored.specs.Pack.{lv_bytes, tr_bytes, lf_bytes}
use Rattle.stored.proofs.FieldLaws.{flat-length}
use Rattle.putting.specs.Front.{at_front}
use Rattle.putting.proofs.Front.{front_long, lent_on}

-- ---- "its size includes them"
pub lv_sized : (c : ℕ) → length (lv_bytes c) ≡ lv_size
lv_sized c = refl

pub tr-sized : (t : TR) → length (tr_bytes t) ≡ tr_size
tr-sized (rec s m p) = refl

pub lf_sized : (l : LF) → length (lf_bytes l) ≡ lf_size
lf_sized (rec s m (leaf k (amp a b c d))) = refl

-- ---- any kind of record
-- the bytes of `count` records, the first of them number `from`
abbrev pub part : {X : Type 0} → (X → List ℕ) → (ℕ → X) → ℕ → ℕ → List ℕ
part bytes read from count = flat bytes (records_from read from 1 count)

module _ {X : Type 0} (bytes : X → List ℕ) (read : ℕ → X) where
  part_none : (from : ℕ) → part bytes read from 0 ≡ []
  unfolding records_from
  part_none from = refl

  part_next : (from i : ℕ) → part bytes read from (suc i) ≡ part bytes read from i ++ bytes (read (from + i))
  unfolding records_from
  part_next from zero = let e : from ≡ from + 0 = omega arith in append-nil (bytes (read from)) ∙ ap (λ (j : ℕ). bytes (read j)) e
  part_next from (suc i) =
      let e : from + 1 + i ≡ from + suc i = omega arith in
      ap (λ (l : List ℕ). bytes (read from) ++ l) (part_next (from + 1) i ∙ ap (λ (j : ℕ). part bytes read (from + 1) i ++ bytes (read j)) e)
      ∙ sym (append_assoc (bytes (read from)) (part bytes read (from + 1) i) (bytes (read (from + suc i))))

pub records-length : {X : Type 0} (read : ℕ → X) (from count : ℕ) → length (records_from read from 1 count) ≡ count
unfolding records_from
records-length read from zero = refl
records-length read from (suc count) = ap suc (records-length read (from + 1) count)

-- i of `count` records of one size are put
pub record Putting {X : Type 0} (size : ℕ) (bytes : X → List ℕ) (read : ℕ → X) (from : ℕ) (entry out : List ℕ) (count i : ℕ) : Type 0 where
  pub within : i ≤ count
  pub room : count * size ≤ length entry
  pub long : length out ≡ length entry
  pub is : out ≡ at_front (part bytes read from i) entry

module _ {X : Type 0} (size : ℕ) (bytes : X → List ℕ) (sized : (x : X) → length (bytes x) ≡ size) (read : ℕ → X) (from : ℕ) where
  pub part_long : (count : ℕ) → length (part bytes read from count) ≡ count * size
  part_long count =
      flat-length size bytes sized (records_from read from 1 count) ∙ ap (λ (n : ℕ). size * n) (records-length read from count) ∙ mul_comm size count

  pub begin : (entry : List ℕ) (count : ℕ) → count * size ≤ length entry → Putting size bytes read from entry entry count 0
  begin entry count h = record { within = omega arith; room = h; long = refl; is = rw (part_none bytes read from) }

  module _ {entry out : List ℕ} {count i : ℕ} (p : Putting size bytes read from entry out count i) where
    fits : (n : ℕ) → n ≤ count → length (part bytes read from n) ≤ length entry
    fits n h = omega (arith, part_long n, mul-le-mul_right size h, p.room)

    -- one more, at the front of the tail
    pub next : {ys : List ℕ} (j : ℕ) → i < count → j ≡ from + i → ys ≡ at_front (bytes (read j)) (take (length out - i * size) (drop (i * size) out))
        → Putting size bytes read from entry (put_mid (i * size) (length out - i * size) out ys) count (i + 1)
    next {ys} j h e f =
        let more : i + 1 ≤ count = omega arith in
        let on : part bytes read from i ++ bytes (read j) ≡ part bytes read from (i + 1) = rw (e, add-one) (sym (part_next bytes read from i)) in
        let put : put_mid (i * size) (length out - i * size) out ys ≡ at_front (part bytes read from (i + 1)) entry =
        lent_on entry (part bytes read from i) (bytes (read j)) (sym (part_long i)) (fits i p.within) p.is f
        ∙ ap (λ (l : List ℕ). at_front l entry) on in
        record { within = more; room = p.room; long = ap length put ∙ front_long (part bytes read from (i + 1)) entry (fits (i + 1) more); is = put }

    pub all : count ≤ i → out ≡ at_front (part bytes read from count) entry
    all h = let e : i ≡ count = omega (arith, p.within) in p.is ∙ ap (λ (n : ℕ). at_front (part bytes read from n) entry) e

-- ---- the levels' counts, read one after the other, are the front of their slice
abbrev pub count_in : List ℕ → ℕ → ℕ
count_in counts i = get_or counts i 0

counts_read : (counts : List ℕ) (from levels : ℕ) → from + levels ≤ length counts → records_from (count_in counts) from 1 levels ≡ take levels (drop from counts)
unfolding records_from
counts_read counts from zero h = refl
counts_read counts from (suc levels) h =
    let here : from < length counts = omega arith in
    rw (drop-cons counts from 0 here) (ap (λ (l : List ℕ). get_or counts from 0 ∷ l) (counts_read counts (from + 1) levels (omega arith) ∙ rw (add-one)))

pub counts_part : (counts : List ℕ) (levels : ℕ) → levels ≤ length counts → part lv_bytes (count_in counts) 0 levels ≡ flat lv_bytes (take levels counts)
counts_part counts levels h = ap (flat lv_bytes) (counts_read counts 0 levels (omega arith))
