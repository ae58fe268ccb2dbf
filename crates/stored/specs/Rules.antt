-- Document 01, "Replies" 1 to 10, and document 02, request 2: each rule as a test of a set file, and the record that breaks it.
use Rattle.std.specs.Prelude.{Bool, true, cond, ◌&&◌, ◌||◌, not, List, [], ◌∷◌, ◌++◌, ℕ, suc, ◌+◌, length, get_or, eqb, ltb, leb}
use Rattle.std.specs.Int.Bits.{bit_and}
use Rattle.amplitude.specs.Leaf.{k_most, in_range_l}
use Rattle.automata.specs.Choice.{least}
use Rattle.automata.specs.Sets.{Rec, rec, TR, LF, QSet, sum, roots, level_in}
use Rattle.stored.specs.Fields.{mark_at, records_from}
use Rattle.stored.specs.Form.{Form, hd_size, lv_size, tr_size, lf_size, levels, trs_at, lfs_at, file_size}

-- "At most 1,024 states (128 in an end set), 2,048 inner, 1,024 leaves"
pub record Bounds : Type 0 where
  pub states : ℕ
  pub inner : ℕ
  pub leaves : ℕ

abbrev pub set_bounds : Bounds
set_bounds = record { states = 1024; inner = 2048; leaves = 1024 }

abbrev pub end_bounds : Bounds
end_bounds = record { states = 128; inner = 2048; leaves = 1024 }

-- ---- scans that say where
-- the number of the first element that fails; their count where none does
abbrev pub first_bad : {X : Type 0} → (X → Bool) → List X → ℕ
first_bad test [] = 0
first_bad test (x ∷ xs) = cond (test x) (suc (first_bad test xs)) 0

abbrev pub passes : {X : Type 0} → (X → Bool) → List X → Bool
passes test xs = eqb (first_bad test xs) (length xs)

-- what is wrong with the first element that has a fault; 0 where none has
abbrev pub first_fault : {X : Type 0} → (X → ℕ) → List X → ℕ
first_fault fault [] = 0
first_fault fault (x ∷ xs) = cond (eqb (fault x) 0) (first_fault fault xs) (fault x)

-- ---- "the record's number in the file, HD being 0"
-- the kinds of record after HD, in the file's order
pub data RecordKind : Type 0 where
  of_lv : RecordKind
  of_tr : RecordKind
  of_lf : RecordKind

-- the number of a kind's record i, from 0: n+1 LV records stand before the TR records, and all of these before the LF records
abbrev pub record_no : Form → RecordKind → ℕ → ℕ
record_no F of_lv i = 1 + i
record_no F of_tr i = F.n + 2 + i
record_no F of_lf i = F.n + 2 + F.inner + i

-- 1: "set shorter than 12 bytes, or no HD"
unfoldable pub head_ok : List ℕ → Bool
head_ok s = leb hd_size (length s) && mark_at 72 68 s 0

-- 2: "version not 1"
unfoldable pub version_ok : List ℕ → Bool
version_ok s = eqb (get_or s 2 0) 1

-- 3: "n or k out of range, or the zero byte not zero"
abbrev pub n_most : ℕ
n_most = 20

unfoldable pub ranges_ok : List ℕ → Form → Bool
ranges_ok s F = leb 1 F.n && (leb F.n n_most && (leb F.k k_most && eqb (get_or s 5 0) 0))

-- 4: "a count over its bound"
unfoldable pub counts_ok : Bounds → Form → Bool
counts_ok b F = leb F.states b.states && (leb F.inner b.inner && leb F.leaves b.leaves)

-- 5: "length is not what the counts give"
unfoldable pub length_ok : List ℕ → Form → Bool
length_ok s F = eqb (length s) (file_size F)

-- 6: "a later mark is wrong": LV, TR, LF
abbrev pub lv_marks : List ℕ → Form → List Bool
lv_marks s F = records_from (mark_at 76 86 s) hd_size lv_size (levels F)

abbrev pub tr_marks : List ℕ → Form → List Bool
tr_marks s F = records_from (mark_at 84 82 s) (trs_at F) tr_size F.inner

abbrev pub lf_marks : List ℕ → Form → List Bool
lf_marks s F = records_from (mark_at 76 70 s) (lfs_at F) lf_size F.leaves

-- all of them, in the file's order
unfoldable pub later_marks : List ℕ → Form → List Bool
later_marks s F = lv_marks s F ++ (tr_marks s F ++ lf_marks s F)

unfoldable pub marks_ok : List ℕ → Form → Bool
marks_ok s F = passes (λ ok. ok) (later_marks s F)

-- the list begins with the first LV record
unfoldable pub mark_place : List ℕ → Form → ℕ
mark_place s F = record_no F of_lv (first_bad (λ ok. ok) (later_marks s F))

-- 7: "level 1 is empty, or level counts don't sum to states"
unfoldable pub levels_ok : ℕ → QSet → Bool
levels_ok states Q = not (eqb (roots Q) 0) && eqb (sum Q.counts) states

-- the level of a state, from 1; n+2 for a number that is on none
abbrev pub level_of : QSet → ℕ → ℕ
level_of Q s = level_in 1 Q.counts s

-- 81 to 84: "TR: state not on levels 1 to n, child not on the next level, or mask zero". What is wrong with a record: 0 nothing, 1 its state,
-- 2 its left child, 3 its right child, 4 its mask; "at one record 81 comes before 82, 83, 84".
unfoldable pub tr_fault : QSet → TR → ℕ
tr_fault Q (rec s m p) =
    cond (leb (level_of Q s) Q.n)
    (cond (eqb (level_of Q p.0) (suc (level_of Q s)))
    (cond (eqb (level_of Q p.1) (suc (level_of Q s)))
    (cond (eqb m 0) 4 0)
    3)
    2)
    1

unfoldable pub trs_ok : QSet → Bool
trs_ok Q = passes (λ t. eqb (tr_fault Q t) 0) Q.inner

-- "81 state on the wrong level, 82 left child, 83 right child, 84 empty mask"; "the earliest record wins, not the smaller number"
unfoldable pub tr_number : QSet → ℕ
tr_number Q = 80 + first_fault (tr_fault Q) Q.inner

unfoldable pub tr_place : Form → QSet → ℕ
tr_place F Q = record_no F of_tr (first_bad (λ t. eqb (tr_fault Q t) 0) Q.inner)

-- 9: "LF: state not on level n+1, mask zero, or a coefficient out of range"
unfoldable pub lf_ok : QSet → LF → Bool
lf_ok Q (rec s m x) = eqb (level_of Q s) (suc Q.n) && (not (eqb m 0) && in_range_l x)

unfoldable pub lfs_ok : QSet → Bool
lfs_ok Q = passes (lf_ok Q) Q.leaves

unfoldable pub lf_place : Form → QSet → ℕ
lf_place F Q = record_no F of_lf (first_bad (lf_ok Q) Q.leaves)

-- 10: "records of one kind out of order, or masks of one state overlap"
module _ {X : Type 0} where
  -- "strictly increase by state, then by least choice"
  abbrev pub precedes : Rec X → Rec X → Bool
  precedes (rec s m x) (rec q m' y) = ltb s q || (eqb s q && ltb (least m) (least m'))

  abbrev pub apart : Rec X → Rec X → Bool
  apart (rec s m x) (rec q m' y) = not (eqb s q) || eqb (bit_and m m') 0

  -- a record after the earlier ones, the latest of them first
  abbrev pub fits_after : List (Rec X) → Rec X → Bool
  fits_after [] t = true
  fits_after (p ∷ ps) t = precedes p t && passes (λ q. apart q t) (p ∷ ps)

  -- the number of the first record that clashes with an earlier one; their count where none does
  abbrev pub first_clash : List (Rec X) → List (Rec X) → ℕ
  first_clash earlier [] = 0
  first_clash earlier (t ∷ ts) = cond (fits_after earlier t) (suc (first_clash (t ∷ earlier) ts)) 0

  unfoldable pub ordered : List (Rec X) → Bool
  ordered ts = eqb (first_clash [] ts) (length ts)

unfoldable pub order_ok : QSet → Bool
order_ok Q = ordered Q.inner && ordered Q.leaves

-- "the later of the two that clash"; TR records stand before LF records
unfoldable pub clash_place : Form → QSet → ℕ
clash_place F Q = cond (ordered Q.inner) (record_no F of_lf (first_clash [] Q.leaves)) (record_no F of_tr (first_clash [] Q.inner))
