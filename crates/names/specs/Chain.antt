-- The keys mentioned so far, with chains through them: a key has a bucket, and a chain goes through the places of one bucket's keys, from the
-- last to the first. A cell holds a place and one more, or 0 where no place is left.
use Rattle.std.specs.Prelude.{◌≡◌, cond, List, ℕ, zero, suc, ◌+◌, ◌*◌, ◌/◌, ◌%◌, ◌<◌, ◌≤◌, eqb, length, get_or}

-- the bucket of a key, of so many: its lowest 16 bits, the next 16 and the upper half, weighed so that keys which differ in one part seldom meet
unfoldable pub bucket_of : ℕ → ℕ → ℕ
bucket_of size key = (key % 65536 + key / 65536 % 65536 * 37 + key / 4294967296 * 7) % size

-- of the first n keys the last with bucket b: its place and one more, 0 where there is none
unfoldable pub last_with : ℕ → ℕ → List ℕ → ℕ → ℕ
last_with size b keys zero = 0
last_with size b keys (suc n) = cond (eqb (bucket_of size (get_or keys n 0)) b) (suc n) (last_with size b keys n)

-- `count` keys, all different, with the chains through them: `heads` has where each bucket's chain starts, `link` where it goes on from a place
pub record Chained (keys link heads : List ℕ) (count : ℕ) : Type 0 where
  pub starts : (b : ℕ) → b < length heads → get_or heads b 0 ≡ last_with (length heads) b keys count
  pub goes : (j : ℕ) → j < count → get_or link j 0 ≡ last_with (length heads) (bucket_of (length heads) (get_or keys j 0)) keys j
  pub apart : (i j : ℕ) → i < j → j < count → get_or keys i 0 ≡ get_or keys j 0 → ⊥
  pub named : count ≤ length keys
  pub linked : count ≤ length link
  pub buckets : 0 < length heads
