-- Document 01, "numbered by first mention as the level above is read in record order, left first": one level's records and the next level's states,
-- grown one record at a time, as a loop does it.
use Rattle.std.specs.Prelude.{List, [], ◌∷◌, ◌++◌, Bool, ℕ, suc, ◌+◌}
use Rattle.automata.specs.Choice.{Alt, alt}
use Rattle.automata.specs.Sets.{TR, rec}
use Rattle.gates.specs.Numbering.{mention, place}

-- the records of a level so far, and the states of the next level mentioned so far
pub record Level (K : Type 0) : Type 0 where
  pub records : List TR
  pub keys : List K

abbrev pub begun : {K : Type 0} → Level K
begun = record { records = []; keys = [] }

module _ {K : Type 0} (same : K → K → Bool) (base : ℕ) where
  -- one record more: both children mentioned, left first, and numbered from base on
  unfoldable pub grow : ℕ → ℕ → K → K → Level K → Level K
  grow s m l r G =
      let left = mention same G.keys l in
      record { records = G.records ++ (rec s m (base + place same l left, base + place same r (mention same left r)) ∷ []); keys = mention same left r }

  -- the records of state s
  unfoldable pub grow_state : ℕ → List (Alt (K × K)) → Level K → Level K
  grow_state s [] G = G
  grow_state s (alt m p ∷ us) G = grow_state s us (grow s m p.0 p.1 G)

  -- of the states of a list, numbered from s on
  unfoldable pub grow_all : (K → List (Alt (K × K))) → ℕ → List K → Level K → Level K
  grow_all f s [] G = G
  grow_all f s (k ∷ ks) G = grow_all f (suc s) ks (grow_state s (f k) G)
