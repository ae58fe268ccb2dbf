-- Document 01, "What each gate builds": "The result has the roots and just those states that transitions reach from them. .. On each further
-- level states are numbered by first mention as the level above is read in record order, left first."
use Rattle.std.specs.Prelude.{Bool, cond, ◌||◌, false, List, [], ◌∷◌, ◌++◌, ℕ, zero, suc, ◌+◌, length}
use Rattle.automata.specs.Choice.{Alt, alt, map_alt}
use Rattle.automata.specs.Tree.{Automaton}
use Rattle.automata.specs.Sets.{Rec, rec, TR, LF}

-- the records of state s, and of the states of a list, numbered from s on
abbrev pub rows : {X : Type 0} → ℕ → List (Alt X) → List (Rec X)
rows s [] = []
rows s (alt m x ∷ us) = rec s m x ∷ rows s us

abbrev pub all_rows : {K X : Type 0} → (K → List (Alt X)) → ℕ → List K → List (Rec X)
all_rows f s [] = []
all_rows f s (x ∷ xs) = rows s (f x) ++ all_rows f (suc s) xs

-- the states on each level, and the records
pub record Built : Type 0 where
  pub counts : List ℕ
  pub inner : List TR
  pub leaves : List LF

abbrev pub on_top : ℕ → List TR → Built → Built
on_top c ts B = record { counts = c ∷ B.counts; inner = ts ++ B.inner; leaves = B.leaves }

module _ {K : Type 0} (same : K → K → Bool) where
  abbrev pub is_in : K → List K → Bool
  is_in k [] = false
  is_in k (x ∷ xs) = same x k || is_in k xs

  -- a state not mentioned before gets the next number
  abbrev pub mention : List K → K → List K
  mention ks k = cond (is_in k ks) ks (ks ++ (k ∷ []))

  -- "in record order, left first"
  abbrev pub mentions : List K → List (Alt (K × K)) → List K
  mentions ks [] = ks
  mentions ks (alt m p ∷ us) = mentions (mention (mention ks p.0) p.1) us

  abbrev pub mention_all : (K → List (Alt (K × K))) → List K → List K → List K
  mention_all f ks [] = ks
  mention_all f ks (x ∷ xs) = mention_all f (mentions ks (f x)) xs

  -- the place of a state among those mentioned
  abbrev pub place : K → List K → ℕ
  place k [] = 0
  place k (x ∷ xs) = cond (same x k) 0 (suc (place k xs))

  -- both children by number, where the level below begins at number b
  abbrev pub placed : ℕ → List K → K × K → ℕ × ℕ
  placed b ks p = (b + place p.0 ks, b + place p.1 ks)

  -- level i, with n levels of qubits from there on, whose states are ks, numbered from s on
  abbrev pub number : Automaton K → ℕ → ℕ → ℕ → List K → Built
  number A i zero s ks = record { counts = length ks ∷ []; inner = []; leaves = all_rows A.ends s ks }
  number A i (suc n) s ks =
      let next = mention_all (A.moves i) [] ks in
      on_top (length ks) (all_rows (λ x. map_alt (placed (s + length ks) next) (A.moves i x)) s ks) (number A (suc i) n (s + length ks) next)
