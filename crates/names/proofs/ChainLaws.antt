-- A bucket's last place is passed over by no key of the bucket, and a key that is put at the end changes the last place of its own bucket alone.
-- Assumes nothing.
use mathlib.Core.Path.{◌≡◌, refl, ap, ◌∙◌}
use mathlib.Core.Bool.{Bool, true, false, cond}
use mathlib.Core.List.{List}
use Prim.Native.Nat.{ℕ, zero, suc, ◌-◌, ◌<◌, ◌≤◌}
use native.Mathlib.Omega.{arith}
use native.Mathlib.Decide.{dec_lt}
use native.Mathlib.Nat.{mod-lt}
use lib.Dec.{eqb}
use lib.ListN.{get_or, set, replicate, length-replicate, get_or-replicate}
use lib.Seq.{get_or-set_other}
use borrow.Author.Tests.{eq-eqb, ne_eqb, eqb-true, eqb-false}
use Rattle.names.specs.Chain.{bucket_of, last_with, Chained}

pub bucket_below : (size key : ℕ) → 0 < size → bucket_of size key < size
unfolding bucket_of
bucket_below size key h = mod-lt _ h

module _ (size b : ℕ) (keys : List ℕ) where
  pub last_here : (n : ℕ) → bucket_of size (get_or keys n 0) ≡ b → last_with size b keys (suc n) ≡ suc n
  unfolding last_with
  last_here n e = rw (eq-eqb _ b e)

  pub last_before : (n : ℕ) → (bucket_of size (get_or keys n 0) ≡ b → ⊥) → last_with size b keys (suc n) ≡ last_with size b keys n
  unfolding last_with
  last_before n e = rw (ne_eqb _ b e)

  -- a chain goes to smaller places
  pub last_within : (n : ℕ) → last_with size b keys n ≤ n
  unfolding last_with
  last_within zero = omega arith
  last_within (suc n) = at (eqb (bucket_of size (get_or keys n 0)) b) (last_within n)
    where
      at : (t : Bool) {m : ℕ} → m ≤ n → cond t (suc n) m ≤ suc n
      at true h = omega arith
      at false h = omega arith

  -- what it leads to is of the bucket
  pub last_has : (n : ℕ) → (last_with size b keys n ≡ 0 → ⊥) → bucket_of size (get_or keys (last_with size b keys n - 1) 0) ≡ b
  unfolding last_with
  last_has zero h = absurd (h refl)
  last_has (suc n) h = at (eqb (bucket_of size (get_or keys n 0)) b) refl (last_has n) h
    where
      at : (t : Bool) {m : ℕ} → eqb (bucket_of size (get_or keys n 0)) b ≡ t → ((m ≡ 0 → ⊥) → bucket_of size (get_or keys (m - 1) 0) ≡ b)
          → (cond t (suc n) m ≡ 0 → ⊥) → bucket_of size (get_or keys (cond t (suc n) m - 1) 0) ≡ b
      at true e ih k = let z : suc n - 1 ≡ n = omega arith in rw z (eqb-true _ b e)
      at false e ih k = ih k

  -- and leaves out none of the bucket
  pub last_covers : (n j : ℕ) → j < n → bucket_of size (get_or keys j 0) ≡ b → j < last_with size b keys n
  unfolding last_with
  last_covers zero j l e = absurd (omega arith)
  last_covers (suc n) j l e = at (eqb (bucket_of size (get_or keys n 0)) b) refl (λ k. last_covers n j k e) (dec_lt j n)
    where
      at : (t : Bool) {m : ℕ} → eqb (bucket_of size (get_or keys n 0)) b ≡ t → (j < n → j < m) → Dec (j < n) → j < cond t (suc n) m
      at true t ih d = l
      at false t ih (yes k) = ih k
      at false t ih (no k) =
          let same : n ≡ j = omega arith in
          absurd (eqb-false _ b t (ap (λ (i : ℕ). bucket_of size (get_or keys i 0)) same ∙ e))

  -- keys from i on play no part in what comes before
  pub last_set : (i key n : ℕ) → n ≤ i → last_with size b (set keys i key) n ≡ last_with size b keys n
  unfolding last_with
  last_set i key zero h = refl
  last_set i key (suc n) h = rw (get_or-set_other keys i n key 0 (λ q. omega arith), last_set i key n (omega arith))

-- with no key mentioned, empty chains are right: what `begin` leaves
pub begun : (keys link heads : List ℕ) (size : ℕ) → 0 < size → heads ≡ replicate size 0 → Chained keys link heads 0
unfolding last_with
begun keys link heads size h e =
    rw e
    record {
      starts = λ b l. get_or-replicate size b 0 0 (rw length-replicate at l);
      goes = λ j l. absurd (omega arith);
      apart = λ i j k l. absurd (omega arith);
      named = omega arith;
      linked = omega arith;
      buckets = rw length-replicate h;
    }
