-- Numbering over stored keys is numbering over keys: a stored key is read back, and two are the same exactly if their keys are. Assumes nothing.
use mathlib.Core.Path.{◌≡◌, refl, ap, ap₂, ◌∙◌, subst}
use mathlib.Core.Bool.{Bool, true, false, cond, ◌||◌}
use mathlib.Core.List.{List, [], ◌∷◌, ◌++◌, map}
use Prim.Native.Nat.{ℕ, zero, suc, ◌+◌, ◌-◌, ◌*◌, ◌/◌, ◌%◌, ◌<◌}
use native.Mathlib.Omega.{arith}
use lib.ListN.{length}
use lib.Dec.{eqb}
use borrow.Author.Tests.{eq-eqb, ne_eqb, eqb-true}
use Rattle.automata.specs.Choice.{Alt, alt, map_alt}
use Rattle.automata.specs.Tree.{Automaton}
use Rattle.automata.specs.Sets.{TR, LF}
use Rattle.automata.proofs.Lists.{Each}
use Rattle.gates.specs.Key.{L, R, Key, plain, shifted, inside, pair, same_key, radix, packed, stored}
use Rattle.gates.specs.Numbering.{rows, all_rows, Built, on_top, is_in, mention, mentions, mention_all, place, placed, number}
use Rattle.gates.proofs.BuildShape.{Taken}
use Rattle.gates.proofs.Demand2.{key_sound, key_same}
use Rattle.gates.proofs.KeysApart.{Narrow, keys-apart}
use Rattle.stepwise.specs.Code.{tag_in, first_in, second_in, unstored}

-- ---- a stored key is read back
pub digits : (t q p : ℕ) → q < radix → p < radix → (tag_in (packed t q p) ≡ t) × (first_in (packed t q p) ≡ q) × (second_in (packed t q p) ≡ p)
digits t q p h k =
    let e : packed t q p / 65536 ≡ t * 65536 + q = omega arith in
    (ap (λ (x : ℕ). x / 65536) e ∙ omega arith, ap (λ (x : ℕ). x % 65536) e ∙ omega arith, omega arith)

pub unstored-stored : (x : Key) → Narrow x → unstored (stored x) ≡ x
unfolding unstored
unstored-stored (plain q) h = let d = digits 0 q 0 h.first h.second in rw (d.0, d.1)
unstored-stored (inside q) h = let d = digits 1 q 0 h.first h.second in rw (d.0, d.1)
unstored-stored (pair q p L) h = let d = digits 2 q p h.first h.second in rw (d.0, d.1, d.2)
unstored-stored (pair q p R) h = let d = digits 3 q p h.first h.second in rw (d.0, d.1, d.2)
unstored-stored (shifted j q) h =
    let d = digits (4 + j) q 0 h.first h.second in
    rw (d.0, d.1, ne_eqb (4 + j) 0 (λ e. omega arith), ne_eqb (4 + j) 1 (λ e. omega arith), ne_eqb (4 + j) 2 (λ e. omega arith), ne_eqb (4 + j) 3 (λ e. omega arith))
    (let e : 4 + j - 4 ≡ j = omega arith in ap (λ (i : ℕ). shifted i q) e)

pub stored_same : (x y : Key) → Narrow x → Narrow y → eqb (stored x) (stored y) ≡ same_key x y
stored_same x y h k = go (same_key x y) refl (eqb (stored x) (stored y)) refl
  where
    go : (a : Bool) → same_key x y ≡ a → (b : Bool) → eqb (stored x) (stored y) ≡ b → b ≡ a
    go true e true f = refl
    go true e false f = let z : ◌≡◌ {A = ℕ} 0 1 = cc (eq-eqb (stored x) (stored y) (ap stored (key_sound x y e)), f) in absurd (omega arith)
    go false e true f = let z : ◌≡◌ {A = ℕ} 0 1 = cc (keys-apart x y h k (eqb-true (stored x) (stored y) f), key_same x, ap (same_key x) (keys-apart x y h k (eqb-true (stored x) (stored y) f)), e) in absurd (omega arith)
    go false e false f = refl

-- ---- numbering through a code: once over any code that keeps apart the states P of each level, down to the last level
module _ {K J : Type 0} (same : K → K → Bool) (alike : J → J → Bool) (code : K → J) (A : Automaton K) (B : Automaton J) (P : ℕ → K → Type 0) (last : ℕ)
    (moved : (i : ℕ) (x : K) → i < last → P i x → B.moves i (code x) ≡ map_alt (λ p. (code p.0, code p.1)) (A.moves i x))
    (ended : (x : K) → P last x → B.ends (code x) ≡ A.ends x)
    (kids : (i : ℕ) (x : K) → i < last → P i x → Taken (λ p. P (suc i) p.0 × P (suc i) p.1) (A.moves i x))
    (agree : (i : ℕ) (x y : K) → P i x → P i y → alike (code x) (code y) ≡ same x y) where
  abbrev two : K × K → J × J
  two p = (code p.0, code p.1)

  -- the states of level i, in lists
  module _ (i : ℕ) where
    in_code : (k : K) (ks : List K) → P i k → Each (P i) ks → is_in alike (code k) (map code ks) ≡ is_in same k ks
    in_code k [] p h = refl
    in_code k (x ∷ ks) p h = ap₂ ◌||◌ (agree i x k h.0 p) (in_code k ks p h.1)

    place-code : (k : K) (ks : List K) → P i k → Each (P i) ks → place alike (code k) (map code ks) ≡ place same k ks
    place-code k [] p h = refl
    place-code k (x ∷ ks) p h = ap₂ (λ (b : Bool) (n : ℕ). cond b 0 (suc n)) (agree i x k h.0 p) (place-code k ks p h.1)

    map_last : (ks : List K) (k : K) → map code ks ++ (code k ∷ []) ≡ map code (ks ++ (k ∷ []))
    map_last [] k = refl
    map_last (x ∷ ks) k = ap (λ (l : List J). code x ∷ l) (map_last ks k)

    mention-code : (ks : List K) (k : K) → P i k → Each (P i) ks → mention alike (map code ks) (code k) ≡ map code (mention same ks k)
    mention-code ks k p h = ap (λ (b : Bool). cond b (map code ks) (map code ks ++ (code k ∷ []))) (in_code k ks p h) ∙ go (is_in same k ks)
      where
        go : (b : Bool) → cond b (map code ks) (map code ks ++ (code k ∷ [])) ≡ map code (cond b ks (ks ++ (k ∷ [])))
        go true = refl
        go false = map_last ks k

    mention-each : (ks : List K) (k : K) → P i k → Each (P i) ks → Each (P i) (mention same ks k)
    mention-each ks k p h = go (is_in same k ks)
      where
        put : (l : List K) → Each (P i) l → Each (P i) (l ++ (k ∷ []))
        put [] e = (p, tt)
        put (x ∷ l) e = (e.0, put l e.1)

        go : (b : Bool) → Each (P i) (cond b ks (ks ++ (k ∷ [])))
        go true = h
        go false = put ks h

    mentions-code : (ks : List K) (us : List (Alt (K × K))) → Taken (λ p. P i p.0 × P i p.1) us → Each (P i) ks
        → (mentions alike (map code ks) (map_alt two us) ≡ map code (mentions same ks us)) × Each (P i) (mentions same ks us)
    mentions-code ks [] t h = (refl, h)
    mentions-code ks (alt m p ∷ us) t h =
        let one : List K = mention same ks p.0 in
        let h₁ : Each (P i) one = mention-each ks p.0 t.0.0 h in
        let h₂ : Each (P i) (mention same one p.1) = mention-each one p.1 t.0.1 h₁ in
        let r = mentions-code (mention same one p.1) us t.1 h₂ in (
          ap (λ (l : List J). mentions alike (mention alike l (code p.1)) (map_alt two us)) (mention-code ks p.0 t.0.0 h)
              ∙ ap (λ (l : List J). mentions alike l (map_alt two us)) (mention-code one p.1 t.0.1 h₁) ∙ r.0,
          r.1,
        )

    length-code : (ks : List K) → length (map code ks) ≡ length ks
    length-code [] = refl
    length-code (k ∷ ks) = ap suc (length-code ks)

    placed-code : (b : ℕ) (ks : List K) (us : List (Alt (K × K))) → Each (P i) ks → Taken (λ p. P i p.0 × P i p.1) us
        → map_alt (placed alike b (map code ks)) (map_alt two us) ≡ map_alt (placed same b ks) us
    placed-code b ks [] h t = refl
    placed-code b ks (alt m p ∷ us) h t =
        let l = place-code p.0 ks t.0.0 h in
        let r = place-code p.1 ks t.0.1 h in
        rw (l, r, placed-code b ks us h t.1)

  -- the states of the next level
  pub all-code : (i : ℕ) (xs ks : List K) → i < last → Each (P i) xs → Each (P (suc i)) ks
      → (mention_all alike (B.moves i) (map code ks) (map code xs) ≡ map code (mention_all same (A.moves i) ks xs)) × Each (P (suc i)) (mention_all same (A.moves i) ks xs)
  all-code i [] ks l p h = (refl, h)
  all-code i (x ∷ xs) ks l p h =
      let m = mentions-code (suc i) ks (A.moves i x) (kids i x l p.0) h in
      let r = all-code i xs (mentions same ks (A.moves i x)) l p.1 m.1 in (
        ap (λ (us : List (Alt (J × J))). mention_all alike (B.moves i) (mentions alike (map code ks) us) (map code xs)) (moved i x l p.0)
            ∙ ap (λ (u : List J). mention_all alike (B.moves i) u (map code xs)) m.0 ∙ r.0,
        r.1,
      )

  rows_code : (i b s : ℕ) (next ks : List K) → i < last → Each (P (suc i)) next → Each (P i) ks
      → all_rows (λ x. map_alt (placed alike b (map code next)) (B.moves i x)) s (map code ks) ≡ all_rows (λ x. map_alt (placed same b next) (A.moves i x)) s ks
  rows_code i b s next [] l n h = refl
  rows_code i b s next (k ∷ ks) l n h =
      ap₂ ◌++◌ (ap (rows s) (ap (map_alt (placed alike b (map code next))) (moved i k l h.0) ∙ placed-code (suc i) b next (A.moves i k) n (kids i k l h.0))) (rows_code i b (suc s) next ks l n h.1)

  ends-code : (s : ℕ) (ks : List K) → Each (P last) ks → all_rows B.ends s (map code ks) ≡ all_rows A.ends s ks
  ends-code s [] h = refl
  ends-code s (k ∷ ks) h = ap₂ ◌++◌ (ap (rows s) (ended k h.0)) (ends-code (suc s) ks h.1)

  pub number-code : (n i s : ℕ) (ks : List K) → i + n ≡ last → Each (P i) ks → number alike B i n s (map code ks) ≡ number same A i n s ks
  number-code zero i s ks e h =
      let here : i ≡ last = omega arith in
      ap₂ (λ (c : ℕ) (ls : List LF). record { counts = c ∷ []; inner = []; leaves = ls }) (length-code i ks) (ends-code s ks (subst (λ (j : ℕ). Each (P j) ks) here h))
  number-code (suc n) i s ks e h =
      let next : List K = mention_all same (A.moves i) [] ks in
      let above : i < last = omega arith in
      let m = all-code i ks [] above h tt in
      ap₂ (λ (c : ℕ) (l : List J). on_top c (all_rows (λ x. map_alt (placed alike (s + c) l) (B.moves i x)) s (map code ks)) (number alike B (suc i) n (s + c) l)) (length-code i ks) m.0
      ∙ ap₂ (λ (ts : List TR) (X : Built). on_top (length ks) ts X) (rows_code i (s + length ks) s next ks above m.1 h) (number-code n (suc i) (s + length ks) next (omega arith) m.1)
