-- What numbering builds stands level by level: each record's state on its level, its children on the next, leaves on the last; in order; and
-- what holds of a level's states by what they are (P) holds of every leaf (L). Assumes nothing.
use mathlib.Core.Path.{◌≡◌, refl, sym, ap, ◌∙◌, subst}
use mathlib.Core.Bool.{Bool, true, false, cond, ◌||◌}
use mathlib.Core.List.{List, [], ◌∷◌, ◌++◌}
use Prim.Native.Nat.{ℕ, zero, suc, ◌+◌, ◌-◌, ◌<◌, ◌≤◌}
use native.Mathlib.Omega.{arith}
use lib.ListN.{length}
use Rattle.amplitude.specs.Leaf.{Leaf}
use Rattle.automata.specs.Choice.{Alt, alt, map_alt}
use Rattle.automata.specs.Tree.{Automaton}
use Rattle.automata.specs.Sets.{rec, TR, LF, level_in}
use Rattle.automata.proofs.Masks.{Mask}
use Rattle.automata.proofs.Choosing.{disjoint_map}
use Rattle.automata.proofs.Order.{masked-map, rising-map}
use Rattle.automata.proofs.Lists.{Each, Strictly, each_map, each_append}
use Rattle.stored.proofs.OrderLaws.{Follows}
use Rattle.stored.proofs.Levels.{level-first, level-later}
use Rattle.gates.specs.Numbering.{all_rows, is_in, mention, mentions, mention_all, placed, number}
use Rattle.gates.proofs.NumberingLaws.{Mentioned, covered, place_lt}
use Rattle.gates.proofs.BuildShape.{Taken, state_in, RowOf, Fine, all-each, all_strict, strict_join, rows-below}

-- a TR record among levels that begin with level i and number s, n qubits from there on
pub record StandsTR (i s n : ℕ) (cs : List ℕ) (q m l r : ℕ) : Type 0 where
  pub from : s ≤ q
  pub left_from : s ≤ l
  pub right_from : s ≤ r
  pub state : level_in i cs (q - s) < i + n
  pub left : level_in i cs (l - s) ≡ suc (level_in i cs (q - s))
  pub right : level_in i cs (r - s) ≡ suc (level_in i cs (q - s))
  pub mask : Mask m

-- an LF record there
pub record StandsLF (L : Leaf → Type 0) (i s n : ℕ) (cs : List ℕ) (q m : ℕ) (x : Leaf) : Type 0 where
  pub from : s ≤ q
  pub state : level_in i cs (q - s) ≡ i + n
  pub mask : Mask m
  pub leaf : L x

abbrev pub TRStands : ℕ → ℕ → ℕ → List ℕ → TR → Type 0
TRStands i s n cs (rec q m p) = StandsTR i s n cs q m p.0 p.1

abbrev pub LFStands : (Leaf → Type 0) → ℕ → ℕ → ℕ → List ℕ → LF → Type 0
LFStands L i s n cs (rec q m x) = StandsLF L i s n cs q m x

-- seen from one level higher
lower : (i s c : ℕ) (cs : List ℕ) (q : ℕ) → s + c ≤ q → level_in i (c ∷ cs) (q - s) ≡ level_in (suc i) cs (q - (s + c))
lower i s c cs q h = level-later i c cs (q - s) (omega arith) ∙ (let e : q - s - c ≡ q - (s + c) = omega arith in ap (level_in (suc i) cs) e)

lift_tr : (i s n c : ℕ) (cs : List ℕ) (t : TR) → TRStands (suc i) (s + c) n cs t → TRStands i s (suc n) (c ∷ cs) t
lift_tr i s n c cs (rec q m p) h =
    let a = lower i s c cs q h.from in
    record {
      from = omega (arith, h.from);
      left_from = omega (arith, h.left_from);
      right_from = omega (arith, h.right_from);
      state = omega (arith, a, h.state);
      left = lower i s c cs p.0 h.left_from ∙ h.left ∙ ap suc (sym a);
      right = lower i s c cs p.1 h.right_from ∙ h.right ∙ ap suc (sym a);
      mask = h.mask;
    }

lift_lf : (L : Leaf → Type 0) (i s n c : ℕ) (cs : List ℕ) (l : LF) → LFStands L (suc i) (s + c) n cs l → LFStands L i s (suc n) (c ∷ cs) l
lift_lf L i s n c cs (rec q m x) h =
    record { from = omega (arith, h.from); state = lower i s c cs q h.from ∙ h.state ∙ (let e : suc i + n ≡ i + suc n = omega arith in e); mask = h.mask; leaf = h.leaf }

-- ---- states that are mentioned
module _ {K : Type 0} (eq : K → K → Bool) (P : K → Type 0) where
  mention-each : (ks : List K) (k : K) → Each P ks → P k → Each P (mention eq ks k)
  mention-each ks k h p = go (is_in eq k ks)
    where
      go : (b : Bool) → Each P (cond b ks (ks ++ (k ∷ [])))
      go true = h
      go false = each_append P ks (k ∷ []) h (p, tt)

  mentions-each : (ks : List K) (us : List (Alt (K × K))) → Each P ks → Taken (λ p. P p.0 × P p.1) us → Each P (mentions eq ks us)
  mentions-each ks [] h t = h
  mentions-each ks (alt m p ∷ us) h t = mentions-each (mention eq (mention eq ks p.0) p.1) us (mention-each (mention eq ks p.0) p.1 (mention-each ks p.0 h t.0.0) t.0.1) t.1

  mention-all-each : (f : K → List (Alt (K × K))) (ks xs : List K) → Each P ks → Each (λ x. Taken (λ p. P p.0 × P p.1) (f x)) xs → Each P (mention_all eq f ks xs)
  mention-all-each f ks [] h t = h
  mention-all-each f ks (x ∷ xs) h t = mention-all-each f (mentions eq ks (f x)) xs (mentions-each ks (f x) h t.0) t.1

-- both children by number are in the next level
abbrev Next : ℕ → ℕ → ℕ × ℕ → Type 0
Next b c p = ((b ≤ p.0) × (p.0 < b + c)) × ((b ≤ p.1) × (p.1 < b + c))

placed-next : {K : Type 0} (eq : K → K → Bool) (same : (x : K) → eq x x ≡ true) (b : ℕ) (ks : List K) (us : List (Alt (K × K))) → Mentioned eq same ks us → Taken (Next b (length ks)) (map_alt (placed eq b ks) us)
placed-next eq same b ks [] m = tt
placed-next eq same b ks (alt n p ∷ us) m =
    let x = place_lt eq p.0 ks m.0 in
    let y = place_lt eq p.1 ks m.1 in
    (((omega arith, omega arith), (omega arith, omega arith)), placed-next eq same b ks us m.2)

module _ {K : Type 0} (eq : K → K → Bool) (same : (x : K) → eq x x ≡ true) (sound : (x y : K) → eq x y ≡ true → x ≡ y) (A : Automaton K)
    (P : ℕ → K → Type 0) (L : Leaf → Type 0) (last : ℕ)
    (moved : (i : ℕ) (x : K) → P i x → Fine (λ p. P (suc i) p.0 × P (suc i) p.1) (A.moves i x)) (ended : (x : K) → P last x → Fine L (A.ends x)) where
  -- each state of a list is in it
  in_self : (pre ks : List K) → ((x : K) → is_in eq x ks ≡ true → is_in eq x pre ≡ true) → Each (λ x. is_in eq x pre ≡ true) ks
  in_self pre [] h = tt
  in_self pre (k ∷ ks) h = (h k (rw (same k)), in_self pre ks (λ x e. h x (rw e (or_true (eq k x)))))
    where
      or_true : (b : Bool) → b || true ≡ true
      or_true true = refl
      or_true false = refl

  counts-first : (n i s : ℕ) (ks : List K) (x : ℕ) → x < length ks → level_in i (number eq A i n s ks).counts x ≡ i
  counts-first zero i s ks x h = level-first i (length ks) [] x h
  counts-first (suc n) i s ks x h = level-first i (length ks) (number eq A (suc i) n (s + length ks) (mention_all eq (A.moves i) [] ks)).counts x h

  pub counted : (n i s : ℕ) (ks : List K) → length (number eq A i n s ks).counts ≡ suc n
  counted zero i s ks = refl
  counted (suc n) i s ks = ap suc (counted n (suc i) (s + length ks) (mention_all eq (A.moves i) [] ks))

  module _ (i n s : ℕ) (ks : List K) where
    next : List K
    next = mention_all eq (A.moves i) [] ks

    abbrev f : K → List (Alt (ℕ × ℕ))
    f y = map_alt (placed eq (s + length ks) next) (A.moves i y)

    next-each : Each (P i) ks → Each (P (suc i)) next
    unfolding next
    next-each h = mention-all-each eq (P (suc i)) (A.moves i) [] ks tt (each_map (P i) (λ x. Taken (λ p. P (suc i) p.0 × P (suc i) p.1) (A.moves i x)) (λ x p. (moved i x p).takes) ks h)

    this_fine : Each (P i) ks → Each (λ k. Fine (Next (s + length ks) (length next)) (f k)) ks
    unfolding next
    this_fine h = go ks h (in_self ks ks (λ x e. e))
      where
        go : (xs : List K) → Each (P i) xs → Each (λ x. is_in eq x ks ≡ true) xs → Each (λ k. Fine (Next (s + length ks) (length next)) (f k)) xs
        go [] p m = tt
        go (x ∷ xs) p m =
            let u = moved i x p.0 in (
              record {
                masked = masked-map (placed eq (s + length ks) next) (A.moves i x) u.masked;
                rising = rising-map (placed eq (s + length ks) next) (A.moves i x) u.rising;
                disjoint = disjoint_map (placed eq (s + length ks) next) (A.moves i x) u.disjoint;
                takes = placed-next eq same (s + length ks) next (A.moves i x) (covered eq same sound (A.moves i) ks [] x m.0);
              },
              go xs p.1 m.1,
            )

    abbrev below : List ℕ
    below = (number eq A (suc i) n (s + length ks) next).counts

    -- a row of this level stands
    row-stands : (t : TR) → RowOf (Next (s + length ks) (length next)) s (s + length ks) t → TRStands i s (suc n) (length ks ∷ below) t
    unfolding next
    row-stands (rec q m p) h =
        let here : level_in i (length ks ∷ below) (q - s) ≡ i = level-first i (length ks) below (q - s) (omega (arith, h.from, h.below)) in
        let child : (x : ℕ) → s + length ks ≤ x → x < s + length ks + length next → level_in i (length ks ∷ below) (x - s) ≡ suc i =
        λ x u v. lower i s (length ks) below x u ∙ counts-first n (suc i) (s + length ks) next (x - (s + length ks)) (omega arith) in
        record {
          from = h.from;
          left_from = omega (arith, h.takes.0.0);
          right_from = omega (arith, h.takes.1.0);
          state = omega (arith, here);
          left = child p.0 h.takes.0.0 h.takes.0.1 ∙ ap suc (sym here);
          right = child p.1 h.takes.1.0 h.takes.1.1 ∙ ap suc (sym here);
          mask = h.mask;
        }

  pub stand_tr : (n i s : ℕ) (ks : List K) → Each (P i) ks → Each (TRStands i s n (number eq A i n s ks).counts) (number eq A i n s ks).inner
  unfolding next
  stand_tr zero i s ks h = tt
  stand_tr (suc n) i s ks h =
      each_append _ (all_rows (f i n s ks) s ks) (number eq A (suc i) n (s + length ks) (next i n s ks)).inner
      (each_map (RowOf (Next (s + length ks) (length (next i n s ks))) s (s + length ks)) (TRStands i s (suc n) (length ks ∷ below i n s ks)) (row-stands i n s ks) (all_rows (f i n s ks) s ks)
      (all-each (Next (s + length ks) (length (next i n s ks))) (f i n s ks) s ks (this_fine i n s ks h)))
      (each_map (TRStands (suc i) (s + length ks) n (below i n s ks)) (TRStands i s (suc n) (length ks ∷ below i n s ks)) (lift_tr i s n (length ks) (below i n s ks))
      (number eq A (suc i) n (s + length ks) (next i n s ks)).inner (stand_tr n (suc i) (s + length ks) (next i n s ks) (next-each i n s ks h)))

  pub stand_lf : (n i s : ℕ) (ks : List K) → i + n ≡ last → Each (P i) ks → Each (LFStands L i s n (number eq A i n s ks).counts) (number eq A i n s ks).leaves
  unfolding next
  stand_lf zero i s ks e h =
      each_map (RowOf L s (s + length ks)) (LFStands L i s 0 (length ks ∷ [])) row (all_rows A.ends s ks)
      (all-each L A.ends s ks (each_map (P i) (λ k. Fine L (A.ends k)) (λ x p. ended x (subst (λ (j : ℕ). P j x) (let e' : i ≡ last = omega arith in e') p)) ks h))
    where
      row : (l : LF) → RowOf L s (s + length ks) l → LFStands L i s 0 (length ks ∷ []) l
      row (rec q m x) r =
          record { from = r.from; state = level-first i (length ks) [] (q - s) (omega (arith, r.from, r.below)) ∙ (let e' : i ≡ i + 0 = omega arith in e'); mask = r.mask; leaf = r.takes }
  stand_lf (suc n) i s ks e h =
      each_map (LFStands L (suc i) (s + length ks) n (below i n s ks)) (LFStands L i s (suc n) (length ks ∷ below i n s ks)) (lift_lf L i s n (length ks) (below i n s ks))
      (number eq A (suc i) n (s + length ks) (next i n s ks)).leaves (stand_lf n (suc i) (s + length ks) (next i n s ks) (omega arith) (next-each i n s ks h))

  -- ---- in order
  tr-from : (n i s : ℕ) (cs : List ℕ) (ts : List TR) → Each (TRStands i s n cs) ts → Each (λ t. s ≤ state_in t) ts
  tr-from n i s cs [] h = tt
  tr-from n i s cs (rec q m p ∷ ts) h = (h.0.from, tr-from n i s cs ts h.1)

  pub strict_tr : (n i s : ℕ) (ks : List K) → Each (P i) ks → Strictly Follows (number eq A i n s ks).inner
  unfolding next
  strict_tr zero i s ks h = tt
  strict_tr (suc n) i s ks h =
      let N : ℕ × ℕ → Type 0 = Next (s + length ks) (length (next i n s ks)) in
      let rest : List TR = (number eq A (suc i) n (s + length ks) (next i n s ks)).inner in
      strict_join (s + length ks) (all_rows (f i n s ks) s ks) (number eq A (suc i) n (s + length ks) (next i n s ks)).inner
      (all_strict N (f i n s ks) s ks (this_fine i n s ks h)) (strict_tr n (suc i) (s + length ks) (next i n s ks) (next-each i n s ks h))
      (rows-below N s (s + length ks) (all_rows (f i n s ks) s ks) (all-each N (f i n s ks) s ks (this_fine i n s ks h)))
      (tr-from n (suc i) (s + length ks) (below i n s ks) rest (stand_tr n (suc i) (s + length ks) (next i n s ks) (next-each i n s ks h)))

  pub strict_lf : (n i s : ℕ) (ks : List K) → i + n ≡ last → Each (P i) ks → Strictly Follows (number eq A i n s ks).leaves
  unfolding next
  strict_lf zero i s ks e h = all_strict L A.ends s ks (each_map (P i) (λ k. Fine L (A.ends k)) (λ x p. ended x (subst (λ (j : ℕ). P j x) (let e' : i ≡ last = omega arith in e') p)) ks h)
  strict_lf (suc n) i s ks e h = strict_lf n (suc i) (s + length ks) (next i n s ks) (omega arith) (next-each i n s ks h)
