-- Meeting choice by choice comes to the definitions' meeting in order of least choice: both lists strictly rise, and both hold just the pairs
-- of alternatives whose masks meet. What is left of the choices is always a union of whole meetings. Assumes nothing.
use mathlib.Core.Path.{◌≡◌, refl, sym, ap, ap₂, ◌∙◌, subst}
use mathlib.Core.Bool.{Bool, true, false, ◌&&◌, not}
use mathlib.Core.List.{List, [], ◌∷◌, Memᴰ}
use Prim.Native.Nat.{ℕ, zero, suc, ◌+◌, ◌^◌, ◌<◌, ◌≤◌}
use native.Mathlib.Omega.{arith}
use lib.Dec.{eqb, ltb}
use lib.Bits.{bit_and, bit_xor, and_le_l, or_lt, xor_lt}
use borrow.Author.Tests.{eqb-true, eqb-false, ltb-true, ltb-false}
use Rattle.amplitude.proofs.Equal.{both}
use Rattle.automata.specs.Choice.{has, least, Alt, alt, mask_of, meets, together}
use Rattle.automata.proofs.Masks.{has-and, has_without, has-zero, Mask, least_in, least-is, below-least, least-small}
use Rattle.automata.proofs.Choosing.{Disjoint}
use Rattle.automata.proofs.Order.{Masked, rising-together}
use Rattle.automata.proofs.Lists.{Each, Strictly, each_mem, strict_same}
use Rattle.stepwise.specs.Meet.{union, pick, joined, mask_of_joined, meet_left}
use Rattle.stepwise.proofs.Meetings.{union-has, has-union, pick_is, masked_mem, Sooner, sooner_asym, rising_strict, sorted_mem, mem_sorted, Met, meets_met, met_meets}

module _ {X Y Z : Type 0} (f : X → Y → Z) where
  -- ---- choice by choice
  module _ (us : List (Alt X)) (vs : List (Alt Y)) (mu : Masked us) (mv : Masked vs) (du : Disjoint us) (dv : Disjoint vs) (dx : Alt X) (dy : Alt Y) where
    abbrev u : ℕ → Alt X
    u c = pick dx c us

    abbrev v : ℕ → Alt Y
    v c = pick dy c vs

    abbrev met : ℕ → ℕ
    met c = mask_of_joined f dx dy (u c) (v c)

    -- what is left: choices from c on that both states have, in whole meetings
    record Left (c left : ℕ) : Type 0 where
      small : left < 2 ^ 32
      from : (d : ℕ) → d < c → has left d ≡ false
      both' : (d : ℕ) → has left d ≡ true → (has (union us) d ≡ true) × (has (union vs) d ≡ true)
      whole : (d e : ℕ) → has left d ≡ true → has (met d) e ≡ true → has left e ≡ true

    -- the pair at a choice that is left
    record At (left d : ℕ) : Type 0 where
      in_us : Memᴰ (u d) us
      in_vs : Memᴰ (v d) vs
      has_u : has (mask_of (u d)) d ≡ true
      has_v : has (mask_of (v d)) d ≡ true

    at : (c left d : ℕ) → Left c left → has left d ≡ true → At left d
    at c left d h e =
        let b = h.both' d e in
        let x = union-has us d dx b.0 in
        let y = union-has vs d dy b.1 in
        record { in_us = x.0; in_vs = y.0; has_u = x.1; has_v = y.1 }

    -- a meeting's mask, by its two alternatives
    met_has : (a : Alt X) (b : Alt Y) (d : ℕ) → has (mask_of_joined f dx dy a b) d ≡ has (mask_of a) d && has (mask_of b) d
    met_has (alt m x) (alt n y) d = has-and m n d

    and-true : (a b : Bool) → a ≡ true → b ≡ true → a && b ≡ true
    and-true a b e g = ap₂ ◌&&◌ e g

    met_at : (c left d : ℕ) (h : Left c left) (e : has left d ≡ true) → has (met d) d ≡ true
    met_at c left d h e = let p = at c left d h e in met_has (u d) (v d) d ∙ and-true _ _ p.has_u p.has_v

    -- the pair at any of a meeting's choices is that meeting's pair
    same_u : (a : Alt X) (d : ℕ) → Memᴰ a us → has (mask_of a) d ≡ true → u d ≡ a
    same_u (alt m x) d h e = pick_is us m d x dx du h e

    same_v : (b : Alt Y) (d : ℕ) → Memᴰ b vs → has (mask_of b) d ≡ true → v d ≡ b
    same_v (alt m y) d h e = pick_is vs m d y dy dv h e

    mask_u : (a : Alt X) → Memᴰ a us → Mask (mask_of a)
    mask_u (alt m x) h = masked_mem us m x mu h

    met_small : (a : Alt X) (b : Alt Y) → Mask (mask_of a) → mask_of_joined f dx dy a b < 2 ^ 32
    met_small (alt m x) (alt n y) k = omega (arith, and_le_l m n, k.small)

    -- ---- one step
    least-left : (c left : ℕ) → Left c left → (left ≡ 0 → ⊥) → Mask left
    least-left c left h s = record { some = omega arith; small = h.small }

    step : (c left : ℕ) → (h : Left c left) → (s : left ≡ 0 → ⊥) → Left (suc (least left)) (bit_xor left (met (least left)))
    step c left h s =
        let k : Mask left = least-left c left h s in
        let e : has left (least left) ≡ true = least_in left k in
        let p = at c left (least left) h e in
        let sub : (d : ℕ) → has (met (least left)) d ≡ true → has left d ≡ true = λ d g. h.whole (least left) d e g in
        let gone : (d : ℕ) → has (bit_xor left (met (least left))) d ≡ has left d && not (has (met (least left)) d) = λ d. has_without left (met (least left)) d (sub d) in
        record {
          small = xor_lt 32 left (met (least left)) h.small (met_small (u (least left)) (v (least left)) (mask_u (u (least left)) p.in_us));
          from = λ d l. gone d ∙ low d l (ltb d (least left)) refl;
          both' = λ d g. h.both' d (both (has left d) _ (sym (gone d) ∙ g)).0;
          whole = λ d d' g q. gone d' ∙ stay d d' (both (has left d) _ (sym (gone d) ∙ g)) q (has (met (least left)) d') refl;
        }
      where
        low : (d : ℕ) → d < suc (least left) → (b : Bool) → ltb d (least left) ≡ b → has left d && not (has (met (least left)) d) ≡ false
        low d l true e = ap (λ (b : Bool). b && not (has (met (least left)) d)) (below-least left d (ltb-true d (least left) e))
        low d l false e =
            let same : d ≡ least left = omega (arith, ltb-false d (least left) e) in
            let g : has (met (least left)) (least left) ≡ true = met_at c left (least left) h (least_in left (least-left c left h s)) in
            ap (λ (b : Bool). has left d && not b) (ap (has (met (least left))) same ∙ g) ∙ never (has left d)
          where
            never : (b : Bool) → b && false ≡ false
            never true = refl
            never false = refl

        -- another meeting keeps all its choices: one that it shared with the meeting that goes would make the two one
        stay : (d d' : ℕ) → (has left d ≡ true) × (not (has (met (least left)) d) ≡ true) → has (met d) d' ≡ true → (b : Bool) → has (met (least left)) d' ≡ b
            → has left d' && not b ≡ true
        stay d d' g q false e = and-true (has left d') true (h.whole d d' g.0 q) refl
        stay d d' g q true e =
            let c₀ : ℕ = least left in
            let p = at c left c₀ h (least_in left (least-left c left h s)) in
            let r = at c left d h g.0 in
            let x = both (has (mask_of (u c₀)) d') _ (sym (met_has (u c₀) (v c₀) d') ∙ e) in
            let y = both (has (mask_of (u d)) d') _ (sym (met_has (u d) (v d) d') ∙ q) in
            let eu : u c₀ ≡ u d = sym (same_u (u c₀) d' p.in_us x.0) ∙ same_u (u d) d' r.in_us y.0 in
            let ev : v c₀ ≡ v d = sym (same_v (v c₀) d' p.in_vs x.1) ∙ same_v (v d) d' r.in_vs y.1 in
            let t : has (met c₀) d ≡ true = ap₂ (λ (a : Alt X) (b : Alt Y). has (mask_of_joined f dx dy a b) d) eu ev ∙ met_at c left d h g.0 in
            let z : ◌≡◌ {A = ℕ} 0 1 = cc (t, g.1) in
            absurd (omega arith)

    -- ---- what is emitted: meetings, each at its least choice
    joined_met : (a : Alt X) (b : Alt Y) (d : ℕ) → Memᴰ a us → Memᴰ b vs → has (mask_of_joined f dx dy a b) d ≡ true → Met f us vs (joined f dx dy a b)
    joined_met (alt m x) (alt n y) d h k e =
        record { m = m; x = x; m' = n; y = y; left = h; right = k; some = λ z. (let w : ◌≡◌ {A = ℕ} 0 1 = cc (e, ap (λ (i : ℕ). has i d) z, has-zero d) in omega arith); is = refl }

    mask-joined : (a : Alt X) (b : Alt Y) → mask_of (joined f dx dy a b) ≡ mask_of_joined f dx dy a b
    mask-joined (alt m x) (alt n y) = refl

    record Emitted (c : ℕ) (a : Alt Z) : Type 0 where
      met' : Met f us vs a
      late : c ≤ least (mask_of a)

    later : (c c' : ℕ) → c ≤ c' → (as' : List (Alt Z)) → Each (Emitted c') as' → Each (Emitted c) as'
    later c c' l [] h = tt
    later c c' l (a ∷ as') h = (record { met' = h.0.met'; late = omega (arith, h.0.late) }, later c c' l as' h.1)

    left-from : (c left : ℕ) (h : Left c left) (s : left ≡ 0 → ⊥) → c ≤ least left
    left-from c left h s = go (ltb (least left) c) refl
      where
        go : (b : Bool) → ltb (least left) c ≡ b → c ≤ least left
        go true e = let z : ◌≡◌ {A = ℕ} 0 1 = cc (h.from (least left) (ltb-true (least left) c e), least_in left (least-left c left h s)) in absurd (omega arith)
        go false e = ltb-false (least left) c e

    head_least : (c left : ℕ) (h : Left c left) (s : left ≡ 0 → ⊥) → least (met (least left)) ≡ least left
    head_least c left h s =
        let k = least-left c left h s in
        let e = least_in left k in
        let p = at c left (least left) h e in
        let g : has (met (least left)) (least left) ≡ true = met_at c left (least left) h e in
        least-is (met (least left)) (least left)
        (record { some = nonzero (met (least left)) g; small = met_small (u (least left)) (v (least left)) (mask_u (u (least left)) p.in_us) }) g
        (λ d l. go d l (has (met (least left)) d) refl)
      where
        nonzero : (m : ℕ) → has m (least left) ≡ true → 0 < m
        nonzero zero q = let z : ◌≡◌ {A = ℕ} 0 1 = cc (q, has-zero (least left)) in absurd (omega arith)
        nonzero (suc m) q = omega arith

        go : (d : ℕ) → d < least left → (b : Bool) → has (met (least left)) d ≡ b → b ≡ false
        go d l true q = let z : ◌≡◌ {A = ℕ} 0 1 = cc (h.whole (least left) d (least_in left (least-left c left h s)) q, below-least left d l) in absurd (omega arith)
        go d l false q = refl

    emitted : (most c left : ℕ) → Left c left → Each (Emitted c) (meet_left f dx dy most left us vs) × Strictly Sooner (meet_left f dx dy most left us vs)
    unfolding meet_left
    emitted zero c left h = (tt, tt)
    emitted (suc most) c left h = go (eqb left 0) refl (λ s. emitted most (suc (least left)) (bit_xor left (met (least left))) (step c left h s))
      where
        rest : List (Alt Z)
        rest = meet_left f dx dy most (bit_xor left (met (least left))) us vs

        soon : (as' : List (Alt Z)) → least (mask_of (joined f dx dy (u (least left)) (v (least left)))) ≡ least left → Each (Emitted (suc (least left))) as'
            → Each (Sooner (joined f dx dy (u (least left)) (v (least left)))) as'
        soon [] e k = tt
        soon (a ∷ as') e k = (omega (arith, k.0.late, e), soon as' e k.1)

        go : (b : Bool) → eqb left 0 ≡ b → ((left ≡ 0 → ⊥) → Each (Emitted (suc (least left))) rest × Strictly Sooner rest)
            → Each (Emitted c) (elim b [ true ↦ [] | false ↦ joined f dx dy (u (least left)) (v (least left)) ∷ rest ])
            × Strictly (Sooner {X = Z}) (elim b [ true ↦ [] | false ↦ joined f dx dy (u (least left)) (v (least left)) ∷ rest ])
        go true e ih = (tt, tt)
        go false e ih =
            let s : left ≡ 0 → ⊥ = eqb-false left 0 e in
            let p = at c left (least left) h (least_in left (least-left c left h s)) in
            let r = ih s in
            let l : c ≤ least left = left-from c left h s in
            let q : least (mask_of (joined f dx dy (u (least left)) (v (least left)))) ≡ least left = ap least (mask-joined (u (least left)) (v (least left))) ∙ head_least c left h s in
            let m = joined_met (u (least left)) (v (least left)) (least left) p.in_us p.in_vs (met_at c left (least left) h (least_in left (least-left c left h s))) in
            ((record { met' = m; late = omega arith }, later c (suc (least left)) (omega arith) rest r.0), (soon rest q r.0, r.1))

    -- ---- and every meeting is
    complete : (most c left m n d : ℕ) (x : X) (y : Y) → Left c left → 32 ≤ c + most → d < 32 → Memᴰ (alt m x) us → Memᴰ (alt n y) vs
        → has m d ≡ true → has n d ≡ true → has left d ≡ true → Memᴰ (alt (bit_and m n) (f x y)) (meet_left f dx dy most left us vs)
    unfolding meet_left
    complete zero c left m n d x y h l b hu hv em en el = let z : ◌≡◌ {A = ℕ} 0 1 = cc (h.from d (omega arith), el) in absurd (omega arith)
    complete (suc most) c left m n d x y h l b hu hv em en el =
        go (eqb left 0) refl
        (λ s k. complete most (suc (least left)) (bit_xor left (met (least left))) m n d x y (step c left h s) (let q = left-from c left h s in omega arith) b hu hv em en k)
      where
        rest : List (Alt Z)
        rest = meet_left f dx dy most (bit_xor left (met (least left))) us vs

        pair : (s : left ≡ 0 → ⊥) (t : Bool) → has (met (least left)) d ≡ t → (has (bit_xor left (met (least left))) d ≡ true → Memᴰ (alt (bit_and m n) (f x y)) rest)
            → Memᴰ (alt (bit_and m n) (f x y)) (joined f dx dy (u (least left)) (v (least left)) ∷ rest)
        pair s true e ih =
            let p = at c left (least left) h (least_in left (least-left c left h s)) in
            let q = both (has (mask_of (u (least left))) d) _ (sym (met_has (u (least left)) (v (least left)) d) ∙ e) in
            let eu : u (least left) ≡ alt m x = sym (same_u (u (least left)) d p.in_us q.0) ∙ same_u (alt m x) d hu em in
            let ev : v (least left) ≡ alt n y = sym (same_v (v (least left)) d p.in_vs q.1) ∙ same_v (alt n y) d hv en in
            Memᴰ.head (sym (ap₂ (λ (a : Alt X) (b : Alt Y). joined f dx dy a b) eu ev))
        pair s false e ih =
            let gone = has_without left (met (least left)) d (λ g. h.whole (least left) d (least_in left (least-left c left h s)) g) in
            Memᴰ.tail (ih (gone ∙ and-true (has left d) (not (has (met (least left)) d)) el (ap not e)))

        go : (t : Bool) → eqb left 0 ≡ t → ((left ≡ 0 → ⊥) → has (bit_xor left (met (least left))) d ≡ true → Memᴰ (alt (bit_and m n) (f x y)) rest)
            → Memᴰ (alt (bit_and m n) (f x y)) (elim t [ true ↦ [] | false ↦ joined f dx dy (u (least left)) (v (least left)) ∷ rest ])
        go true e ih = let z : ◌≡◌ {A = ℕ} 0 1 = cc (el, ap (λ (i : ℕ). has i d) (eqb-true left 0 e), has-zero d) in absurd (omega arith)
        go false e ih = pair (eqb-false left 0 e) (has (met (least left)) d) refl (ih (eqb-false left 0 e))

    -- ---- from all choices that both states have
    union-small : {W : Type 0} (ws : List (Alt W)) → Masked ws → union ws < 2 ^ 32
    union-small [] k = omega arith
    union-small (alt m x ∷ ws) k = or_lt 32 m (union ws) k.0.small (union-small ws k.1)

    begin : Left 0 (bit_and (union us) (union vs))
    begin =
        record {
          small = (let a = and_le_l (union us) (union vs) in let b = union-small us mu in omega arith);
          from = λ d l. absurd (omega arith);
          both' = λ d e. both (has (union us) d) (has (union vs) d) (sym (has-and (union us) (union vs) d) ∙ e);
          whole = λ d e g q. has-and (union us) (union vs) e ∙ go d e (both (has (union us) d) (has (union vs) d) (sym (has-and (union us) (union vs) d) ∙ g)) q;
        }
      where
        mem : {W : Type 0} (ws : List (Alt W)) (a : Alt W) (e : ℕ) → Memᴰ a ws → has (mask_of a) e ≡ true → has (union ws) e ≡ true
        mem ws (alt m x) e h q = has-union ws m e x h q

        go : (d e : ℕ) → (has (union us) d ≡ true) × (has (union vs) d ≡ true) → has (met d) e ≡ true → has (union us) e && has (union vs) e ≡ true
        go d e b q =
            let x = union-has us d dx b.0 in
            let y = union-has vs d dy b.1 in
            let r = both (has (mask_of (u d)) e) _ (sym (met_has (u d) (v d) e) ∙ q) in
            and-true (has (union us) e) (has (union vs) e) (mem us (u d) e x.0 r.0) (mem vs (v d) e y.0 r.1)

    pub meet_exact : meet_left f dx dy 32 (bit_and (union us) (union vs)) us vs ≡ together f us vs
    meet_exact =
        strict_same Sooner sooner_asym (meet_left f dx dy 32 (bit_and (union us) (union vs)) us vs) (together f us vs)
        (emitted 32 0 (bit_and (union us) (union vs)) begin).1 (rising_strict (together f us vs) (rising-together f us vs mu du dv)) there back
      where
        there : (a : Alt Z) → Memᴰ a (meet_left f dx dy 32 (bit_and (union us) (union vs)) us vs) → Memᴰ a (together f us vs)
        there a h =
            let e = each_mem (Emitted 0) (emitted 32 0 (bit_and (union us) (union vs)) begin).0 h in
            let r = e.met' in
            mem_sorted a (meets f us vs) (subst (λ (b : Alt Z). Memᴰ b (meets f us vs)) (sym r.is) (met_meets f us vs r.m r.m' r.x r.y r.left r.right r.some))

        back : (a : Alt Z) → Memᴰ a (together f us vs) → Memᴰ a (meet_left f dx dy 32 (bit_and (union us) (union vs)) us vs)
        back a h =
            let r = meets_met f us us vs a (λ b k. k) (sorted_mem a (meets f us vs) h) in
            let k : Mask (bit_and r.m r.m') = record { some = omega (arith, r.some); small = (let b = masked_mem us r.m r.x mu r.left in omega (arith, and_le_l r.m r.m', b.small)) } in
            let d : ℕ = least (bit_and r.m r.m') in
            let q = both (has r.m (least (bit_and r.m r.m'))) _ (sym (has-and r.m r.m' (least (bit_and r.m r.m'))) ∙ least_in (bit_and r.m r.m') k) in
            subst (λ (b : Alt Z). Memᴰ b (meet_left f dx dy 32 (bit_and (union us) (union vs)) us vs)) (sym r.is)
            (complete 32 0 (bit_and (union us) (union vs)) r.m r.m' (least (bit_and r.m r.m')) r.x r.y begin (omega arith) (least-small (bit_and r.m r.m') k) r.left r.right q.0 q.1
            (has-and (union us) (union vs) (least (bit_and r.m r.m'))
            ∙ and-true _ _ (has-union us r.m (least (bit_and r.m r.m')) r.x r.left q.0) (has-union vs r.m' (least (bit_and r.m r.m')) r.y r.right q.1)))
