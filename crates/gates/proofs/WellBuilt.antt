-- What an unrefused gate builds is a well-formed set: its bytes pass 1 to 10, are at most 49,248 long, and read back as that set. Assumes nothing.
use mathlib.Core.Path.{◌≡◌, refl, sym, ap, ◌∙◌, subst}
use mathlib.Core.Bool.{Bool, true, false, cond}
use mathlib.Core.List.{List, [], ◌∷◌, map}
use Prim.Native.Nat.{ℕ, zero, suc, ◌+◌, ◌-◌, ◌^◌, ◌<◌, ◌≤◌}
use native.Mathlib.Omega.{arith}
use lib.ListN.{length}
use lib.Dec.{eqb, leb}
use borrow.Author.Tests.{leb-true}
use Rattle.amplitude.specs.Leaf.{Leaf, k_most, k_of, turn}
use Rattle.amplitude.proofs.Equal.{both}
use Rattle.automata.specs.Choice.{alt}
use Rattle.automata.specs.Tree.{Automaton}
use Rattle.automata.specs.Sets.{Rec, rec, TR, LF, QSet, sum, own, automaton_of, roots, level_in}
use Rattle.automata.specs.Members.{up_to}
use Rattle.automata.proofs.Masks.{Mask}
use Rattle.automata.proofs.Order.{Masked, Rising, masked-map, rising-map, masked-together, rising-together}
use Rattle.automata.proofs.Lists.{Each, Strictly, each_map}
use Rattle.stored.specs.Refusal.{good, refusal, circuit_source}
use Rattle.stored.specs.Rules.{Bounds, set_bounds, level_of, tr_fault, trs_ok, lf_ok, lfs_ok, ordered, order_ok}
use Rattle.stored.specs.Judge.{judge_set}
use Rattle.stored.specs.Pack.{file_of}
use Rattle.stored.proofs.ScanLaws.{each-passes, passes-each}
use Rattle.stored.proofs.OrderLaws.{Follows, strictly_ordered, ordered_strictly, own-good}
use Rattle.stored.proofs.WellFormed.{Narrow, WellFormed, mask_in, k_in, FineTR, FineLF, trs_fine, lfs_fine, fine_tr_lem, fine_lf_lem}
use Rattle.stored.proofs.ReadBack.{read_back, at_most}
use Rattle.stored.proofs.Reading.{need-good, good-same}
use Rattle.gates.specs.Gate.{Gate}
use Rattle.gates.specs.Key.{Key, plain, shifted, inside, pair, same_key}
use Rattle.gates.specs.Roles.{role, plain_kids, inside_kids, pair_kids, pair_end, keyed}
use Rattle.gates.specs.Build.{root_keys, growth, built}
use Rattle.gates.specs.Refuse.{k_fits, sizes_fit, leaf_fits, leaves_fit, judge_gate}
use Rattle.gates.proofs.Fits.{Fits}
use Rattle.gates.proofs.BuildShape.{Taken, Fine}
use Rattle.gates.proofs.BuildLevels.{TRStands, LFStands, counted, stand_tr, stand_lf, strict_tr, strict_lf}
use Rattle.gates.proofs.Stages.{Stage, stage-moves, stage-ends, stage_root}
use Rattle.gates.proofs.Demand2.{Valid, key_same, key_sound, keyed-moves, keyed-ends, roots_kept}

-- ---- a well-formed set's alternatives: masks of 32 bits, in order, with no choice in common
pub own-masked : {X : Type 0} (q : ℕ) (ts : List (Rec X)) → Each (λ t. Mask (mask_in t)) ts → Masked (own q ts)
own-masked q [] h = tt
own-masked {X} q (rec s m x ∷ ts) h = go (eqb s q) (own-masked q ts h.1)
  where
    go : (b : Bool) → Masked (own q ts) → Masked (cond b (alt m x ∷ own q ts) (own q ts))
    go true r = (h.0, r)
    go false r = r

own-k : (k q : ℕ) (ls : List LF) → Each (λ l. k_in l ≡ k) ls → Taken (λ x. k_of x ≡ k) (own q ls)
own-k k q [] h = tt
own-k k q (rec s m x ∷ ls) h = go (eqb s q) (own-k k q ls h.1)
  where
    go : (b : Bool) → Taken (λ y. k_of y ≡ k) (own q ls) → Taken (λ y. k_of y ≡ k) (cond b (alt m x ∷ own q ls) (own q ls))
    go true r = (h.0, r)
    go false r = r

module _ (b : Bounds) (Q : QSet) (w : WellFormed b Q) where
  pub tr-masks : Each (λ (t : TR). Mask (mask_in t)) Q.inner
  tr-masks = go Q.inner (trs_fine b Q w) w.tr_masks
    where
      go : (ts : List TR) → Each (FineTR Q) ts → Each (λ t. mask_in t < 2 ^ 32) ts → Each (λ t. Mask (mask_in t)) ts
      go [] f m = tt
      go (rec s x p ∷ ts) f m = (record { some = f.0.mask; small = m.0 }, go ts f.1 m.1)

  pub lf_masks_lem : Each (λ (l : LF). Mask (mask_in l)) Q.leaves
  lf_masks_lem = go Q.leaves (lfs_fine b Q w) w.lf_masks
    where
      go : (ls : List LF) → Each (FineLF Q) ls → Each (λ l. mask_in l < 2 ^ 32) ls → Each (λ l. Mask (mask_in l)) ls
      go [] f m = tt
      go (rec s x y ∷ ls) f m = (record { some = f.0.mask; small = m.0 }, go ls f.1 m.1)

  tr_strict : Strictly Follows Q.inner
  unfolding order_ok
  tr_strict = ordered_strictly Q.inner (both (ordered Q.inner) _ w.order).0

  lf_strict : Strictly Follows Q.leaves
  unfolding order_ok
  lf_strict = ordered_strictly Q.leaves (both (ordered Q.inner) _ w.order).1

  -- rule 10 gives what the gate rules need
  pub valid : Valid Q
  valid = record { moves = λ q. (own-good q Q.inner tr_strict).0; ends = λ q. (own-good q Q.leaves lf_strict).0 }

  module _ (g : Gate) (f : Fits Q.n g) where
    A : Automaton ℕ
    A = automaton_of Q

    moves-masked : (i : ℕ) (x : Key) → Masked ((keyed g A).moves i x)
    unfolding A
    moves-masked i (plain q) = masked-map (plain_kids (role g i)) (own q Q.inner) (own-masked q Q.inner tr-masks)
    moves-masked i (shifted j q) = masked-map (λ p. (shifted j p.0, shifted j p.1)) (own q Q.inner) (own-masked q Q.inner tr-masks)
    moves-masked i (inside q) = masked-map (inside_kids (role g i)) (own q Q.inner) (own-masked q Q.inner tr-masks)
    moves-masked i (pair q p s) = masked-together (pair_kids (role g i) s) (own q Q.inner) (own p Q.inner) (own-masked q Q.inner tr-masks)

    moves-rising : (i : ℕ) (x : Key) → Rising ((keyed g A).moves i x)
    unfolding A
    moves-rising i (plain q) = rising-map (plain_kids (role g i)) (own q Q.inner) (own-good q Q.inner tr_strict).1
    moves-rising i (shifted j q) = rising-map (λ p. (shifted j p.0, shifted j p.1)) (own q Q.inner) (own-good q Q.inner tr_strict).1
    moves-rising i (inside q) = rising-map (inside_kids (role g i)) (own q Q.inner) (own-good q Q.inner tr_strict).1
    moves-rising i (pair q p s) = rising-together (pair_kids (role g i) s) (own q Q.inner) (own p Q.inner) (own-masked q Q.inner tr-masks) (valid.moves q) (valid.moves p)

    ends-masked : (x : Key) → Masked ((keyed g A).ends x)
    unfolding A
    ends-masked (plain q) = own-masked q Q.leaves lf_masks_lem
    ends-masked (shifted j q) = masked-map (turn j) (own q Q.leaves) (own-masked q Q.leaves lf_masks_lem)
    ends-masked (inside q) = own-masked q Q.leaves lf_masks_lem
    ends-masked (pair q p s) = masked-together (pair_end s) (own q Q.leaves) (own p Q.leaves) (own-masked q Q.leaves lf_masks_lem)

    ends-rising : (x : Key) → Rising ((keyed g A).ends x)
    unfolding A
    ends-rising (plain q) = (own-good q Q.leaves lf_strict).1
    ends-rising (shifted j q) = rising-map (turn j) (own q Q.leaves) (own-good q Q.leaves lf_strict).1
    ends-rising (inside q) = (own-good q Q.leaves lf_strict).1
    ends-rising (pair q p s) = rising-together (pair_end s) (own q Q.leaves) (own p Q.leaves) (own-masked q Q.leaves lf_masks_lem) (valid.ends q) (valid.ends p)

    moves_fine : (i : ℕ) (x : Key) → Stage g i x → Fine (λ p. Stage g (suc i) p.0 × Stage g (suc i) p.1) ((keyed g A).moves i x)
    unfolding A
    moves_fine i x h =
        record { masked = moves-masked i x; rising = moves-rising i x; disjoint = keyed-moves A (λ j q. valid.moves q) (λ q. valid.ends q) g i x; takes = stage-moves A Q.n g f i x h }

    ends_fine : (x : Key) → Stage g (suc Q.n) x → Fine (λ l. k_of l ≡ Q.k + growth g) ((keyed g A).ends x)
    unfolding A
    ends_fine x h =
        record {
          masked = ends-masked x;
          rising = ends-rising x;
          disjoint = keyed-ends A (λ j q. valid.moves q) (λ q. valid.ends q) g x;
          takes = stage-ends A Q.k (λ q. own-k Q.k q Q.leaves w.one_k) Q.n g f x h;
        }

    roots_staged : (i m : ℕ) → Each (Stage g 1) (map plain (up_to i m))
    roots_staged i zero = tt
    roots_staged i (suc m) = (stage_root Q.n g f i, roots_staged (suc i) m)

    -- ---- the set that is built
    abbrev N : QSet
    N = built g Q

    abbrev of_k : Leaf → Type 0
    of_k l = k_of l ≡ Q.k + growth g

    tr-stands : Each (TRStands 1 0 Q.n N.counts) N.inner
    unfolding built A
    tr-stands = stand_tr same_key key_same key_sound (keyed g A) (Stage g) of_k (suc Q.n) moves_fine ends_fine Q.n 1 0 (root_keys Q) (roots_staged 0 (roots Q))

    lf_stands : Each (LFStands of_k 1 0 Q.n N.counts) N.leaves
    unfolding built A
    lf_stands = stand_lf same_key key_same key_sound (keyed g A) (Stage g) of_k (suc Q.n) moves_fine ends_fine Q.n 1 0 (root_keys Q) (omega arith) (roots_staged 0 (roots Q))

    new_tr_strict : Strictly Follows N.inner
    unfolding built A
    new_tr_strict = strict_tr same_key key_same key_sound (keyed g A) (Stage g) of_k (suc Q.n) moves_fine ends_fine Q.n 1 0 (root_keys Q) (roots_staged 0 (roots Q))

    new_lf_strict : Strictly Follows N.leaves
    unfolding built A
    new_lf_strict = strict_lf same_key key_same key_sound (keyed g A) (Stage g) of_k (suc Q.n) moves_fine ends_fine Q.n 1 0 (root_keys Q) (omega arith) (roots_staged 0 (roots Q))

    new_counted : length N.counts ≡ Q.n + 1
    unfolding built A
    new_counted = counted same_key key_same key_sound (keyed g A) (Stage g) of_k (suc Q.n) moves_fine ends_fine Q.n 1 0 (root_keys Q) ∙ omega arith

    new_n : N.n ≡ Q.n
    unfolding built
    new_n = refl

    new_k : N.k ≡ Q.k + growth g
    unfolding built
    new_k = refl

    level-same : (s : ℕ) → level_in 1 N.counts (s - 0) ≡ level_of N s
    level-same s = let e : s - 0 ≡ s = omega arith in ap (level_in 1 N.counts) e

    tr-passes : (t : TR) → TRStands 1 0 Q.n N.counts t → eqb (tr_fault N t) 0 ≡ true
    tr-passes (rec q m p) h =
        fine_tr_lem N q m p (record {
          state = omega (arith, h.state, level-same q, new_n);
          left = sym (level-same p.0) ∙ h.left ∙ ap suc (level-same q);
          right = sym (level-same p.1) ∙ h.right ∙ ap suc (level-same q);
          mask = h.mask.some;
        })

    lf_passes : (ls : List LF) → Each (LFStands of_k 1 0 Q.n N.counts) ls → Each (λ l. leaf_fits l ≡ true) ls → Each (λ l. lf_ok N l ≡ true) ls
    lf_passes [] h r = tt
    lf_passes (rec q m x ∷ ls) h r =
        (fine_lf_lem N q m x (record { state = sym (level-same q) ∙ h.0.state ∙ (let e : 1 + Q.n ≡ suc N.n = omega (arith, new_n) in e); mask = h.0.mask.some; range = r.0 }), lf_passes ls h.1 r.1)

    tr-small : (ts : List TR) → Each (TRStands 1 0 Q.n N.counts) ts → Each (λ t. mask_in t < 2 ^ 32) ts
    tr-small [] h = tt
    tr-small (rec q m p ∷ ts) h = (h.0.mask.small, tr-small ts h.1)

    lf_small : (ls : List LF) → Each (LFStands of_k 1 0 Q.n N.counts) ls → Each (λ l. mask_in l < 2 ^ 32) ls
    lf_small [] h = tt
    lf_small (rec q m x ∷ ls) h = (h.0.mask.small, lf_small ls h.1)

    lf_one-k : (ls : List LF) → Each (LFStands of_k 1 0 Q.n N.counts) ls → Each (λ l. k_in l ≡ N.k) ls
    lf_one-k [] h = tt
    lf_one-k (rec q m x ∷ ls) h = (h.0.leaf ∙ sym new_k, lf_one-k ls h.1)

    -- an unrefused gate's result is well-formed
    pub well_built : k_fits N ≡ true → sizes_fit b N ≡ true → leaves_fit N ≡ true → WellFormed b N
    unfolding trs_ok lfs_ok order_ok
    well_built k sizes range =
        let s = both (leb (sum N.counts) b.states) _ sizes in
        let t = both (leb (length N.inner) b.inner) _ s.1 in
        record {
          n_some = omega (arith, new_n, w.n_some);
          n_few = omega (arith, new_n, w.n_few);
          k_few = leb-true N.k k_most k;
          counted = new_counted ∙ ap (λ (n : ℕ). n + 1) (sym new_n);
          rooted = omega (arith, roots_kept g Q, w.rooted);
          states = leb-true (sum N.counts) b.states s.0;
          inner = leb-true (length N.inner) b.inner t.0;
          leaves = leb-true (length N.leaves) b.leaves t.1;
          trs = each-passes (λ r. eqb (tr_fault N r) 0) N.inner (each_map (TRStands 1 0 Q.n N.counts) (λ r. eqb (tr_fault N r) 0 ≡ true) tr-passes N.inner tr-stands);
          lfs = each-passes (lf_ok N) N.leaves (lf_passes N.leaves lf_stands (passes-each leaf_fits N.leaves range));
          order = rw (strictly_ordered N.inner new_tr_strict, strictly_ordered N.leaves new_lf_strict);
          tr_masks = tr-small N.inner tr-stands;
          lf_masks = lf_small N.leaves lf_stands;
          one_k = lf_one-k N.leaves lf_stands;
        }

-- ---- and of the reply
pub judged-gate : (b : Bounds) (place : ℕ) (g : Gate) (Q N : QSet) → judge_gate b place g Q ≡ good N
    → (k_fits (built g Q) ≡ true) × (sizes_fit b (built g Q) ≡ true) × (leaves_fit (built g Q) ≡ true) × (built g Q ≡ N)
unfolding judge_gate
judged-gate b place g Q N e =
    let e₁ = need-good (k_fits (built g Q)) (refusal 15 circuit_source place) _ N e in
    let e₂ = need-good (sizes_fit b (built g Q)) (refusal 14 circuit_source place) _ N e₁.1 in
    let e₃ = need-good (leaves_fit (built g Q)) (refusal 16 circuit_source place) _ N e₂.1 in
    (e₁.0, e₂.0, e₃.0, good-same (built g Q) N e₃.1)

pub gate-formed : (b : Bounds) (place : ℕ) (g : Gate) (Q N : QSet) → WellFormed b Q → Fits Q.n g → judge_gate b place g Q ≡ good N → WellFormed b N
gate-formed b place g Q N w f e =
    let j = judged-gate b place g Q N e in
    subst (WellFormed b) j.3 (well_built b Q w g f j.0 j.1 j.2)

-- what an unrefused gate builds: its bytes pass 1 to 10, are at most 49,248 long, and read back as that set
pub record WellStored (N : QSet) : Type 0 where
  pub formed : WellFormed set_bounds N
  pub short : length (file_of N) ≤ 49248
  pub reads_back : (source : ℕ) → judge_set set_bounds source (file_of N) ≡ good N

pub well_stored : (N : QSet) → WellFormed set_bounds N → WellStored N
well_stored N w =
    let narrow : Narrow set_bounds = record { states = omega arith; inner = omega arith; leaves = omega arith } in
    record { formed = w; short = at_most N w; reads_back = λ source. read_back set_bounds narrow N w source }

pub gate-stored : (place : ℕ) (g : Gate) (Q N : QSet) → WellFormed set_bounds Q → Fits Q.n g → judge_gate set_bounds place g Q ≡ good N → WellStored N
gate-stored place g Q N w f e = well_stored N (gate-formed set_bounds place g Q N w f e)
