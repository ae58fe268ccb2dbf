-- A level grown record by record is the level that the definitions number: a number, once given, stays. Assumes nothing.
use mathlib.Core.Path.{◌≡◌, refl, sym, ap, ap₂, ◌∙◌}
use mathlib.Core.Bool.{Bool, true}
use mathlib.Core.List.{List, [], ◌∷◌, ◌++◌, append_assoc}
use Prim.Native.Nat.{ℕ, suc, ◌+◌}
use Rattle.automata.specs.Choice.{Alt, alt, map_alt}
use Rattle.automata.specs.Sets.{TR, rec}
use Rattle.gates.specs.Numbering.{rows, all_rows, is_in, mention, mentions, mention_all, place, placed}
use Rattle.gates.proofs.NumberingLaws.{mention-keeps, mention-has, mentions-keeps, place-mention}
use Rattle.stepwise.specs.Grow.{Level, begun, grow, grow_state, grow_all}

module _ {K : Type 0} (same : K → K → Bool) (refl-same : (x : K) → same x x ≡ true) where
  -- ---- places stay
  place-mentions : (k : K) (us : List (Alt (K × K))) (ks : List K) → is_in same k ks ≡ true → place same k (mentions same ks us) ≡ place same k ks
  place-mentions k [] ks h = refl
  place-mentions k (alt m p ∷ us) ks h =
      let one = mention same ks p.0 in
      let i = mention-keeps same refl-same k ks p.0 h in
      place-mentions k us (mention same one p.1) (mention-keeps same refl-same k one p.1 i)
      ∙ place-mention same k one p.1 i ∙ place-mention same k ks p.0 h

  place-all : (f : K → List (Alt (K × K))) (k : K) (xs ks : List K) → is_in same k ks ≡ true → place same k (mention_all same f ks xs) ≡ place same k ks
  place-all f k [] ks h = refl
  place-all f k (x ∷ xs) ks h = place-all f k xs (mentions same ks (f x)) (mentions-keeps same refl-same k (f x) ks h) ∙ place-mentions k (f x) ks h

  module _ (base : ℕ) where
    grown-keys : (s : ℕ) (us : List (Alt (K × K))) (G : Level K) → (grow_state same base s us G).keys ≡ mentions same G.keys us
    unfolding grow_state grow
    grown-keys s [] G = refl
    grown-keys s (alt m p ∷ us) G = grown-keys s us (grow same base s m p.0 p.1 G)

    pub all-keys : (f : K → List (Alt (K × K))) (s : ℕ) (ks : List K) (G : Level K) → (grow_all same base f s ks G).keys ≡ mention_all same f G.keys ks
    unfolding grow_all
    all-keys f s [] G = refl
    all-keys f s (k ∷ ks) G = all-keys f (suc s) ks (grow_state same base s (f k) G) ∙ ap (λ (l : List K). mention_all same f l ks) (grown-keys s (f k) G)

    -- a list in which everything mentioned so far keeps its place
    record Keeps (ks last : List K) : Type 0 where
      keep : (k : K) → is_in same k ks ≡ true → place same k last ≡ place same k ks

    grown-records : (last : List K) (s : ℕ) (us : List (Alt (K × K))) (G : Level K) → Keeps (mentions same G.keys us) last
        → (grow_state same base s us G).records ≡ G.records ++ rows s (map_alt (placed same base last) us)
    unfolding grow_state grow
    grown-records last s [] G h = sym (go G.records)
      where
        go : (ts : List TR) → ts ++ [] ≡ ts
        go [] = refl
        go (t ∷ ts) = ap (λ (l : List TR). t ∷ l) (go ts)
    grown-records last s (alt m p ∷ us) G h =
        let one : List K = mention same G.keys p.0 in
        let two : List K = mention same one p.1 in
        let in_one : is_in same p.0 one ≡ true = mention-has same refl-same G.keys p.0 in
        let in_two : is_in same p.1 two ≡ true = mention-has same refl-same one p.1 in
        let kept-one : is_in same p.0 two ≡ true = mention-keeps same refl-same p.0 one p.1 in_one in
        let l : place same p.0 last ≡ place same p.0 one =
        h.keep p.0 (mentions-keeps same refl-same p.0 us two kept-one) ∙ place-mentions p.0 us two kept-one ∙ place-mention same p.0 one p.1 in_one in
        let r : place same p.1 last ≡ place same p.1 two = h.keep p.1 (mentions-keeps same refl-same p.1 us two in_two) ∙ place-mentions p.1 us two in_two in
        grown-records last s us (grow same base s m p.0 p.1 G) h
        ∙ append_assoc G.records (rec s m (base + place same p.0 one, base + place same p.1 two) ∷ []) (rows s (map_alt (placed same base last) us))
        ∙ ap₂ (λ (a b : ℕ). G.records ++ (rec s m (base + a, base + b) ∷ rows s (map_alt (placed same base last) us))) (sym l) (sym r)

    all-records : (f : K → List (Alt (K × K))) (s : ℕ) (ks : List K) (G : Level K)
        → (grow_all same base f s ks G).records ≡ G.records ++ all_rows (λ x. map_alt (placed same base (mention_all same f G.keys ks)) (f x)) s ks
    unfolding grow_all
    all-records f s [] G = sym (go G.records)
      where
        go : (ts : List TR) → ts ++ [] ≡ ts
        go [] = refl
        go (t ∷ ts) = ap (λ (l : List TR). t ∷ l) (go ts)
    all-records f s (k ∷ ks) G =
        let last : List K = mention_all same f (mentions same G.keys (f k)) ks in
        all-records f (suc s) ks (grow_state same base s (f k) G)
        ∙ ap (λ (l : List K). (grow_state same base s (f k) G).records ++ all_rows (λ x. map_alt (placed same base (mention_all same f l ks)) (f x)) (suc s) ks) (grown-keys s (f k) G)
        ∙ ap (λ (ts : List TR). ts ++ all_rows (λ x. map_alt (placed same base last) (f x)) (suc s) ks)
        (grown-records last s (f k) G (record { keep = λ x h. place-all f x ks (mentions same G.keys (f k)) h }))
        ∙ append_assoc G.records (rows s (map_alt (placed same base last) (f k))) (all_rows (λ x. map_alt (placed same base last) (f x)) (suc s) ks)

    -- the level of the definitions, from nothing
    pub grown : (f : K → List (Alt (K × K))) (s : ℕ) (ks : List K)
        → (grow_all same base f s ks begun).records ≡ all_rows (λ x. map_alt (placed same base (mention_all same f [] ks)) (f x)) s ks
    grown f s ks = all-records f s ks begun
