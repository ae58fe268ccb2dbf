-- What a gate builds over stored keys is what it builds: every key that a set leads to has its numbers where the set's states are, below 65,536,
-- and a shift below 256. Assumes nothing.
use mathlib.Core.Path.{◌≡◌, refl, ap, ap₂, ◌∙◌}
use mathlib.Core.Bool.{Bool, true, false, cond}
use mathlib.Core.List.{List, [], ◌∷◌, map}
use Prim.Native.Nat.{ℕ, zero, suc, ◌+◌, ◌<◌, ◌≤◌}
use native.Mathlib.Omega.{arith}
use lib.Dec.{eqb, ltb}
use borrow.Author.Tests.{eqb-true}
use Rattle.amplitude.specs.Leaf.{turn}
use Rattle.automata.specs.Choice.{alt, map_alt, together}
use Rattle.automata.specs.Tree.{Automaton}
use Rattle.automata.specs.Sets.{TR, rec, QSet, own, automaton_of, roots, roots_in, level_in}
use Rattle.automata.specs.Members.{up_to}
use Rattle.automata.proofs.Lists.{Each}
use Rattle.stored.specs.Rules.{Bounds, level_of}
use Rattle.stored.proofs.Levels.{level-first}
use Rattle.stored.proofs.WellFormed.{WellFormed, FineTR, trs_fine, state_small}
use Rattle.gates.specs.Gate.{Kind, phase, flip, H, Gate}
use Rattle.gates.specs.Matrix.{back}
use Rattle.gates.specs.Key.{Side, L, R, Key, plain, shifted, inside, pair, turned, radix, same_key, stored}
use Rattle.gates.specs.Roles.{Role, pass, begin, cross, act, within, role, Two, kind_kids, plain_kids, inside_kids, pair_kids, pair_end, keyed}
use Rattle.gates.specs.Numbering.{mention_all, number}
use Rattle.gates.specs.Build.{root_keys, build_of}
use Rattle.gates.proofs.BuildShape.{Taken}
use Rattle.gates.proofs.Stages.{taken-map, taken-together}
use Rattle.gates.proofs.KeysApart.{Narrow}
use Rattle.stepwise.specs.Code.{stored_two, coded}
use Rattle.stepwise.proofs.CodeLaws.{unstored-stored, stored_same, all-code, number-code}

-- ---- gates whose shifts are below 256: all that circuits give
abbrev pub LightKind : Kind → Type 0
LightKind (phase j) = j < 256
LightKind (flip j) = j < 256
LightKind H = Unit {0}

abbrev pub Light : Gate → Type 0
Light (Gate.plain k t) = LightKind k
Light (Gate.controlled c k t) = LightKind k

abbrev LightRole : Role → Type 0
LightRole pass = Unit {0}
LightRole begin = Unit {0}
LightRole cross = Unit {0}
LightRole (act k) = LightKind k
LightRole (within k) = LightKind k

light-role : (g : Gate) → Light g → (i : ℕ) → LightRole (role g i)
light-role (Gate.plain k t) h i = go (eqb i t)
  where
    go : (b : Bool) → LightRole (cond b (act k) pass)
    go true = h
    go false = tt
light-role (Gate.controlled c k t) h i = go (ltb c t) (eqb i c) (eqb i t)
  where
    go : (a b d : Bool) → LightRole (cond a (cond b begin (cond d (within k) pass)) (cond d (act H) (cond b cross pass)))
    go true true d = tt
    go true false true = h
    go true false false = tt
    go false b true = tt
    go false true false = tt
    go false false false = tt

-- ---- the numbers of a key: once over what is said of them
abbrev pub Numbers : (ℕ → Type 0) → Key → Type 0
Numbers N (plain q) = N q
Numbers N (shifted j q) = N q × (j < 256)
Numbers N (inside q) = N q
Numbers N (pair q p s) = N q × N p

pub narrow : (x : Key) → Numbers (λ q. q < radix) x → Narrow x
narrow (plain q) h = record { first = h; second = omega arith }
narrow (shifted j q) h = record { first = h.0; second = omega arith }
narrow (inside q) h = record { first = h; second = omega arith }
narrow (pair q p s) h = record { first = h.0; second = h.1 }

pub numbers-map : (N M : ℕ → Type 0) → ((q : ℕ) → N q → M q) → (x : Key) → Numbers N x → Numbers M x
numbers-map N M f (plain q) h = f q h
numbers-map N M f (shifted j q) h = (f q h.0, h.1)
numbers-map N M f (inside q) h = f q h
numbers-map N M f (pair q p s) h = (f q h.0, f p h.1)

module _ (N : ℕ → Type 0) where
  abbrev pub Both : ℕ × ℕ → Type 0
  Both p = N p.0 × N p.1

  abbrev pub Kids : Two → Type 0
  Kids p = Numbers N p.0 × Numbers N p.1

  has-turned : (j q : ℕ) → j < 256 → N q → Numbers N (turned j q)
  has-turned zero q l h = h
  has-turned (suc j) q l h = (h, l)

  has-kind : (k : Kind) → LightKind k → (p : ℕ × ℕ) → Both p → Kids (kind_kids k p)
  has-kind (phase j) l p h = (h.0, (h.1, l))
  has-kind (flip j) l p h = (has-turned (back j) p.1 (omega arith) h.1, has-turned j p.0 l h.0)
  has-kind H l p h = (h, h)

  has-plain : (o : Role) → LightRole o → (p : ℕ × ℕ) → Both p → Kids (plain_kids o p)
  has-plain pass l p h = h
  has-plain begin l p h = h
  has-plain cross l p h = h
  has-plain (act k) l p h = has-kind k l p h
  has-plain (within k) l p h = h

  has-inside : (o : Role) → LightRole o → (p : ℕ × ℕ) → Both p → Kids (inside_kids o p)
  has-inside pass l p h = h
  has-inside begin l p h = h
  has-inside cross l p h = h
  has-inside (act k) l p h = h
  has-inside (within k) l p h = has-kind k l p h

  has_both : (s : Side) (q p : ℕ × ℕ) → Both q → Both p → Kids (pair_kids pass s q p)
  has_both s q p h k = ((h.0, k.0), (h.1, k.1))

  has_cross : (s : Side) (q p : ℕ × ℕ) → Both q → Both p → Kids (pair_kids cross s q p)
  has_cross L q p h k = (h.0, k.1)
  has_cross R q p h k = (k.0, h.1)

  has-pair : (o : Role) (s : Side) (q p : ℕ × ℕ) → Both q → Both p → Kids (pair_kids o s q p)
  has-pair pass s q p h k = has_both s q p h k
  has-pair begin s q p h k = has_both s q p h k
  has-pair cross s q p h k = has_cross s q p h k
  has-pair (act j) s q p h k = has_both s q p h k
  has-pair (within j) s q p h k = has_both s q p h k

-- the children of a key whose states' children are M
kids_have : (N M : ℕ → Type 0) (A : Automaton ℕ) (g : Gate) → Light g → (i : ℕ) → ((q : ℕ) → N q → Taken (Both M) (A.moves i q)) → (x : Key) → Numbers N x → Taken (Kids M) ((keyed g A).moves i x)
kids_have N M A g t i f (plain q) h = taken-map (Both M) (Kids M) (plain_kids (role g i)) (has-plain M (role g i) (light-role g t i)) (A.moves i q) (f q h)
kids_have N M A g t i f (shifted j q) h = taken-map (Both M) (Kids M) (λ p. (shifted j p.0, shifted j p.1)) (λ p k. ((k.0, h.1), (k.1, h.1))) (A.moves i q) (f q h.0)
kids_have N M A g t i f (inside q) h = taken-map (Both M) (Kids M) (inside_kids (role g i)) (has-inside M (role g i) (light-role g t i)) (A.moves i q) (f q h)
kids_have N M A g t i f (pair q p s) h = taken-together (Both M) (Both M) (Kids M) (pair_kids (role g i) s) (has-pair M (role g i) s) (A.moves i q) (A.moves i p) (f q h.0) (f p h.1)

-- ---- numbering over stored keys, with the transitions of a second automaton that agrees on the numbers of each level
module _ (A B : Automaton ℕ) (g : Gate) (light : Light g) (N : ℕ → ℕ → Type 0) (last : ℕ) (few : (i q : ℕ) → N i q → q < radix)
    (moves : (i q : ℕ) → i < last → N i q → B.moves i q ≡ A.moves i q) (ends : (q : ℕ) → N last q → B.ends q ≡ A.ends q)
    (down : (i q : ℕ) → i < last → N i q → Taken (Both (N (suc i))) (A.moves i q)) where
  same-moves : (i : ℕ) (x : Key) → i < last → Numbers (N i) x → (keyed g B).moves i x ≡ (keyed g A).moves i x
  same-moves i (plain q) l h = ap (map_alt (plain_kids (role g i))) (moves i q l h)
  same-moves i (shifted j q) l h = ap (map_alt (λ p. (shifted j p.0, shifted j p.1))) (moves i q l h.0)
  same-moves i (inside q) l h = ap (map_alt (inside_kids (role g i))) (moves i q l h)
  same-moves i (pair q p s) l h = ap₂ (together (pair_kids (role g i) s)) (moves i q l h.0) (moves i p l h.1)

  same_ends : (x : Key) → Numbers (N last) x → (keyed g B).ends x ≡ (keyed g A).ends x
  same_ends (plain q) h = ends q h
  same_ends (shifted j q) h = ap (map_alt (turn j)) (ends q h.0)
  same_ends (inside q) h = ends q h
  same_ends (pair q p s) h = ap₂ (together (pair_end s)) (ends q h.0) (ends p h.1)

  thin : (i : ℕ) (x : Key) → Numbers (N i) x → Narrow x
  thin i x h = narrow x (numbers-map (N i) (λ q. q < radix) (few i) x h)

  moves-stored : (i : ℕ) (x : Key) → i < last → Numbers (N i) x → (coded g B).moves i (stored x) ≡ map_alt stored_two ((keyed g A).moves i x)
  moves-stored i x l k = ap (λ (y : Key). map_alt stored_two ((keyed g B).moves i y)) (unstored-stored x (thin i x k)) ∙ ap (map_alt stored_two) (same-moves i x l k)

  ends-stored : (x : Key) → Numbers (N last) x → (coded g B).ends (stored x) ≡ (keyed g A).ends x
  ends-stored x k = ap (keyed g B).ends (unstored-stored x (thin last x k)) ∙ same_ends x k

  kids-stored : (i : ℕ) (x : Key) → i < last → Numbers (N i) x → Taken (Kids (N (suc i))) ((keyed g A).moves i x)
  kids-stored i x l k = kids_have (N i) (N (suc i)) A g light i (λ q m. down i q l m) x k

  agree_stored : (i : ℕ) (x y : Key) → Numbers (N i) x → Numbers (N i) y → eqb (stored x) (stored y) ≡ same_key x y
  agree_stored i x y k m = stored_same x y (thin i x k) (thin i y m)

  pub number-stored : (n i s : ℕ) (ks : List Key) → i + n ≡ last → Each (Numbers (N i)) ks → number eqb (coded g B) i n s (map stored ks) ≡ number same_key (keyed g A) i n s ks
  number-stored = number-code same_key eqb stored (keyed g A) (coded g B) (λ i. Numbers (N i)) last moves-stored ends-stored kids-stored agree_stored

  -- the keys of the next level, and that they are of its states
  pub next-stored : (i : ℕ) (ks : List Key) → i < last → Each (Numbers (N i)) ks
      → (mention_all eqb ((coded g B).moves i) [] (map stored ks) ≡ map stored (mention_all same_key ((keyed g A).moves i) [] ks)) × Each (Numbers (N (suc i))) (mention_all same_key ((keyed g A).moves i) [] ks)
  next-stored i ks l h = all-code same_key eqb stored (keyed g A) (coded g B) (λ i. Numbers (N i)) last moves-stored ends-stored kids-stored agree_stored i ks [] l h tt

-- ---- of a well-formed set: the numbers of level i are its states there
abbrev pub OnLevel : QSet → ℕ → ℕ → Type 0
OnLevel Q i q = (level_of Q q ≡ i) × (q < radix)

-- both children of a record of state q
abbrev KidsOf : (ℕ → Type 0) → ℕ → TR → Type 0
KidsOf M q (rec s m p) = s ≡ q → Both M p

own-both : (M : ℕ → Type 0) (q : ℕ) (ts : List TR) → Each (KidsOf M q) ts → Taken (Both M) (own q ts)
own-both M q [] h = tt
own-both M q (rec s m p ∷ ts) h = go (eqb s q) refl (own-both M q ts h.1)
  where
    go : (b : Bool) → eqb s q ≡ b → Taken (Both M) (own q ts) → Taken (Both M) (cond b (alt m p ∷ own q ts) (own q ts))
    go true e r = (h.0 (eqb-true s q e), r)
    go false e r = r

module _ (b : Bounds) (few : b.states < radix) (Q : QSet) (w : WellFormed b Q) where
  low : (s : ℕ) → level_of Q s ≤ suc Q.n → s < radix
  low s h = omega (arith, state_small b Q w s h, w.states)

  -- a transition leads one level down
  pub set-down : (i q : ℕ) → i < suc Q.n → OnLevel Q i q → Taken (Both (OnLevel Q (suc i))) ((automaton_of Q).moves i q)
  set-down i q l h = own-both (OnLevel Q (suc i)) q Q.inner (go Q.inner (trs_fine b Q w))
    where
      go : (ts : List TR) → Each (FineTR Q) ts → Each (KidsOf (OnLevel Q (suc i)) q) ts
      go [] f = tt
      go (rec s m p ∷ ts) f = (
        λ e.
            (let t = f.0 in
            let here : level_of Q s ≡ i = ap (level_of Q) e ∙ h.0 in
            let left : level_of Q p.0 ≡ suc i = t.left ∙ ap suc here in
            let right : level_of Q p.1 ≡ suc i = t.right ∙ ap suc here in
            ((left, low p.0 (omega arith)), (right, low p.1 (omega arith)))),
        go ts f.1,
      )

  root_level_lem : (cs : List ℕ) (q : ℕ) → q < roots_in cs → level_in 1 cs q ≡ 1
  root_level_lem [] q h = absurd (omega arith)
  root_level_lem (c ∷ cs) q h = level-first 1 c cs q h

  pub roots_on : (i m : ℕ) → i + m ≤ roots Q → Each (Numbers (OnLevel Q 1)) (map plain (up_to i m))
  roots_on i zero h = tt
  roots_on i (suc m) h = ((root_level_lem Q.counts i (omega arith), low i (omega (arith, root_level_lem Q.counts i (omega arith)))), roots_on (suc i) m (omega arith))

  -- the set that a gate builds, over stored keys, by an automaton that has the set's transitions level by level
  pub build_stored : (B : Automaton ℕ) → ((i q : ℕ) → i < suc Q.n → OnLevel Q i q → B.moves i q ≡ own q Q.inner) → ((q : ℕ) → OnLevel Q (suc Q.n) q → B.ends q ≡ own q Q.leaves)
      → (g : Gate) → Light g → number eqb (coded g B) 1 Q.n 0 (map stored (root_keys Q)) ≡ build_of g Q
  build_stored B moves ends g light =
      number-stored (automaton_of Q) B g light (OnLevel Q) (suc Q.n) (λ i q h. h.1) moves ends set-down Q.n 1 0 (root_keys Q) (omega arith) (roots_on 0 (roots Q) (omega arith))
