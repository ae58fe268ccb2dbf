-- What a verdict says of the members in order, over any test of a member; that a larger allowance changes no "holds" and no "fails"; and that
-- a start passes exactly if some root and word of the end set give an equal tree. Assumes nothing.
use mathlib.Core.Path.{◌≡◌, refl, ap}
use mathlib.Core.Bool.{Bool, true, false, false≢true}
use mathlib.Core.Logic.{◌⊎◌, inl, inr}
use mathlib.Core.List.Memᴰ
use mathlib.Core.List.{List, [], ◌∷◌, Memᴰ}
use mathlib.Core.Option.{some}
use Prim.Native.Nat.{ℕ, zero, suc, ◌+◌, ◌<◌, ◌≤◌}
use native.Mathlib.Omega.{arith}
use lib.ListN.{length, take, get_elem?}
use Rattle.automata.specs.Tree.{Tree, tree_of}
use Rattle.automata.specs.Sets.{QSet, automaton_of}
use Rattle.automata.specs.Members.{Member, member, runs}
use Rattle.automata.proofs.Lists.{Each}
use Rattle.automata.proofs.MemberLaws.{IsMember, is-listed, is_member_lem}
use Rattle.verdict.specs.Verdict.{end_tree, equals, is_one_of, is_state, Verdict, holds, fails, undecided, examine}

module _ (passes : Member → Bool) where
  abbrev pub AllPass : List Member → Type 0
  AllPass ms = Each (λ m. passes m ≡ true) ms

  -- what a verdict says with p examined before and b allowed
  abbrev pub Told : ℕ → ℕ → List Member → Verdict → Type 0
  Told p b ms (holds k) = (k ≡ p + length ms) × (length ms ≤ b) × AllPass ms
  Told p b ms (fails k m) = (i : ℕ) × (k ≡ p + suc i) × (i < b) × (get_elem? ms i ≡ some m) × (passes m ≡ false) × AllPass (take i ms)
  Told p b ms (undecided k) = (k ≡ p + b) × (b < length ms) × AllPass (take b ms)

  pub told : (p b : ℕ) (ms : List Member) → Told p b ms (examine passes p b ms)
  told p b [] = (omega arith, omega arith, tt)
  told p zero (m ∷ ms) = (omega arith, omega arith, tt)
  told p (suc b) (m ∷ ms) = go (passes m) refl (told (suc p) b ms)
    where
      up : (v : Verdict) → passes m ≡ true → Told (suc p) b ms v → Told p (suc b) (m ∷ ms) v
      up (holds k) g t = (omega (arith, t.0), omega (arith, t.1), (g, t.2))
      up (fails k m') g t = (suc t.0, omega (arith, t.1), omega (arith, t.2), t.3, t.4, (g, t.5))
      up (undecided k) g t = (omega (arith, t.0), omega (arith, t.1), (g, t.2))

      go : (x : Bool) → passes m ≡ x → Told (suc p) b ms (examine passes (suc p) b ms)
          → Told p (suc b) (m ∷ ms) (elim x [ true ↦ examine passes (suc p) b ms | false ↦ fails (suc p) m ])
      go true g t = up (examine passes (suc p) b ms) g t
      go false g t = (0, omega arith, omega arith, refl, g, tt)

  -- ---- a larger allowance
  abbrev pub Final : Verdict → Type 0
  Final (holds k) = Unit {0}
  Final (fails k m) = Unit {0}
  Final (undecided k) = ⊥

  pub larger : (p b b' : ℕ) (ms : List Member) → b ≤ b' → Final (examine passes p b ms) → examine passes p b' ms ≡ examine passes p b ms
  larger p b b' [] h f = refl
  larger p zero b' (m ∷ ms) h f = absurd f
  larger p (suc b) zero (m ∷ ms) h f = absurd (omega arith)
  larger p (suc b) (suc b') (m ∷ ms) h f = go (passes m) f (larger (suc p) b b' ms (omega arith))
    where
      go : (x : Bool) → Final (elim x [ true ↦ examine passes (suc p) b ms | false ↦ fails (suc p) m ])
          → (Final (examine passes (suc p) b ms) → examine passes (suc p) b' ms ≡ examine passes (suc p) b ms)
          → ◌≡◌ {A = Verdict} (elim x [ true ↦ examine passes (suc p) b' ms | false ↦ fails (suc p) m ]) (elim x [ true ↦ examine passes (suc p) b ms | false ↦ fails (suc p) m ])
      go true f' ih = ih f'
      go false f' ih = refl

-- ---- "is a state of the end set": some root and word of it give an equal tree
pub record Equal (E : QSet) (n : ℕ) (x : Tree n) : Type 0 where
  pub root : ℕ
  pub word : List ℕ
  pub is_member : IsMember E root word
  pub equal : equals n x (tree_of (automaton_of E) 1 n word root) ≡ true

one_tells : (E : QSet) (n : ℕ) (x : Tree n) (ms : List Member) → is_one_of E n x ms ≡ true → (m : Member) × Memᴰ m ms × (equals n x (end_tree E n m) ≡ true)
one_tells E n x [] h = absurd (false≢true h)
one_tells E n x (m ∷ ms) h = go (equals n x (end_tree E n m)) refl h (one_tells E n x ms)
  where
    go : (b : Bool) → equals n x (end_tree E n m) ≡ b → elim b [ true ↦ true | false ↦ is_one_of E n x ms ] ≡ true
        → (is_one_of E n x ms ≡ true → (m' : Member) × Memᴰ m' ms × (equals n x (end_tree E n m') ≡ true))
        → (m' : Member) × Memᴰ m' (m ∷ ms) × (equals n x (end_tree E n m') ≡ true)
    go true e h' ih = (m, Memᴰ.head refl, e)
    go false e h' ih =
        let r : (m' : Member) × Memᴰ m' ms × (equals n x (end_tree E n m') ≡ true) = ih h' in
        (r.0, Memᴰ.tail r.1, r.2)

one-is : (E : QSet) (n : ℕ) (x : Tree n) (m : Member) (ms : List Member) → Memᴰ m ms → equals n x (end_tree E n m) ≡ true → is_one_of E n x ms ≡ true
one-is E n x m [] h e = absurd (Memᴰ.not-nil h)
one-is E n x m (m' ∷ ms) h e = go (equals n x (end_tree E n m')) refl (Memᴰ.cases_cons h) (λ k. one-is E n x m ms k e)
  where
    go : (b : Bool) → equals n x (end_tree E n m') ≡ b → (m ≡ m') ⊎ Memᴰ m ms → (Memᴰ m ms → is_one_of E n x ms ≡ true) → elim b [ true ↦ true | false ↦ is_one_of E n x ms ] ≡ true
    go true f k ih = refl
    go false f (inl k) ih = let z : ◌≡◌ {A = ℕ} 0 1 = cc (ap (λ (a : Member). equals n x (end_tree E n a)) k, e, f) in absurd (omega arith)
    go false f (inr k) ih = ih k

pub is_state_lem : (E : QSet) (n : ℕ) (x : Tree n) → Equal E n x → is_state E n x ≡ true
is_state_lem E n x h = one-is E n x (member h.root h.word) (runs E) (is-listed E h.root h.word h.is_member) h.equal

pub state_is : (E : QSet) (n : ℕ) (x : Tree n) → is_state E n x ≡ true → Equal E n x
state_is E n x h = let r = one_tells E n x (runs E) h in go r.0 r.1 r.2
  where
    go : (m : Member) → Memᴰ m (runs E) → equals n x (end_tree E n m) ≡ true → Equal E n x
    go (member s v) k e = record { root = s; word = v; is_member = is_member_lem E s v k; equal = e }
