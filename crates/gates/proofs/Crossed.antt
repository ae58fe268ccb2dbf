-- CX with the control below the target does what its matrix does. Below the target L alone walks only the left state's zeros and the right
-- state's ones, and R the others, so both are taken together; they change partners at the control. Assumes nothing.
use mathlib.Core.Path.{◌≡◌, refl, sym, ap, ap₂, ◌∙◌}
use mathlib.Core.Bool.{Bool, true, false, cond}
use mathlib.Core.List.{List, [], ◌∷◌}
use mathlib.Core.Option.{Option, none, some}
use Prim.Native.Nat.{ℕ, zero, suc, ◌+◌, ◌<◌, ◌≤◌}
use native.Mathlib.Omega.{arith}
use lib.Dec.{eqb}
use borrow.Author.Tests.{ne_eqb, le-ltb, eqb-true, eqb-false}
use Rattle.automata.specs.Choice.{choose, map_o, zip_o}
use Rattle.automata.specs.Tree.{Tree, Automaton, tree_of, node, and_then}
use Rattle.automata.proofs.Choosing.{Disjoint, choose-together}
use Rattle.gates.specs.Gate.{flip, H, Gate}
use Rattle.gates.specs.Matrix.{select, effect}
use Rattle.gates.specs.Key.{Side, L, R, Key, plain, pair}
use Rattle.gates.specs.Roles.{Role, pass, cross, act, role, plain_kids, pair_kids, keyed}
use Rattle.gates.proofs.Options.{map-map, map_ext, node-map, regroup, crossover, step_map}
use Rattle.gates.proofs.MatrixLaws.{row-right, row-left, unturned, select_past}
use Rattle.gates.proofs.Keyed.{Idle, plain_idle}

module _ (A : Automaton ℕ) (dm : (i q : ℕ) → Disjoint (A.moves i q)) (de : (q : ℕ) → Disjoint (A.ends q)) (b t : ℕ) (tb : t < b) where
  abbrev g : Gate
  g = Gate.controlled b (flip 0) t

  abbrev Kt : ℕ → (n : ℕ) → List ℕ → Key → Option (Tree n)
  Kt i n w x = tree_of (keyed g A) i n w x

  abbrev At : ℕ → (n : ℕ) → List ℕ → ℕ → Option (Tree n)
  At i n w s = tree_of A i n w s

  -- what the gate does at each level
  roles : (i : ℕ) → role g i ≡ cond (eqb i t) (act H) (cond (eqb i b) cross pass)
  roles i = rw (le-ltb b t (omega arith))

  at_target : (i : ℕ) → eqb i t ≡ true → role g i ≡ act H
  at_target i e = roles i ∙ rw e

  at_cross : (i : ℕ) → t < i → eqb i b ≡ true → role g i ≡ cross
  at_cross i h e = roles i ∙ rw (ne_eqb i t (λ z. omega arith), e)

  elsewhere : (i : ℕ) → eqb i t ≡ false → eqb i b ≡ false → role g i ≡ pass
  elsewhere i e f = roles i ∙ rw (e, f)

  past_target : (i : ℕ) → t < i → role g i ≡ cond (eqb i b) cross pass
  past_target i h = roles i ∙ rw (ne_eqb i t (λ z. omega arith))

  low_idle : (i : ℕ) → t < i → Idle A dm de g i
  low_idle i h = record { idle = λ i' p e. ap (λ (o : Role). plain_kids o p) (past_target i' (omega arith)) ∙ go p (eqb i' b) }
    where
      go : (p : ℕ × ℕ) (y : Bool) → plain_kids (cond y cross pass) p ≡ (plain p.0, plain p.1)
      go p true = refl
      go p false = refl

  -- at the basis states where the control is 1 the two trees change places
  abbrev crossed : ℕ → (n : ℕ) → Tree n × Tree n → Tree n × Tree n
  crossed i n z = (select (b ∷ []) i n z.0 z.1, select (b ∷ []) i n z.1 z.0)

  crossed_is : (i n : ℕ) (x y : Option (Tree n)) → eqb i t ≡ true → map_o (crossed (suc i) n) (node x y) ≡ map_o (effect g i (suc n)) (node x y)
  crossed_is i n x y e = map_ext (crossed (suc i) n) (effect g i (suc n)) is (node x y)
    where
      is : (z : Tree n × Tree n) → crossed (suc i) n z ≡ effect g i (suc n) z
      is z =
          rw (ne_eqb i b (λ f. omega (arith, eqb-true i t e)), e)
          (ap₂ (λ (u v : Tree n). (select (b ∷ []) (suc i) n z.0 u, select (b ∷ []) (suc i) n z.1 v))
          (sym (row-right 0 n z.0 z.1 ∙ unturned n z.1)) (sym (row-left 0 n z.0 z.1 ∙ unturned n z.0)))

  at-control : (i n : ℕ) (q0 q1 p0 p1 : Option (Tree n)) → eqb i b ≡ true
      → node (node q0 p1) (node p0 q1) ≡ map_o (crossed i (suc n)) (node (node q0 q1) (node p0 p1))
  at-control i n q0 q1 p0 p1 e =
      crossover q0 q1 p0 p1 ∙ map_ext (λ z. ((z.0.0, z.1.1), (z.1.0, z.0.1))) (crossed i (suc n)) is (node (node q0 q1) (node p0 p1))
    where
      is : (z : Tree (suc n) × Tree (suc n)) → ((z.0.0, z.1.1), (z.1.0, z.0.1)) ≡ crossed i (suc n) z
      is z =
          let past : b < suc i = omega (arith, eqb-true i b e) in
          rw e
          (ap₂ (λ (u v : Tree n). ((z.0.0, u), (z.1.0, v)))
          (sym (select_past b (suc i) n z.0.1 z.1.1 past)) (sym (select_past b (suc i) n z.1.1 z.0.1 past)))

  to-control : (i n : ℕ) (l0 l1 r0 r1 q0 q1 p0 p1 : Option (Tree n)) → eqb i b ≡ false
      → node l0 r0 ≡ map_o (crossed (suc i) n) (node q0 p0) → node l1 r1 ≡ map_o (crossed (suc i) n) (node q1 p1)
      → node (node l0 l1) (node r0 r1) ≡ map_o (crossed i (suc n)) (node (node q0 q1) (node p0 p1))
  to-control i n l0 l1 r0 r1 q0 q1 p0 p1 e f f' =
      regroup l0 l1 r0 r1
      ∙ rw (f, f', regroup q0 q1 p0 p1, node-map (crossed (suc i) n) (crossed (suc i) n) (node q0 p0) (node q1 p1))
      (map-map _ _ (node (node q0 p0) (node q1 p1)) ∙ map_ext _ _ is (node (node q0 p0) (node q1 p1)) ∙ sym (map-map _ _ (node (node q0 p0) (node q1 p1))))
    where
      swap : (Tree n × Tree n) × (Tree n × Tree n) → (Tree n × Tree n) × (Tree n × Tree n)
      swap z = ((z.0.0, z.1.0), (z.0.1, z.1.1))

      is : (z : (Tree n × Tree n) × (Tree n × Tree n)) → swap (crossed (suc i) n z.0, crossed (suc i) n z.1) ≡ crossed i (suc n) (swap z)
      is z = rw e

  -- both sides at once, from the choices of q and of p
  both-step : (c i n : ℕ) (w : List ℕ) (q p : ℕ) (F : Tree (suc n) × Tree (suc n) → Tree (suc n) × Tree (suc n))
      → ((x y : ℕ × ℕ) → node (node (Kt (suc i) n w (pair_kids (role g i) L x y).0) (Kt (suc i) n w (pair_kids (role g i) L x y).1))
      (node (Kt (suc i) n w (pair_kids (role g i) R x y).0) (Kt (suc i) n w (pair_kids (role g i) R x y).1))
      ≡ map_o F (node (node (At (suc i) n w x.0) (At (suc i) n w x.1)) (node (At (suc i) n w y.0) (At (suc i) n w y.1))))
      → node (Kt i (suc n) (c ∷ w) (pair q p L)) (Kt i (suc n) (c ∷ w) (pair q p R)) ≡ map_o F (node (At i (suc n) (c ∷ w) q) (At i (suc n) (c ∷ w) p))
  both-step c i n w q p F h =
      rw (choose-together (pair_kids (role g i) L) c (A.moves i q) (A.moves i p) (dm i q) (dm i p), choose-together (pair_kids (role g i) R) c (A.moves i q) (A.moves i p) (dm i q) (dm i p))
      (go (choose c (A.moves i q)) (choose c (A.moves i p)))
    where
      Ku : Key → Key → Option (Tree (suc n))
      Ku l r = node (Kt (suc i) n w l) (Kt (suc i) n w r)

      U : ℕ → ℕ → Option (Tree (suc n))
      U l r = node (At (suc i) n w l) (At (suc i) n w r)

      nothing : (x : Option (Tree (suc n))) → none ≡ map_o F (node x none)
      nothing none = refl
      nothing (some x) = refl

      go : (o o' : Option (ℕ × ℕ)) → node (and_then (zip_o (pair_kids (role g i) L) o o') Ku) (and_then (zip_o (pair_kids (role g i) R) o o') Ku) ≡ map_o F (node (and_then o U) (and_then o' U))
      go none o' = refl
      go (some x) none = nothing (U x.0 x.1)
      go (some x) (some y) = h x y

  low : (i n : ℕ) (w : List ℕ) (s : ℕ) → t < i → Kt i n w (plain s) ≡ At i n w s
  low i n w s h = plain_idle A dm de g n i w s (low_idle i h)

  both-tree : (n i : ℕ) (w : List ℕ) (q p : ℕ) → t < i → i ≤ b → b < i + n
      → node (Kt i n w (pair q p L)) (Kt i n w (pair q p R)) ≡ map_o (crossed i n) (node (At i n w q) (At i n w p))
  both-tree zero i w q p h l m = absurd (omega arith)
  both-tree (suc n) i [] q p h l m = refl
  both-tree (suc n) i (c ∷ w) q p h l m =
      both-step c i n w q p (crossed i (suc n)) (λ x y. go x y (eqb i b) refl (λ k. both-tree n (suc i) w x.0 y.0 (omega arith) k (omega arith)) (λ k. both-tree n (suc i) w x.1 y.1 (omega arith) k (omega arith)))
    where
      P : Side → ℕ → ℕ → Option (Tree n)
      P s l r = Kt (suc i) n w (pair l r s)

      N : Role → ℕ × ℕ → ℕ × ℕ → Option (Tree (suc n) × Tree (suc n))
      N o x y = node (node (Kt (suc i) n w (pair_kids o L x y).0) (Kt (suc i) n w (pair_kids o L x y).1)) (node (Kt (suc i) n w (pair_kids o R x y).0) (Kt (suc i) n w (pair_kids o R x y).1))

      go : (x y : ℕ × ℕ) (z : Bool) → eqb i b ≡ z
          → (suc i ≤ b → node (Kt (suc i) n w (pair x.0 y.0 L)) (Kt (suc i) n w (pair x.0 y.0 R)) ≡ map_o (crossed (suc i) n) (node (At (suc i) n w x.0) (At (suc i) n w y.0)))
          → (suc i ≤ b → node (Kt (suc i) n w (pair x.1 y.1 L)) (Kt (suc i) n w (pair x.1 y.1 R)) ≡ map_o (crossed (suc i) n) (node (At (suc i) n w x.1) (At (suc i) n w y.1)))
          → N (role g i) x y ≡ map_o (crossed i (suc n)) (node (node (At (suc i) n w x.0) (At (suc i) n w x.1)) (node (At (suc i) n w y.0) (At (suc i) n w y.1)))
      go x y true e u v =
          ap (λ (o : Role). N o x y) (at_cross i h e)
          ∙ ap₂ node (ap₂ node (low (suc i) n w x.0 (omega arith)) (low (suc i) n w y.1 (omega arith))) (ap₂ node (low (suc i) n w y.0 (omega arith)) (low (suc i) n w x.1 (omega arith)))
          ∙ at-control i n (At (suc i) n w x.0) (At (suc i) n w x.1) (At (suc i) n w y.0) (At (suc i) n w y.1) e
      go x y false e u v =
          let more : suc i ≤ b = omega (arith, eqb-false i b e) in
          ap (λ (o : Role). N o x y) (elsewhere i (ne_eqb i t (λ z. omega arith)) e)
          ∙ to-control i n (P L x.0 y.0) (P L x.1 y.1) (P R x.0 y.0) (P R x.1 y.1) (At (suc i) n w x.0) (At (suc i) n w x.1) (At (suc i) n w y.0) (At (suc i) n w y.1) e (u more) (v more)

  -- above the target: both sides
  over-target : (i n : ℕ) (x y : Option (Tree n)) → i < t → node (map_o (effect g (suc i) n) x) (map_o (effect g (suc i) n) y) ≡ map_o (effect g i (suc n)) (node x y)
  over-target i n x y h =
      node-map (effect g (suc i) n) (effect g (suc i) n) x y ∙ map_ext (λ z. (effect g (suc i) n z.0, effect g (suc i) n z.1)) (effect g i (suc n)) is (node x y)
    where
      is : (z : Tree n × Tree n) → (effect g (suc i) n z.0, effect g (suc i) n z.1) ≡ effect g i (suc n) z
      is z = rw (ne_eqb i b (λ e. omega arith), ne_eqb i t (λ e. omega arith))

  pub below-tree : (n i : ℕ) (w : List ℕ) (q : ℕ) → i ≤ t → b < i + n → tree_of (keyed g A) i n w (plain q) ≡ map_o (effect g i n) (tree_of A i n w q)
  below-tree zero i w q h m = absurd (omega arith)
  below-tree (suc n) i [] q h m = refl
  below-tree (suc n) i (c ∷ w) q h m =
      step_map c (A.moves i q) (plain_kids (role g i)) _ _ (effect g i (suc n))
      (λ p. go p (eqb i t) refl (λ l. below-tree n (suc i) w p.0 l (omega arith)) (λ l. below-tree n (suc i) w p.1 l (omega arith)))
    where
      N : Role → ℕ × ℕ → Option (Tree n × Tree n)
      N o p = node (Kt (suc i) n w (plain_kids o p).0) (Kt (suc i) n w (plain_kids o p).1)

      go : (p : ℕ × ℕ) (z : Bool) → eqb i t ≡ z
          → (suc i ≤ t → Kt (suc i) n w (plain p.0) ≡ map_o (effect g (suc i) n) (At (suc i) n w p.0))
          → (suc i ≤ t → Kt (suc i) n w (plain p.1) ≡ map_o (effect g (suc i) n) (At (suc i) n w p.1))
          → N (role g i) p ≡ map_o (effect g i (suc n)) (node (At (suc i) n w p.0) (At (suc i) n w p.1))
      go p true e u v =
          let same : i ≡ t = eqb-true i t e in
          ap (λ (o : Role). N o p) (at_target i e) ∙ both-tree n (suc i) w p.0 p.1 (omega arith) (omega arith) (omega arith)
          ∙ crossed_is i n (At (suc i) n w p.0) (At (suc i) n w p.1) e
      go p false e u v =
          let more : suc i ≤ t = omega (arith, eqb-false i t e) in
          ap (λ (o : Role). N o p) (elsewhere i e (ne_eqb i b (λ z. omega arith)))
          ∙ ap₂ node (u more) (v more) ∙ over-target i n (At (suc i) n w p.0) (At (suc i) n w p.1) (omega arith)
