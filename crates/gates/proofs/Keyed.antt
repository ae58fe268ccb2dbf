-- A gate does what its matrix does, for gates with no control or with the control above the target: the trees of the keyed automaton are the
-- matrix applied to the old trees, level by level. Assumes nothing.
use mathlib.Core.Path.{◌≡◌, refl, sym, ap, ap₂, ◌∙◌, subst}
use mathlib.Core.Bool.{Bool, true, false, cond}
use mathlib.Core.List.{List, [], ◌∷◌}
use mathlib.Core.Option.{Option, none, some}
use Prim.Native.Nat.{ℕ, zero, suc, ◌<◌, ◌≤◌}
use native.Mathlib.Omega.{arith}
use lib.Dec.{eqb}
use borrow.Author.Tests.{eq-eqb, ne_eqb, lt-ltb, eqb-true, eqb-false}
use Rattle.amplitude.specs.Leaf.{turn}
use Rattle.automata.specs.Choice.{Alt, choose, map_o, zip_o, map_alt}
use Rattle.automata.specs.Tree.{Tree, Automaton, tree_of, node, and_then, map_t, zip_t}
use Rattle.automata.proofs.Choosing.{Disjoint, choose-map, choose-together}
use Rattle.gates.specs.Gate.{Kind, phase, flip, H, Gate}
use Rattle.gates.specs.Matrix.{Matrix, kind_matrix, row, apply_at, effect, back}
use Rattle.gates.specs.Key.{Side, L, R, Key, plain, shifted, inside, pair, turned}
use Rattle.gates.specs.Roles.{Role, pass, begin, act, within, role, kind_kids, plain_kids, inside_kids, pair_kids, both_kids, pair_end, keyed}
use Rattle.gates.proofs.Options.{map_same, map_ext, node-map, zip_node, step_map, step-together}
use Rattle.gates.proofs.MatrixLaws.{row-right, row-left, unturned, sum-end, difference_end, zip_ext, select_past, select-none}

module _ (A : Automaton ℕ) (dm : (i q : ℕ) → Disjoint (A.moves i q)) (de : (q : ℕ) → Disjoint (A.ends q)) where
  -- ---- "shifted j": all leaves below are multiplied by ω^j
  pub shifted-tree : (g : Gate) (j n i : ℕ) (w : List ℕ) (q : ℕ) → tree_of (keyed g A) i n w (shifted j q) ≡ map_o (map_t n (turn j)) (tree_of A i n w q)
  shifted-tree g j zero i [] q = refl
  shifted-tree g j zero i (c ∷ []) q = choose-map (turn j) c (A.ends q)
  shifted-tree g j zero i (c ∷ d ∷ w) q = refl
  shifted-tree g j (suc n) i [] q = refl
  shifted-tree g j (suc n) i (c ∷ w) q =
      step_map c (A.moves i q) (λ p. (shifted j p.0, shifted j p.1)) _ _ (map_t (suc n) (turn j))
      (λ p. ap₂ node (shifted-tree g j n (suc i) w p.0) (shifted-tree g j n (suc i) w p.1)
      ∙ node-map (map_t n (turn j)) (map_t n (turn j)) (tree_of A (suc i) n w p.0) (tree_of A (suc i) n w p.1))

  -- ---- plain states from a level on at which the gate leaves them alone
  pub record Idle (g : Gate) (i : ℕ) : Type 0 where
    pub idle : (i' : ℕ) (p : ℕ × ℕ) → i ≤ i' → plain_kids (role g i') p ≡ (plain p.0, plain p.1)

  abbrev idle_on : (g : Gate) (i : ℕ) → Idle g i → Idle g (suc i)
  idle_on g i h = record { idle = λ i' p k. h.idle i' p (omega arith) }

  same-node : {T : Type 0} (o : Option T) → o ≡ map_o (λ x. x) o
  same-node o = sym (map_same (λ x. x) (λ x. refl) o)

  pub plain_idle : (g : Gate) (n i : ℕ) (w : List ℕ) (q : ℕ) → Idle g i → tree_of (keyed g A) i n w (plain q) ≡ tree_of A i n w q
  plain_idle g zero i [] q h = refl
  plain_idle g zero i (c ∷ []) q h = refl
  plain_idle g zero i (c ∷ d ∷ w) q h = refl
  plain_idle g (suc n) i [] q h = refl
  plain_idle g (suc n) i (c ∷ w) q h =
      step_map c (A.moves i q) (plain_kids (role g i)) _ _ (λ x. x)
      (λ p. rw (h.idle i p (omega arith))
      (ap₂ node (plain_idle g n (suc i) w p.0 (idle_on g i h)) (plain_idle g n (suc i) w p.1 (idle_on g i h)) ∙ same-node _))
      ∙ map_same (λ x. x) (λ x. refl) _

  pub turned-tree : (g : Gate) (j n i : ℕ) (w : List ℕ) (q : ℕ) → Idle g i → tree_of (keyed g A) i n w (turned j q) ≡ map_o (map_t n (turn j)) (tree_of A i n w q)
  turned-tree g zero n i w q h = plain_idle g n i w q h ∙ sym (map_same (map_t n (turn 0)) (unturned n) (tree_of A i n w q))
  turned-tree g (suc j) n i w q h = shifted-tree g (suc j) n i w q

  -- ---- pairs that stay pairs down to the leaves
  pub record Paired (g : Gate) (i : ℕ) : Type 0 where
    pub paired : (i' : ℕ) (s : Side) (q p : ℕ × ℕ) → i ≤ i' → pair_kids (role g i') s q p ≡ both_kids s q p

  abbrev paired_on : (g : Gate) (i : ℕ) → Paired g i → Paired g (suc i)
  paired_on g i h = record { paired = λ i' s q p k. h.paired i' s q p (omega arith) }

  pub pair-tree : (g : Gate) (s : Side) (n i : ℕ) (w : List ℕ) (q p : ℕ) → Paired g i
      → tree_of (keyed g A) i n w (pair q p s) ≡ zip_o (zip_t n (pair_end s)) (tree_of A i n w q) (tree_of A i n w p)
  pair-tree g s zero i [] q p h = refl
  pair-tree g s zero i (c ∷ []) q p h = choose-together (pair_end s) c (A.ends q) (A.ends p) (de q) (de p)
  pair-tree g s zero i (c ∷ d ∷ w) q p h = refl
  pair-tree g s (suc n) i [] q p h = refl
  pair-tree g s (suc n) i (c ∷ w) q p h =
      step-together c (A.moves i q) (A.moves i p) (dm i q) (dm i p) (pair_kids (role g i) s) _ _ (zip_t (suc n) (pair_end s))
      (λ a b. rw (h.paired i s a b (omega arith))
      (ap₂ node (pair-tree g s n (suc i) w a.0 b.0 (paired_on g i h)) (pair-tree g s n (suc i) w a.1 b.1 (paired_on g i h))
      ∙ zip_node (zip_t n (pair_end s)) (zip_t n (pair_end s)) (tree_of A (suc i) n w a.0) (tree_of A (suc i) n w a.1) (tree_of A (suc i) n w b.0) (tree_of A (suc i) n w b.1)))

  -- ---- the target level: the rule of a kind is its matrix
  abbrev hit : Kind → (n : ℕ) → Tree n × Tree n → Tree n × Tree n
  hit k n x = (row n (kind_matrix k).a (kind_matrix k).b x.0 x.1, row n (kind_matrix k).c (kind_matrix k).d x.0 x.1)

  kind-tree : (g : Gate) (k : Kind) (n i : ℕ) (w : List ℕ) (p : ℕ × ℕ) → Idle g i → Paired g i
      → node (tree_of (keyed g A) i n w (kind_kids k p).0) (tree_of (keyed g A) i n w (kind_kids k p).1) ≡ map_o (hit k n) (node (tree_of A i n w p.0) (tree_of A i n w p.1))
  kind-tree g (phase j) n i w p h k = rw (plain_idle g n i w p.0 h, shifted-tree g j n i w p.1) (go (tree_of A i n w p.0) (tree_of A i n w p.1))
    where
      go : (x y : Option (Tree n)) → node x (map_o (map_t n (turn j)) y) ≡ map_o (hit (phase j) n) (node x y)
      go none y = refl
      go (some x) none = refl
      go (some x) (some y) = ap₂ (λ (a b : Tree n). some (a, b)) (sym (row-left 0 n x y ∙ unturned n x)) (sym (row-right j n x y))
  kind-tree g (flip j) n i w p h k = rw (turned-tree g j n i w p.0 h, turned-tree g (back j) n i w p.1 h) (go (tree_of A i n w p.0) (tree_of A i n w p.1))
    where
      go : (x y : Option (Tree n)) → node (map_o (map_t n (turn (back j))) y) (map_o (map_t n (turn j)) x) ≡ map_o (hit (flip j) n) (node x y)
      go none none = refl
      go none (some y) = refl
      go (some x) none = refl
      go (some x) (some y) = ap₂ (λ (a b : Tree n). some (a, b)) (sym (row-right (back j) n x y)) (sym (row-left j n x y))
  kind-tree g H n i w p h k = rw (pair-tree g L n i w p.0 p.1 k, pair-tree g R n i w p.0 p.1 k) (go (tree_of A i n w p.0) (tree_of A i n w p.1))
    where
      go : (x y : Option (Tree n)) → node (zip_o (zip_t n (pair_end L)) x y) (zip_o (zip_t n (pair_end R)) x y) ≡ map_o (hit H n) (node x y)
      go none y = refl
      go (some x) none = refl
      go (some x) (some y) = ap₂ (λ (a b : Tree n). some (a, b)) (zip_ext n (pair_end L) _ sum-end x y) (zip_ext n (pair_end R) _ difference_end x y)

  -- the matrix at its own level, and above it
  here : (k : Kind) (t i n : ℕ) (o : Option (Tree n × Tree n)) → eqb i t ≡ true → map_o (hit k n) o ≡ map_o (apply_at (kind_matrix k) t i (suc n)) o
  here k t i n o e = map_ext (hit k n) (apply_at (kind_matrix k) t i (suc n)) (λ x. rw e) o

  further : (M : Matrix) (t i n : ℕ) (x y : Option (Tree n)) → eqb i t ≡ false
      → node (map_o (apply_at M t (suc i) n) x) (map_o (apply_at M t (suc i) n) y) ≡ map_o (apply_at M t i (suc n)) (node x y)
  further M t i n x y e =
      node-map (apply_at M t (suc i) n) (apply_at M t (suc i) n) x y
      ∙ map_ext (λ z. (apply_at M t (suc i) n z.0, apply_at M t (suc i) n z.1)) (apply_at M t i (suc n)) (λ z. rw e) (node x y)

  -- ---- states on which the kind acts at level t and which else stay what they are: plain ones with no control, those inside a control
  module _ (g : Gate) (k : Kind) (t : ℕ) (K : ℕ → Key) (from : ℕ)
      (moved : (i q : ℕ) → from ≤ i → (keyed g A).moves i (K q) ≡ map_alt (λ p. cond (eqb i t) (kind_kids k p) (K p.0, K p.1)) (A.moves i q))
      (ended : (q : ℕ) → (keyed g A).ends (K q) ≡ A.ends q) (idle : (i : ℕ) → from ≤ i → t < i → Idle g i) (paired : (i : ℕ) → from ≤ i → t < i → Paired g i) where
    pub act_tree : (n i : ℕ) (w : List ℕ) (q : ℕ) → from ≤ i → tree_of (keyed g A) i n w (K q) ≡ map_o (apply_at (kind_matrix k) t i n) (tree_of A i n w q)
    act_tree zero i [] q h = refl
    act_tree zero i (c ∷ []) q h = ap (choose c) (ended q) ∙ sym (map_same (λ x. x) (λ x. refl) (choose c (A.ends q)))
    act_tree zero i (c ∷ d ∷ w) q h = refl
    act_tree (suc n) i [] q h = refl
    act_tree (suc n) i (c ∷ w) q h =
        ap (λ (us : List (Alt (Key × Key))). and_then (choose c us) (λ l r. node (Kt l) (Kt r))) (moved i q h)
        ∙ step_map c (A.moves i q) _ _ _ (apply_at (kind_matrix k) t i (suc n))
        (λ p. go p (eqb i t) refl (act_tree n (suc i) w p.0 (omega arith)) (act_tree n (suc i) w p.1 (omega arith)))
      where
        Kt : Key → Option (Tree n)
        Kt x = tree_of (keyed g A) (suc i) n w x

        At : ℕ → Option (Tree n)
        At s = tree_of A (suc i) n w s

        go : (p : ℕ × ℕ) (b : Bool) → eqb i t ≡ b
            → Kt (K p.0) ≡ map_o (apply_at (kind_matrix k) t (suc i) n) (At p.0) → Kt (K p.1) ≡ map_o (apply_at (kind_matrix k) t (suc i) n) (At p.1)
            → node (Kt (cond b (kind_kids k p) (K p.0, K p.1)).0) (Kt (cond b (kind_kids k p) (K p.0, K p.1)).1)
            ≡ map_o (apply_at (kind_matrix k) t i (suc n)) (node (At p.0) (At p.1))
        go p true e l r =
            let past : t < suc i = omega (arith, eqb-true i t e) in
            kind-tree g k n (suc i) w p (idle (suc i) (omega arith) past) (paired (suc i) (omega arith) past) ∙ here k t i n (node (At p.0) (At p.1)) e
        go p false e l r = ap₂ node l r ∙ further (kind_matrix k) t i n (At p.0) (At p.1) e

  -- ---- a kind alone at level t
  module _ (k : Kind) (t : ℕ) where
    alone_moved : (i q : ℕ) → 0 ≤ i → (keyed (Gate.plain k t) A).moves i (plain q) ≡ map_alt (λ p. cond (eqb i t) (kind_kids k p) (plain p.0, plain p.1)) (A.moves i q)
    alone_moved i q h = go (eqb i t)
      where
        go : (b : Bool) → map_alt (plain_kids (cond b (act k) pass)) (A.moves i q) ≡ map_alt (λ p. cond b (kind_kids k p) (plain p.0, plain p.1)) (A.moves i q)
        go true = refl
        go false = refl

    alone_idle : (i : ℕ) → 0 ≤ i → t < i → Idle (Gate.plain k t) i
    alone_idle i h l = record { idle = λ i' p e. rw (ne_eqb i' t (λ z. omega arith)) }

    alone_paired : (i : ℕ) → 0 ≤ i → t < i → Paired (Gate.plain k t) i
    alone_paired i h l = record { paired = λ i' s q p e. rw (ne_eqb i' t (λ z. omega arith)) }

    pub alone-tree : (n i : ℕ) (w : List ℕ) (q : ℕ) → tree_of (keyed (Gate.plain k t) A) i n w (plain q) ≡ map_o (effect (Gate.plain k t) i n) (tree_of A i n w q)
    alone-tree n i w q =
        act_tree (Gate.plain k t) k t plain 0 alone_moved (λ q. refl) alone_idle alone_paired n i w q (omega arith)
        ∙ map_ext (apply_at (kind_matrix k) t i n) (effect (Gate.plain k t) i n) (λ x. sym (select-none i n x (apply_at (kind_matrix k) t i n x))) (tree_of A i n w q)

  -- ---- control above: "inside" passes down to level t
  module _ (k : Kind) (b t : ℕ) (bt : b < t) where
    abbrev g : Gate
    g = Gate.controlled b k t

    -- below the control a plain state is left alone, and one inside waits for the target
    below-control : (i : ℕ) → b < i → role g i ≡ cond (eqb i t) (within k) pass
    below-control i h = rw (lt-ltb b t bt, ne_eqb i b (λ z. omega arith))

    at-begin : (i : ℕ) → eqb i b ≡ true → role g i ≡ begin
    at-begin i e = rw (lt-ltb b t bt, e)

    over-control : (i : ℕ) → eqb i b ≡ false → i < b → role g i ≡ pass
    over-control i e h = rw (lt-ltb b t bt, e, ne_eqb i t (λ z. omega arith))

    above_idle : (i : ℕ) → b < i → Idle g i
    above_idle i h = record { idle = λ i' p e. ap (λ (o : Role). plain_kids o p) (below-control i' (omega arith)) ∙ go p (eqb i' t) }
      where
        go : (p : ℕ × ℕ) (y : Bool) → plain_kids (cond y (within k) pass) p ≡ (plain p.0, plain p.1)
        go p true = refl
        go p false = refl

    above_paired : (i : ℕ) → b < i → Paired g i
    above_paired i h = record { paired = λ i' s q p e. ap (λ (o : Role). pair_kids o s q p) (below-control i' (omega arith)) ∙ go s q p (eqb i' t) }
      where
        go : (s : Side) (q p : ℕ × ℕ) (y : Bool) → pair_kids (cond y (within k) pass) s q p ≡ both_kids s q p
        go s q p true = refl
        go s q p false = refl

    inside_moved : (i q : ℕ) → suc b ≤ i → (keyed g A).moves i (inside q) ≡ map_alt (λ p. cond (eqb i t) (kind_kids k p) (inside p.0, inside p.1)) (A.moves i q)
    inside_moved i q h = ap (λ (o : Role). map_alt (inside_kids o) (A.moves i q)) (below-control i h) ∙ go (eqb i t)
      where
        go : (y : Bool) → map_alt (inside_kids (cond y (within k) pass)) (A.moves i q) ≡ map_alt (λ p. cond y (kind_kids k p) (inside p.0, inside p.1)) (A.moves i q)
        go true = refl
        go false = refl

    inside-tree : (n i : ℕ) (w : List ℕ) (q : ℕ) → suc b ≤ i → tree_of (keyed g A) i n w (inside q) ≡ map_o (apply_at (kind_matrix k) t i n) (tree_of A i n w q)
    inside-tree = act_tree g k t inside (suc b) inside_moved (λ q. refl) (λ i h l. above_idle i h) (λ i h l. above_paired i h)

    -- the effect at the control: the left side stays, the right side gets the matrix
    at-control : (n : ℕ) (x y : Option (Tree n)) → node x (map_o (apply_at (kind_matrix k) t (suc b) n) y) ≡ map_o (effect g b (suc n)) (node x y)
    at-control n x y =
        ap (λ (o : Option (Tree n)). node o (map_o (apply_at (kind_matrix k) t (suc b) n) y)) (sym (map_same (λ z. z) (λ z. refl) x))
        ∙ node-map (λ z. z) (apply_at (kind_matrix k) t (suc b) n) x y
        ∙ map_ext (λ z. (z.0, apply_at (kind_matrix k) t (suc b) n z.1)) (effect g b (suc n)) is (node x y)
      where
        is : (z : Tree n × Tree n) → (z.0, apply_at (kind_matrix k) t (suc b) n z.1) ≡ effect g b (suc n) z
        is z =
            rw (eq-eqb b b refl, ne_eqb b t (λ e. omega arith))
            (ap (λ (r : Tree n). (z.0, r)) (sym (select_past b (suc b) n z.1 (apply_at (kind_matrix k) t (suc b) n z.1) (omega arith))))

    -- and above it: both sides
    above_control : (i n : ℕ) (x y : Option (Tree n)) → i < b → node (map_o (effect g (suc i) n) x) (map_o (effect g (suc i) n) y) ≡ map_o (effect g i (suc n)) (node x y)
    above_control i n x y h =
        node-map (effect g (suc i) n) (effect g (suc i) n) x y ∙ map_ext (λ z. (effect g (suc i) n z.0, effect g (suc i) n z.1)) (effect g i (suc n)) is (node x y)
      where
        is : (z : Tree n × Tree n) → (effect g (suc i) n z.0, effect g (suc i) n z.1) ≡ effect g i (suc n) z
        is z = rw (ne_eqb i b (λ e. omega arith), ne_eqb i t (λ e. omega arith))

    pub above_tree : (n i : ℕ) (w : List ℕ) (q : ℕ) → i ≤ b → tree_of (keyed g A) i n w (plain q) ≡ map_o (effect g i n) (tree_of A i n w q)
    above_tree zero i [] q h = refl
    above_tree zero i (c ∷ []) q h = sym (map_same (λ x. x) (λ x. refl) (choose c (A.ends q)))
    above_tree zero i (c ∷ d ∷ w) q h = refl
    above_tree (suc n) i [] q h = refl
    above_tree (suc n) i (c ∷ w) q h =
        step_map c (A.moves i q) (plain_kids (role g i)) _ _ (effect g i (suc n))
        (λ p. go p (eqb i b) refl (λ l. above_tree n (suc i) w p.0 l) (λ l. above_tree n (suc i) w p.1 l))
      where
        Kt : Key → Option (Tree n)
        Kt x = tree_of (keyed g A) (suc i) n w x

        At : ℕ → Option (Tree n)
        At s = tree_of A (suc i) n w s

        go : (p : ℕ × ℕ) (x : Bool) → eqb i b ≡ x
            → (suc i ≤ b → Kt (plain p.0) ≡ map_o (effect g (suc i) n) (At p.0)) → (suc i ≤ b → Kt (plain p.1) ≡ map_o (effect g (suc i) n) (At p.1))
            → node (Kt (plain_kids (role g i) p).0) (Kt (plain_kids (role g i) p).1) ≡ map_o (effect g i (suc n)) (node (At p.0) (At p.1))
        go p true e l r =
            let same : i ≡ b = eqb-true i b e in
            ap (λ (o : Role). node (Kt (plain_kids o p).0) (Kt (plain_kids o p).1)) (at-begin i e)
            ∙ ap₂ node (plain_idle g n (suc i) w p.0 (above_idle (suc i) (omega arith))) (inside-tree n (suc i) w p.1 (omega arith))
            ∙ subst (λ (m : ℕ). node (At p.0) (map_o (apply_at (kind_matrix k) t (suc m) n) (At p.1)) ≡ map_o (effect g m (suc n)) (node (At p.0) (At p.1))) (sym same) (at-control n (At p.0) (At p.1))
        go p false e l r =
            let low : i < b = omega (arith, eqb-false i b e) in
            ap (λ (o : Role). node (Kt (plain_kids o p).0) (Kt (plain_kids o p).1)) (over-control i e low)
            ∙ ap₂ node (l low) (r low) ∙ above_control i n (At p.0) (At p.1) low
