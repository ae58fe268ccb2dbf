-- One choice of a level: the members that go on with it are those of the states that it reaches, and none if a state reached lacks it. On the
-- last level it ends the word. Assumes nothing.
use mathlib.Core.Path.{◌≡◌, refl, sym, ap, ap₂, ◌∙◌}
use mathlib.Core.Bool.{Bool, true, false, cond, ◌&&◌}
use mathlib.Core.List.{List, [], ◌∷◌, ◌++◌}
use mathlib.Core.Option.{Option, none, some}
use Prim.Native.Nat.{ℕ, zero, suc, ◌+◌, ◌-◌, ◌<◌}
use native.Mathlib.Numerals.{add-one}
use native.Mathlib.Omega.{arith}
use lib.IntN.{ℤ}
use lib.ListN.{get_or, set, replicate}
use Rattle.automata.specs.Choice.{choose}
use Rattle.automata.specs.Tree.{Tree, Automaton, tree_of, node, and_then}
use Rattle.automata.specs.Members.{Member, member, choices, flat, up_to}
use Rattle.jobs.specs.Reply.{word_places}
use Rattle.lookup.specs.Lookup.{transition_row, leaf_of, is_some}
use Rattle.lookup.specs.Alts.{leaf_alts, ends_in, table_automaton}
use Rattle.lookup.proofs.Unions.{some-map}
use Rattle.stepping.specs.Step.{move_in}
use Rattle.stepping.proofs.Answers.{choose-rows}
use Rattle.reaching.specs.Reached.{all_reached, both_pass, kids_in, Emptied, Reaching, Kept, Gone}
use Rattle.reaching.proofs.ReachLaws.{reached-same, reached-more, reached-none}
use Rattle.walking.specs.declared.Tally.{Tally}
use Rattle.walking.specs.Tallied.{tick_of, tallied}
use Rattle.walking.specs.Walk.{members_by, trees_by, branch_of, visit_of, root_of}
use Rattle.walking.proofs.TallyLaws.{tally_none, tally_one}

-- ---- members by a test of the choices to come
flat-none : {X : Type 0} (F : ℕ → List X) (m i : ℕ) → ((c : ℕ) → F c ≡ []) → flat F (up_to i m) ≡ []
flat-none F zero i h = refl
flat-none F (suc m) i h = ap₂ ◌++◌ (h i) (flat-none F m (suc i) h)

pub flat_ext : {X : Type 0} (F G : ℕ → List X) (m i : ℕ) → ((c : ℕ) → c < i + m → F c ≡ G c) → flat F (up_to i m) ≡ flat G (up_to i m)
flat_ext F G zero i h = refl
flat_ext F G (suc m) i h = ap₂ ◌++◌ (h i (omega arith)) (flat_ext F G m (suc i) (λ c lt. h c (omega arith)))

pub none_pass : (root : ℕ) (word : List ℕ) (at k : ℕ) (f : List ℕ → Bool) → ((v : List ℕ) → f v ≡ false) → members_by root word at k f ≡ []
unfolding members_by
none_pass root word at zero f h = ap (λ (b : Bool). cond b (member root word ∷ []) []) (h [])
none_pass root word at (suc k) f h =
    flat-none (λ (c : ℕ). members_by root (set word at c) (at + 1) k (λ (v : List ℕ). f (c ∷ v))) 32 0
    (λ c. none_pass root (set word at c) (at + 1) k (λ (v : List ℕ). f (c ∷ v)) (λ v. h (c ∷ v)))

pub same-members : (root : ℕ) (word : List ℕ) (at k : ℕ) (f g : List ℕ → Bool) → ((v : List ℕ) → f v ≡ g v) → members_by root word at k f ≡ members_by root word at k g
unfolding members_by
same-members root word at zero f g h = ap (λ (b : Bool). cond b (member root word ∷ []) []) (h [])
same-members root word at (suc k) f g h =
    flat_ext (λ (c : ℕ). members_by root (set word at c) (at + 1) k (λ (v : List ℕ). f (c ∷ v))) (λ (c : ℕ). members_by root (set word at c) (at + 1) k (λ (v : List ℕ). g (c ∷ v))) 32 0
    (λ c lt. same-members root (set word at c) (at + 1) k (λ (v : List ℕ). f (c ∷ v)) (λ (v : List ℕ). g (c ∷ v)) (λ v. h (c ∷ v)))

pub members-turn : (root : ℕ) (word : List ℕ) (at k : ℕ) (f : List ℕ → Bool)
    → flat (λ (c : ℕ). members_by root (set word at c) (at + 1) k (λ (v : List ℕ). f (c ∷ v))) choices ≡ members_by root word at (suc k) f
unfolding members_by
members-turn root word at k f = refl

members-none : (root : ℕ) (word : List ℕ) (at : ℕ) (f : List ℕ → Bool) → f [] ≡ false → members_by root word at 0 f ≡ []
unfolding members_by
members-none root word at f e = ap (λ (b : Bool). cond b (member root word ∷ []) []) e

members-one : (root : ℕ) (word : List ℕ) (at : ℕ) (f : List ℕ → Bool) → f [] ≡ true → members_by root word at 0 f ≡ member root word ∷ []
unfolding members_by
members-one root word at f e = ap (λ (b : Bool). cond b (member root word ∷ []) []) e

both_some : (n : ℕ) (x y : Option (Tree n)) → is_some (node x y) ≡ is_some x && is_some y
both_some n none y = refl
both_some n (some x) none = refl
both_some n (some x) (some y) = refl

and-true : (b : Bool) → b && true ≡ b
and-true true = refl
and-true false = refl

module _ (rows masks : List ℕ) (coefs : List ℤ) (first : List ℕ) where
  abbrev S : Automaton ℕ
  S = table_automaton rows masks coefs first

  -- ---- one level down
  down : (at m c : ℕ) (v : List ℕ) (s : ℕ) → is_some (tree_of S (suc at) (suc m) (c ∷ v) s) ≡ kids_in rows masks first c (λ (q : ℕ). is_some (tree_of S (suc (suc at)) m v q)) s
  down at m c v s = go (move_in rows masks first c s)
    where
      go : (o : Option (ℕ × ℕ)) → is_some (and_then o (λ l r. node (tree_of S (suc (suc at)) m v l) (tree_of S (suc (suc at)) m v r))) ≡ both_pass (λ (q : ℕ). is_some (tree_of S (suc (suc at)) m v q)) o
      go none = refl
      go (some p) = both_some m (tree_of S (suc (suc at)) m v p.0) (tree_of S (suc (suc at)) m v p.1)

  module _ {row row' : List ℕ} (from c : ℕ) {to till : ℕ} {r : Bool} (gone : Gone row to till (λ g. all_reached (kids_in rows masks first c g) row from to) row' r) where
    pub trees_down : (at m : ℕ) (v : List ℕ) → trees_by rows masks coefs first at (suc m) row from to (c ∷ v) ≡ r && trees_by rows masks coefs first (suc at) m row' to till v
    trees_down at m v =
        reached-same (λ (s : ℕ). is_some (tree_of S (suc at) (suc m) (c ∷ v) s)) (kids_in rows masks first c (λ (q : ℕ). is_some (tree_of S (suc (suc at)) m v q))) row row from to
        (λ s lo hi. refl) (λ s lo hi. down at m c v s)
        ∙ sym (gone.is (λ (q : ℕ). is_some (tree_of S (suc (suc at)) m v q)))

    pub branch_fails : (root : ℕ) (word : List ℕ) (at left : ℕ) → (left ≡ 0 → ⊥) → r ≡ false → (passes : Member → Bool) (b : ℕ) (t : Tally)
        → t ≡ tallied passes b t (branch_of rows masks coefs first root word at left row from to c)
    branch_fails root word at zero there e passes b t = absurd (there refl)
    branch_fails root word at (suc m) there e passes b t =
        tally_none passes b t
        ∙ ap (tallied passes b t) (sym (none_pass root (set word at c) (at + 1) (suc m) (λ (v : List ℕ). trees_by rows masks coefs first at (suc m) row from to (c ∷ v))
        (λ v. trees_down at m v ∙ ap (λ (x : Bool). x && trees_by rows masks coefs first (suc at) m row' to till v) e)))

    pub branch_goes : (root : ℕ) (word : List ℕ) (at left : ℕ) → (left ≡ 0 → ⊥) → r ≡ true
        → visit_of rows masks coefs first root (set word at c) (at + 1) (left - 1) row' to till ≡ branch_of rows masks coefs first root word at left row from to c
    branch_goes root word at zero there e = absurd (there refl)
    branch_goes root word at (suc m) there e =
        let less : suc m - 1 ≡ m = omega arith in
        ap (λ (k : ℕ). visit_of rows masks coefs first root (set word at c) (at + 1) k row' to till) less
        ∙ ap (λ (k : ℕ). members_by root (set word at c) (at + 1) (suc m) (trees_by rows masks coefs first k m row' to till)) (add-one at)
        ∙ same-members root (set word at c) (at + 1) (suc m) (trees_by rows masks coefs first (suc at) m row' to till) (λ (v : List ℕ). trees_by rows masks coefs first at (suc m) row from to (c ∷ v))
        (λ v. sym (trees_down at m v ∙ ap (λ (x : Bool). x && trees_by rows masks coefs first (suc at) m row' to till v) e))

  -- ---- the last level
  leaf-has : (c s : ℕ) → is_some (transition_row masks first s c) ≡ is_some (choose c (ends_in rows masks coefs first s))
  unfolding leaf_alts
  leaf-has c s =
      sym (ap is_some (choose-rows (leaf_of rows coefs) masks c (get_or first s 0) (get_or first (s + 1) 0 - get_or first s 0))
      ∙ some-map (leaf_of rows coefs) (transition_row masks first s c))

  pub last_trees : (n c : ℕ) (row : List ℕ) (from to : ℕ) → all_reached (λ (q : ℕ). is_some (transition_row masks first q c)) row from to ≡ trees_by rows masks coefs first n 0 row from to (c ∷ [])
  last_trees n c row from to =
      reached-same (λ (q : ℕ). is_some (transition_row masks first q c)) (λ (s : ℕ). is_some (tree_of S (suc n) 0 (c ∷ []) s)) row row from to (λ s lo hi. refl) (λ s lo hi. leaf-has c s)

  module _ (passes : Member → Bool) (b : ℕ) (t : Tally) (root : ℕ) (word : List ℕ) (n c : ℕ) (row : List ℕ) (from to : ℕ) {e : Bool} (is : e ≡ all_reached (λ (q : ℕ). is_some (transition_row masks first q c)) row from to) where
    pub finish_none : e ≡ false → t ≡ tallied passes b t (members_by root word (n + 1) 0 (λ (v : List ℕ). trees_by rows masks coefs first n 0 row from to (c ∷ v)))
    finish_none z =
        tally_none passes b t
        ∙ ap (tallied passes b t) (sym (members-none root word (n + 1) (λ (v : List ℕ). trees_by rows masks coefs first n 0 row from to (c ∷ v)) (sym (last_trees n c row from to) ∙ sym is ∙ z)))

    pub finish_one : e ≡ true → tick_of passes b t (member root word) ≡ tallied passes b t (members_by root word (n + 1) 0 (λ (v : List ℕ). trees_by rows masks coefs first n 0 row from to (c ∷ v)))
    finish_one z =
        tally_one passes b t (member root word)
        ∙ ap (tallied passes b t) (sym (members-one root word (n + 1) (λ (v : List ℕ). trees_by rows masks coefs first n 0 row from to (c ∷ v)) (sym (last_trees n c row from to) ∙ sym is ∙ z)))

  pub branch_last : (root : ℕ) (word : List ℕ) (n at left : ℕ) (row : List ℕ) (from to c : ℕ) → left ≡ 0 → at + left ≡ n
      → members_by root (set word at c) (n + 1) 0 (λ (v : List ℕ). trees_by rows masks coefs first n 0 row from to (c ∷ v)) ≡ branch_of rows masks coefs first root word at left row from to c
  branch_last root word n at zero row from to c z e =
      let same : n ≡ at = omega arith in
      ap (λ (k : ℕ). members_by root (set word at c) (k + 1) 0 (λ (v : List ℕ). trees_by rows masks coefs first k 0 row from to (c ∷ v))) same
  branch_last root word n at (suc left) row from to c z e = absurd (omega arith)

  -- ---- another row with the same cells on the level
  pub branch_same : (root : ℕ) (word : List ℕ) (at left from : ℕ) {row row' : List ℕ} {to : ℕ} (c : ℕ) → Kept row to row'
      → branch_of rows masks coefs first root word at left row' from to c ≡ branch_of rows masks coefs first root word at left row from to c
  branch_same root word at left from {row} {row'} {to} c k =
      same-members root (set word at c) (at + 1) left (λ (v : List ℕ). trees_by rows masks coefs first at left row' from to (c ∷ v)) (λ (v : List ℕ). trees_by rows masks coefs first at left row from to (c ∷ v))
      (λ v. reached-same (λ (s : ℕ). is_some (tree_of S (suc at) left (c ∷ v) s)) (λ (s : ℕ). is_some (tree_of S (suc at) left (c ∷ v) s)) row row' from to (λ s lo hi. k.each s hi) (λ s lo hi. refl))

  -- ---- one root is reached
  pub root_members : (n root to : ℕ) (row mid row' : List ℕ) → root < to → Emptied row 0 to mid → Reaching mid root row'
      → visit_of rows masks coefs first root (replicate word_places 0) 0 n row' 0 to ≡ root_of rows masks coefs first n root
  root_members n root to row mid row' lt w m =
      same-members root (replicate word_places 0) 0 (suc n) (trees_by rows masks coefs first 0 n row' 0 to) (λ (v : List ℕ). is_some (tree_of S 1 n v root))
      (λ v. reached-more (λ (s : ℕ). is_some (tree_of S 1 n v s)) (omega arith) lt m
      ∙ ap (λ (x : Bool). is_some (tree_of S 1 n v root) && x) (reached-none (λ (s : ℕ). is_some (tree_of S 1 n v s)) w)
      ∙ and-true (is_some (tree_of S 1 n v root)))
