-- Marks made level by level from the leaves up have every pair whose trees are equal by some word of the end set. Assumes nothing.
use mathlib.Core.Path.{◌≡◌, refl, sym, ap₂, ◌∙◌, subst}
use mathlib.Core.Bool.{Bool, true, false, ◌&&◌, false≢true}
use mathlib.Core.List.{List, [], ◌∷◌}
use mathlib.Core.Option.{Option, none, some}
use Prim.Native.Nat.{ℕ, suc, ◌+◌, ◌<◌, ◌≤◌}
use native.Mathlib.Decide.{dec_lt}
use native.Mathlib.Omega.{arith}
use lib.IntN.{ℤ}
use lib.ListN.{get_or}
use Rattle.amplitude.proofs.Equal.{both}
use Rattle.automata.specs.Tree.{Automaton, tree_of}
use Rattle.verdict.proofs.Searching.{no_tree}
use Rattle.lookup.specs.Alts.{table_automaton}
use Rattle.meeting.specs.declared.Level.{Level}
use Rattle.meeting.specs.Met.{is_met, There}
use Rattle.meeting.proofs.Places.{words-before}
use Rattle.stepping.specs.Step.{kids, move_in, Kin, KidsThere, Stage}
use Rattle.fitting.specs.Fit.{LeafStage}
use Rattle.hinting.specs.Hint.{LeafHint, KidsHint, Ground, Hinted}
use Rattle.matching.specs.Levels.{Among, IsLevel}
use Rattle.matching.specs.Seeking.{word_from, twins, Sound, Seeking}
use Rattle.matching.proofs.Grounds.{chosen}
use Rattle.matching.proofs.Turns.{twins-step, twins_last}

-- ---- what marking a level asks
pub ground_last : {rows masks : List ℕ} {coefs : List ℤ} {first end_rows end_masks : List ℕ} {end_coefs : List ℤ} {end_first : List ℕ} {wide size : ℕ} {l : Level}
    → LeafStage rows masks coefs first end_rows end_masks end_coefs end_first wide size l → Ground true rows masks coefs first end_rows end_masks end_coefs end_first wide size l
ground_last t = record {
  each = λ s lo hi. record {
    each = λ e lo' hi'. record {
      begun = (t.image s lo hi).begun;
      long = (t.image s lo hi).long;
      end_begun = (t.ends e lo' hi').begun;
      leaves = λ z i a b. record { image = (t.image s lo hi).each i a b; ends = (t.ends e lo' hi').each };
      kids = λ z. absurd (false≢true (sym z));
    };
    there = λ e lo' hi'. t.there s e lo hi lo' hi';
  };
}

module _ {rows masks : List ℕ} (coefs : List ℤ) {first end_rows end_masks : List ℕ} (end_coefs : List ℤ) {end_first : List ℕ} {wide size : ℕ} {l next : Level}
    (t : Stage rows masks first end_rows end_masks end_first wide size l next) where
  both-there : {i j : ℕ} → Kin rows i next.from next.to → Kin end_rows j next.start next.stop → KidsThere rows end_rows wide size i j
  both-there k m = record {
    row = k.wide;
    end_row = m.wide;
    left = record { long = omega (arith, words-before wide _ next.to k.left_to, t.long); narrow = omega (arith, m.left_to, t.narrow) };
    right = record { long = omega (arith, words-before wide _ next.to k.right_to, t.long); narrow = omega (arith, m.right_to, t.narrow) };
  }

  own-there : (s e : ℕ) → s < l.to → e < l.stop → There wide size s e
  own-there s e h k =
      let lt : s < next.to = omega (arith, t.below, t.levels) in
      record { long = omega (arith, words-before wide s next.to lt, t.long); narrow = omega (arith, t.small) }

  pub ground_inner : Ground false rows masks coefs first end_rows end_masks end_coefs end_first wide size l
  ground_inner = record {
    each = λ s lo hi. record {
      each = λ e lo' hi'. record {
        begun = (t.image s lo hi).begun;
        long = (t.image s lo hi).long;
        end_begun = (t.ends e lo' hi').begun;
        leaves = λ z. absurd (false≢true z);
        kids = λ z i a b. record { each = λ j a' b'. both-there ((t.image s lo hi).each i a b) ((t.ends e lo' hi').each j a' b') };
      };
      there = λ e lo' hi'. own-there s e hi hi';
    };
  }

-- ---- a pair whose trees are equal could match
module _ (rows masks : List ℕ) (coefs : List ℤ) (first end_rows end_masks : List ℕ) (end_coefs : List ℤ) (end_first word : List ℕ) where
  abbrev S : Automaton ℕ
  S = table_automaton rows masks coefs first

  abbrev E : Automaton ℕ
  E = table_automaton end_rows end_masks end_coefs end_first

  leaf_hint : (at s e : ℕ) (v : List ℕ) → twins S E word at 0 v s e ≡ true → LeafHint rows masks coefs first end_rows end_masks end_coefs end_first (get_or word at 0) s e
  leaf_hint at s e [] h = absurd (false≢true (sym (no_tree S E 0 (tree_of S (suc at) 0 (word_from word at 0) s)) ∙ h))
  leaf_hint at s e (d ∷ []) h = record { choice = d; fits = sym (twins_last S E word at d s e) ∙ h }
  leaf_hint at s e (d ∷ d' ∷ v) h = absurd (false≢true (sym (no_tree S E 0 (tree_of S (suc at) 0 (word_from word at 0) s)) ∙ h))

  -- the children of the pair are marked if their trees are equal
  abbrev KidsSound : ℕ → ℕ → ℕ → List ℕ → ℕ → ℕ → Type 0
  KidsSound at m wide may s e =
      (d : ℕ) (x y : ℕ × ℕ) (v : List ℕ) → move_in rows masks first (get_or word at 0) s ≡ some x → move_in end_rows end_masks end_first d e ≡ some y
      → (twins S E word (at + 1) m v x.0 y.0 ≡ true → is_met wide may x.0 y.0 ≡ true) × (twins S E word (at + 1) m v x.1 y.1 ≡ true → is_met wide may x.1 y.1 ≡ true)

  kids_hint : (at m wide : ℕ) (may : List ℕ) (s e : ℕ) (v : List ℕ) → KidsSound at m wide may s e → twins S E word at (suc m) v s e ≡ true
      → KidsHint rows masks first end_rows end_masks end_first (get_or word at 0) wide may s e
  kids_hint at m wide may s e [] down h = absurd (false≢true (sym (no_tree S E (suc m) (tree_of S (suc at) (suc m) (word_from word at (suc m)) s)) ∙ h))
  kids_hint at m wide may s e (d ∷ v) down h = record {
    choice = d;
    test = λ q f. twins S E word (at + 1) m v q f && is_met wide may q f;
    marked = λ q f k. (both (twins S E word (at + 1) m v q f) (is_met wide may q f) k).1;
    fits = go (move_in rows masks first (get_or word at 0) s) refl (move_in end_rows end_masks end_first d e) refl (sym (twins-step S E word at m d v s e) ∙ h);
  }
    where
      go : (o : Option (ℕ × ℕ)) → move_in rows masks first (get_or word at 0) s ≡ o → (p : Option (ℕ × ℕ)) → move_in end_rows end_masks end_first d e ≡ p → kids (twins S E word (at + 1) m v) o p ≡ true
          → kids (λ q f. twins S E word (at + 1) m v q f && is_met wide may q f) o p ≡ true
      go none i p j k = absurd (false≢true k)
      go (some x) i none j k = absurd (false≢true k)
      go (some x) i (some y) j k =
          let b = both (twins S E word (at + 1) m v x.0 y.0) (twins S E word (at + 1) m v x.1 y.1) k in
          let z = down d x y v i j in
          ap₂ ◌&&◌ (ap₂ ◌&&◌ b.0 (z.0 b.0)) (ap₂ ◌&&◌ b.1 (z.1 b.1))

-- a pair of this level stands among the level's
on_level : {counts end_counts : List ℕ} {at : ℕ} {l : Level} {s e : ℕ} → IsLevel counts end_counts at l → Among counts at s → Among end_counts at e → (l.from ≤ s) × (s < l.to) × (l.start ≤ e) × (e < l.stop)
on_level is a b = (omega (arith, is.from, a.after), omega (arith, is.to, a.before), omega (arith, is.start, b.after), omega (arith, is.stop, b.before))

-- ---- what is marked
module _ {rows masks : List ℕ} {coefs : List ℤ} {counts first end_rows end_masks : List ℕ} {end_coefs : List ℤ} {end_counts end_first word : List ℕ} {wide size at : ℕ} {l : Level} where
  pub sound_last : {may may' : List ℕ} (m : ℕ) → m ≡ 0 → Seeking rows masks coefs counts first end_rows end_masks end_coefs end_counts end_first word wide size at m l
      → Hinted true rows masks coefs first end_rows end_masks end_coefs end_first (get_or word at 0) wide may l may'
      → Sound (table_automaton rows masks coefs first) (table_automaton end_rows end_masks end_coefs end_first) word counts end_counts wide may' at (at + m)
  sound_last {may} {may'} m z t w = record {
    each = λ a k le e s f A B v h.
        let x : a ≡ at = omega arith in
        let y : k ≡ 0 = omega arith in
        let o = on_level t.here (subst (λ (i : ℕ). Among counts i s) x A) (subst (λ (i : ℕ). Among end_counts i f) x B) in
        w.each s f o.0 o.1 o.2 o.3
        (leaf_hint rows masks coefs first end_rows end_masks end_coefs end_first word at s f v
        (ap₂ (λ (i j : ℕ). twins (table_automaton rows masks coefs first) (table_automaton end_rows end_masks end_coefs end_first) word i j v s f) (sym x) (sym y) ∙ h));
  }

  pub sound_more : {mid may' : List ℕ} (m k : ℕ) → k ≡ suc m → Seeking rows masks coefs counts first end_rows end_masks end_coefs end_counts end_first word wide size at k l
      → Sound (table_automaton rows masks coefs first) (table_automaton end_rows end_masks end_coefs end_first) word counts end_counts wide mid (at + 1) (at + 1 + m)
      → Hinted false rows masks coefs first end_rows end_masks end_coefs end_first (get_or word at 0) wide mid l may'
      → Sound (table_automaton rows masks coefs first) (table_automaton end_rows end_masks end_coefs end_first) word counts end_counts wide may' at (at + k)
  sound_more {mid} {may'} m k z t below w = record { each = λ a j le e s f A B v h. go a j le e s f A B v h (dec_lt at a) }
    where
      Same : ℕ → ℕ → List ℕ → ℕ → ℕ → Bool
      Same i j v s f = twins (table_automaton rows masks coefs first) (table_automaton end_rows end_masks end_coefs end_first) word i j v s f

      kids-sound : (s f : ℕ) → Among counts at s → Among end_counts at f → KidsSound rows masks coefs first end_rows end_masks end_coefs end_first word at m wide mid s f
      kids-sound s f A B d x y v i j =
          let less : at < at + k = omega arith in
          let p = chosen t.lent.image at s (get_or word at 0) less A x i in
          let q = chosen t.lent.ends at f d less B y j in
          let one : suc at ≡ at + 1 = omega arith in (
            below.each (at + 1) m (omega arith) refl x.0 y.0 (subst (λ (n : ℕ). Among counts n x.0) one p.0) (subst (λ (n : ℕ). Among end_counts n y.0) one q.0) v,
            below.each (at + 1) m (omega arith) refl x.1 y.1 (subst (λ (n : ℕ). Among counts n x.1) one p.1) (subst (λ (n : ℕ). Among end_counts n y.1) one q.1) v,
          )

      go : (a j : ℕ) → at ≤ a → a + j ≡ at + k → (s f : ℕ) → Among counts a s → Among end_counts a f → (v : List ℕ) → Same a j v s f ≡ true → Dec (at < a) → is_met wide may' s f ≡ true
      go a j le e s f A B v h (yes lt) = w.grows s f (below.each a j (omega arith) (omega arith) s f A B v h)
      go a j le e s f A B v h (no lt) =
          let x : a ≡ at = omega arith in
          let y : j ≡ suc m = omega arith in
          let A' = subst (λ (i : ℕ). Among counts i s) x A in
          let B' = subst (λ (i : ℕ). Among end_counts i f) x B in
          let o = on_level t.here A' B' in
          w.each s f o.0 o.1 o.2 o.3 (kids_hint rows masks coefs first end_rows end_masks end_coefs end_first word at m wide mid s f v (kids-sound s f A' B') (ap₂ (λ (i n : ℕ). Same i n v s f) (sym x) (sym y) ∙ h))
