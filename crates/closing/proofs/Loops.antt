-- Both loops: what is left, from here on, comes to the whole. Assumes nothing.
use mathlib.Core.Path.{◌≡◌, refl, sym, ap, ◌∙◌}
use mathlib.Core.Bool.{true, cond}
use mathlib.Core.List.{List, [], ◌∷◌}
use Prim.Native.Nat.{ℕ, suc, ◌+◌, ◌-◌, ◌<◌, ◌≤◌}
use native.Mathlib.Numerals.{add-one}
use native.Mathlib.Omega.{arith}
use lib.Dec.{eqb}
use lib.ListN.{length, get_or, drop}
use lib.Seq.{drop-cons, drop-length}
use borrow.Author.Tests.{eq-eqb, ne_eqb, ltb-true}
use Rattle.amplitude.proofs.Equal.{both}
use Rattle.automata.specs.Members.{up_to}
use Rattle.cliffords.specs.Elements.{elements_most, identity, then}
use Rattle.cliffords.specs.Sequences.{after, all_of, first_back, inverse}
use Rattle.cliffords.specs.Jobs.{is_element, all_elements}
use Rattle.cliffords.proofs.Group.{numbered, then-below}

-- the identity is the code's 2
pub identity-is : identity ≡ 2
identity-is = cc numbered

-- ---- the columns of a row
pub record Searching (p q : ℕ) : Type 0 where
  pub place : q ≤ elements_most
  pub rest : first_back p (up_to q (elements_most - q)) ≡ inverse p

pub search_begin : (p : ℕ) → Searching p 0
unfolding inverse
search_begin p = record { place = omega arith; rest = refl }

module _ {p q : ℕ} (s : Searching p q) where
  module _ (more : q < elements_most) where
    one_more : first_back p (up_to q (elements_most - q)) ≡ cond (eqb (then p q) identity) q (first_back p (up_to (q + 1) (elements_most - (q + 1))))
    unfolding first_back
    one_more =
        let e : elements_most - q ≡ suc (elements_most - (q + 1)) = omega arith in
        ap (λ (m : ℕ). first_back p (up_to q m)) e
        ∙ ap (λ (m : ℕ). cond (eqb (then p q) identity) q (first_back p (up_to m (elements_most - (q + 1))))) (sym (add-one q))

    pub search_found : {r : ℕ} → r ≡ then p q → r ≡ 2 → q ≡ inverse p
    search_found {r} is h = sym (rw (eq-eqb (then p q) identity (sym is ∙ h ∙ sym identity-is)) at one_more) ∙ s.rest

    pub search_on : {r : ℕ} → r ≡ then p q → (r ≡ 2 → ⊥) → Searching p (q + 1)
    search_on {r} is h =
        record { place = omega arith; rest = sym (rw (ne_eqb (then p q) identity (λ e. h (is ∙ e ∙ identity-is))) at one_more) ∙ s.rest }

  pub search_end : elements_most ≤ q → 2 ≡ inverse p
  unfolding first_back
  search_end h =
      let e : elements_most - q ≡ 0 = omega arith in
      sym identity-is ∙ sym (ap (λ (m : ℕ). first_back p (up_to q m)) e) ∙ s.rest

-- ---- a sequence, number by number
pub record Playing (seq : List ℕ) (all i : ℕ) : Type 0 where
  pub below : all < elements_most
  pub good : all_elements (drop i seq) ≡ true
  pub rest : after all (drop i seq) ≡ all_of seq

pub play_begin : (seq : List ℕ) → all_elements seq ≡ true → Playing seq 2 0
unfolding all_of
play_begin seq h = record { below = omega arith; good = h; rest = ap (λ (e : ℕ). after e seq) (sym identity-is) }

module _ {seq : List ℕ} {all i : ℕ} (s : Playing seq all i) where
  module _ (more : i < length seq) where
    next : drop i seq ≡ get_or seq i 0 ∷ drop (i + 1) seq
    next = drop-cons seq i 0 more ∙ ap (λ (m : ℕ). get_or seq i 0 ∷ drop m seq) (sym (add-one i))

    split : (is_element (get_or seq i 0) ≡ true) × (all_elements (drop (i + 1) seq) ≡ true)
    unfolding all_elements
    split = both (is_element (get_or seq i 0)) (all_elements (drop (i + 1) seq)) (ap all_elements (sym next) ∙ s.good)

    pub play_number : get_or seq i 0 < elements_most
    play_number = ltb-true (get_or seq i 0) elements_most split.0

    pub play_on : {r : ℕ} → r ≡ then all (get_or seq i 0) → Playing seq r (i + 1)
    unfolding after
    play_on {r} is =
        record {
          below = omega (arith, is, then-below all (get_or seq i 0) s.below play_number);
          good = split.1;
          rest = ap (λ (e : ℕ). after e (drop (i + 1) seq)) is ∙ sym (ap (after all) next) ∙ s.rest;
        }

  pub play_end : i ≡ length seq → (all ≡ all_of seq) × (all < elements_most)
  unfolding after
  play_end h = (sym (ap (after all) (ap (λ (m : ℕ). drop m seq) h ∙ drop-length seq)) ∙ s.rest, s.below)
