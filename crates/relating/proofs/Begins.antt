-- Relations of one pair each, end root after end root: what is found from them is found for one of the pairs. Assumes nothing.
use mathlib.Core.Path.{◌≡◌, refl, ◌∙◌}
use mathlib.Core.Bool.{true, false≢true}
use mathlib.Core.List.{List, [], ◌∷◌}
use mathlib.Core.Logic.{inl, ⊎_elim}
use Prim.Native.Nat.{ℕ, ◌+◌, ◌<◌, ◌≤◌}
use native.Mathlib.Omega.{arith}
use lib.ListN.{length, take}
use Rattle.automata.specs.Members.{up_to}
use Rattle.automata.specs.Tree.{Automaton}
use Rattle.automata.proofs.Lists.{up_to_mem}
use Rattle.verdict.specs.Search.{searched, found as pair_found}
use Rattle.verdict.proofs.Searching.{one-is}
use Rattle.meeting.specs.declared.Level.{Level}
use Rattle.relating.specs.Found.{found}
use Rattle.relating.specs.Roots.{Whole, Begun}

pub not-begun : {plane wide p root e : ℕ} {l : Level} {stack : List ℕ} → Begun wide plane stack p root e l stack p
not-begun = record { least = omega arith; most = omega arith; is = λ S E word n w h. inl h }

-- ---- root after root
-- at most `room` relations, and what is found from them is found for one of the end's roots
pub record Beginning (plane room wide : ℕ) (entry : List ℕ) (root : ℕ) (l : Level) (stack : List ℕ) (p : ℕ) : Type 0 where
  pub few : p ≤ room
  pub long : length stack ≡ length entry
  pub sound : (S E : Automaton ℕ) (word : List ℕ) (n : ℕ) → Whole word n → found S E word 0 n wide plane stack p l ≡ true → searched S E l.stop n (take (n + 1) word) root ≡ true

pub starts : {plane room wide : ℕ} (entry : List ℕ) {root : ℕ} {l : Level} → Beginning plane room wide entry root l entry 0
starts entry = record { few = omega arith; long = refl; sound = λ S E word n w h. absurd (false≢true h) }

module _ {plane room wide : ℕ} {entry : List ℕ} {root e : ℕ} {l : Level} {stack : List ℕ} {p : ℕ} {stack' : List ℕ} {r : ℕ} (w : Beginning plane room wide entry root l stack p) where
  pub goes_on : p < room → e < l.stop → length stack' ≡ length stack → Begun wide plane stack p root e l stack' r → Beginning plane room wide entry root l stack' r
  goes_on less lt same b = record {
    few = omega (arith, b.most);
    long = same ∙ w.long;
    sound = λ S E word n whole h. ⊎_elim (w.sound S E word n whole) (λ k. one-is (λ f. pair_found S E 1 n (take (n + 1) word) ((root, f) ∷ [])) (up_to 0 l.stop) e (up_to_mem l.stop 0 e (omega arith) (omega arith)) k) (b.is S E word n whole h);
  }
