-- The check's verdict can be had from the set that the gates build: it has the same members in the same order, and a member's tree there is a
-- state of the end set exactly if the start, carried through the gate matrices, is one. Assumes nothing.
use mathlib.Core.Path.{◌≡◌, refl, sym, ap, ap₂, ◌∙◌, subst}
use mathlib.Core.Bool.{Bool, true, false}
use mathlib.Core.List.{List, [], ◌∷◌, Memᴰ}
use mathlib.Core.Option.{Option, none, some}
use Prim.Native.Nat.{ℕ, zero, suc, ◌<◌}
use Rattle.automata.specs.Choice.{map_o}
use Rattle.automata.specs.Tree.{Tree, tree_of}
use Rattle.automata.specs.Sets.{QSet, automaton_of, tree, roots}
use Rattle.automata.specs.Members.{Member, member, runs}
use Rattle.automata.proofs.MemberLaws.{is_member_lem}
use Rattle.stored.specs.Refusal.{good}
use Rattle.stored.specs.Rules.{Bounds}
use Rattle.stored.proofs.WellFormed.{WellFormed}
use Rattle.gates.specs.Gate.{Gate}
use Rattle.gates.specs.Matrix.{carried}
use Rattle.gates.specs.Refuse.{after_gates}
use Rattle.gates.proofs.Fits.{AllFit}
use Rattle.gates.proofs.Circuits.{Carries, carries}
use Rattle.verdict.specs.Verdict.{is_state, ends_well, Verdict, fails, examine, verdict}
use Rattle.imagewise.specs.Image.{ends_in, image_verdict}

-- two tests that agree on each member of a list give one verdict of it
pub examine-same : (f g : Member → Bool) (p b : ℕ) (ms : List Member) → ((m : Member) → Memᴰ m ms → f m ≡ g m) → examine f p b ms ≡ examine g p b ms
examine-same f g p b [] h = refl
examine-same f g p zero (m ∷ ms) h = refl
examine-same f g p (suc b) (m ∷ ms) h =
    ap₂ (λ (t : Bool) (v : Verdict). elim t [ true ↦ v | false ↦ fails (suc p) m ]) (h m (Memᴰ.head refl))
    (examine-same f g (suc p) b ms (λ x i. h x (Memᴰ.tail i)))

module _ (b : Bounds) (gs : List Gate) (Q P E : QSet) (c : Carries b gs Q P) where
  -- a root and a word: their tree in the image is a state of the end set exactly if their tree in the start set ends well
  pub ends_same : (r : ℕ) (w : List ℕ) → r < roots Q → ends_well Q gs E (member r w) ≡ ends_in P E (member r w)
  ends_same r w h = subst Claim (sym c.qubits) (go (tree Q r w) ∙ ap passes (sym (c.trees r w h)))
    where
      Claim : ℕ → Type 0
      Claim n = ends_well Q gs E (member r w) ≡ elim (tree_of (automaton_of P) 1 n w r) [ none ↦ false | some x ↦ is_state E n x ]

      passes : Option (Tree Q.n) → Bool
      passes o = elim o [ none ↦ false | some x ↦ is_state E Q.n x ]

      go : (o : Option (Tree Q.n)) → elim o [ none ↦ false | some x ↦ is_state E Q.n (carried gs Q.n x) ] ≡ passes (map_o (carried gs Q.n) o)
      go none = refl
      go (some x) = refl

  member-same : (m : Member) → Memᴰ m (runs Q) → ends_well Q gs E m ≡ ends_in P E m
  member-same (member r w) i = ends_same r w (is_member_lem Q r w i).root

  -- where P is what the gates make of Q, the verdict is that of P
  pub by-carried : (most : ℕ) → verdict Q gs E most ≡ image_verdict P E most
  unfolding verdict
  by-carried most = examine-same (ends_well Q gs E) (ends_in P E) 0 most (runs Q) member-same ∙ ap (examine (ends_in P E) 0 most) (sym c.members)

-- the verdict of a check is that of the set which its gates build, by demand 2 for circuits
pub by-image : (b : Bounds) (place : ℕ) (gs : List Gate) (Q P E : QSet) → WellFormed b Q → AllFit Q.n gs → after_gates b place gs Q ≡ good P
    → (most : ℕ) → verdict Q gs E most ≡ image_verdict P E most
by-image b place gs Q P E w f e = by-carried b gs Q P E (carries b place gs Q P w f e)
