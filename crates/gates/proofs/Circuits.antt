-- Demand 2 for a circuit of which no gate is refused: the matrices one after the other, the same members, and a well-formed set. Assumes nothing.
use mathlib.Core.Path.{◌≡◌, refl, sym, ap, ◌∙◌, subst}
use mathlib.Core.List.{List, [], ◌∷◌}
use Prim.Native.Nat.{ℕ, suc, ◌<◌}
use native.Mathlib.Omega.{arith}
use Rattle.automata.specs.Choice.{map_o}
use Rattle.automata.specs.Tree.{tree_of}
use Rattle.automata.specs.Sets.{QSet, automaton_of, tree, roots}
use Rattle.automata.specs.Members.{runs}
use Rattle.stored.specs.Refusal.{Judged, refused, good, on_good}
use Rattle.stored.specs.Rules.{Bounds}
use Rattle.stored.proofs.WellFormed.{WellFormed}
use Rattle.stored.proofs.Reading.{good-same}
use Rattle.gates.specs.Gate.{Gate}
use Rattle.gates.specs.Matrix.{gate_matrix, carried}
use Rattle.gates.specs.Build.{built}
use Rattle.gates.specs.Refuse.{judge_gate, after_gates}
use Rattle.gates.proofs.Options.{map_same, map-map}
use Rattle.gates.proofs.Fits.{AllFit}
use Rattle.gates.proofs.Demand2.{demand2, members_kept, roots_kept, n_kept}
use Rattle.gates.proofs.WellBuilt.{valid, judged-gate, gate-formed}

-- P is what the gates make of Q
pub record Carries (b : Bounds) (gs : List Gate) (Q P : QSet) : Type 0 where
  pub formed : WellFormed b P
  pub qubits : P.n ≡ Q.n
  pub rooted : roots P ≡ roots Q
  pub members : runs P ≡ runs Q
  pub trees : (r : ℕ) (w : List ℕ) → r < roots Q → tree_of (automaton_of P) 1 Q.n w r ≡ map_o (carried gs Q.n) (tree Q r w)

-- what went before was good, and what followed it
pub went : {X Y : Type 0} (j : Judged X) (f : X → Judged Y) (y : Y) → on_good j f ≡ good y → (x : X) × (j ≡ good x) × (f x ≡ good y)
went (refused r) f y e = let z : ◌≡◌ {A = ℕ} 0 1 = cc in absurd (omega arith)
went (good x) f y e = (x, refl, e)

pub carries : (b : Bounds) (place : ℕ) (gs : List Gate) (Q P : QSet) → WellFormed b Q → AllFit Q.n gs → after_gates b place gs Q ≡ good P → Carries b gs Q P
unfolding after_gates built
carries b place [] Q P w f e =
    subst (Carries b [] Q) (good-same Q P e)
    (record { formed = w; qubits = refl; rooted = refl; members = refl; trees = λ r v h. sym (map_same (λ x. x) (λ x. refl) (tree Q r v)) })
carries b place (g ∷ gs) Q P w f e =
    let o = went (judge_gate b place g Q) (after_gates b (suc place) gs) P e in
    let j : built g Q ≡ o.0 = (judged-gate b place g Q o.0 o.1).3 in
    let made : judge_gate b place g Q ≡ good (built g Q) = o.1 ∙ ap good (sym j) in
    let rest : after_gates b (suc place) gs (built g Q) ≡ good P = ap (after_gates b (suc place) gs) j ∙ o.2 in
    step (carries b (suc place) gs (built g Q) P (gate-formed b place g Q (built g Q) w f.0 made) (subst (λ (n : ℕ). AllFit n gs) (sym (n_kept g Q)) f.1) rest)
  where
    step : Carries b gs (built g Q) P → Carries b (g ∷ gs) Q P
    step c =
        record {
          formed = c.formed;
          qubits = c.qubits;
          rooted = c.rooted ∙ roots_kept g Q;
          members = c.members ∙ members_kept g Q (valid b Q w) f.0;
          trees = λ r v h.
              c.trees r v (subst (λ (m : ℕ). r < m) (sym (roots_kept g Q)) h)
              ∙ ap (map_o (carried gs Q.n)) (demand2 g Q v r (valid b Q w) f.0 h) ∙ map-map (gate_matrix g Q.n) (carried gs Q.n) (tree Q r v);
        }
