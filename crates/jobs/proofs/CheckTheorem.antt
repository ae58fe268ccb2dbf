-- Demand 3 as one theorem over the check's whole reply, for every input. `fails` names the first start that does not end well, and its place;
-- `holds` counts all starts; `undecided` says B; a larger B changes no `holds`, no `fails` and no refusal. Assumes nothing.
use mathlib.Core.Path.{◌≡◌, refl, ap, ◌∙◌, subst}
use mathlib.Core.Bool.{Bool, true, false, false≢true}
use mathlib.Core.List.{List, [], ◌∷◌, Memᴰ}
use mathlib.Core.Option.{Option, none, some}
use Prim.Native.Nat.{ℕ, zero, suc, ◌<◌, ◌≤◌}
use native.Mathlib.Nat.{zero-add}
use native.Mathlib.Omega.{arith}
use lib.Dec.{eqb}
use lib.ListN.{length, take, get_elem?}
use borrow.Author.Tests.{eqb-true}
use Rattle.automata.specs.Choice.{map_o}
use Rattle.automata.specs.Tree.{Tree, tree_of}
use Rattle.automata.specs.Sets.{QSet, automaton_of, roots, tree}
use Rattle.automata.specs.Members.{Member, member, members}
use Rattle.automata.proofs.Lists.{Each}
use Rattle.automata.proofs.Words.{is_some, Word}
use Rattle.automata.proofs.MemberLaws.{IsMember, is_member_lem}
use Rattle.stored.specs.Refusal.{Refusal, Judged, good, refusal, no_source}
use Rattle.stored.specs.Rules.{set_bounds, end_bounds}
use Rattle.stored.specs.Judge.{judge_set}
use Rattle.stored.proofs.WellFormed.{WellFormed}
use Rattle.stored.proofs.Reading.{Bytes, well_formed, need-good, good-same}
use Rattle.gates.specs.Matrix.{carried}
use Rattle.gates.specs.Circuit.{judge_circuit}
use Rattle.gates.specs.Refuse.{after_gates}
use Rattle.gates.proofs.Fits.{circuit_fits}
use Rattle.gates.proofs.Circuits.{Carries, carries, went}
use Rattle.verdict.specs.Verdict.{is_state, ends_well, Verdict, holds, fails, undecided, examine, verdict}
use Rattle.verdict.specs.Search.{searched}
use Rattle.verdict.proofs.Demand3.{Told, told, Final, larger, Equal, is_state_lem, state_is}
use Rattle.verdict.proofs.Searching.{search_exact}
use Rattle.jobs.specs.Reply.{Reply, refused, made, says, reply_of}
use Rattle.jobs.specs.Check.{Ready, ready, judge_by, judge_check, answer, check_answer}

-- ---- a start and the end set
-- the start's tree, carried through the gate matrices, is equal to the tree of some root and word of the end set
pub record EndsWell (J : Ready) (r : ℕ) (w : List ℕ) : Type 0 where
  pub start : Tree J.start.n
  pub its : tree J.start r w ≡ some start
  pub equal : Equal J.end J.start.n (carried J.gates J.start.n start)

-- to the tree of none
pub record EndsElsewhere (J : Ready) (r : ℕ) (w : List ℕ) : Type 0 where
  pub start : Tree J.start.n
  pub its : tree J.start r w ≡ some start
  pub unequal : Equal J.end J.start.n (carried J.gates J.start.n start) → ⊥

abbrev pub Well : Ready → Member → Type 0
Well J (member r w) = EndsWell J r w

abbrev pub Elsewhere : Ready → Member → Type 0
Elsewhere J (member r w) = EndsElsewhere J r w

-- what stands at a place of a list is in the list
pub listed : (ms : List Member) (i : ℕ) (m : Member) → get_elem? ms i ≡ some m → Memᴰ m ms
listed [] zero m e = let z : ◌≡◌ {A = ℕ} 0 1 = cc in absurd (omega arith)
listed [] (suc i) m e = let z : ◌≡◌ {A = ℕ} 0 1 = cc in absurd (omega arith)
listed (x ∷ ms) zero m e = let h : m ≡ x = cc in Memᴰ.head h
listed (x ∷ ms) (suc i) m e = Memᴰ.tail (listed ms i m e)

module _ (J : Ready) where
  abbrev test : Member → Bool
  test = ends_well J.start J.gates J.end

  well_tells : (m : Member) → test m ≡ true → Well J m
  well_tells (member r w) h = go (tree J.start r w) refl h
    where
      go : (o : Option (Tree J.start.n)) → tree J.start r w ≡ o
          → elim o [ none ↦ false | some x ↦ is_state J.end J.start.n (carried J.gates J.start.n x) ] ≡ true → EndsWell J r w
      go none e k = absurd (false≢true k)
      go (some x) e k = record { start = x; its = e; equal = state_is J.end J.start.n (carried J.gates J.start.n x) k }

  elsewhere_tells : (m : Member) → Memᴰ m (members J.start) → test m ≡ false → Elsewhere J m
  elsewhere_tells (member r w) i h = go (tree J.start r w) refl (is_member_lem J.start r w i).has_tree h
    where
      go : (o : Option (Tree J.start.n)) → tree J.start r w ≡ o → is_some (tree J.start r w) ≡ true
          → elim o [ none ↦ false | some x ↦ is_state J.end J.start.n (carried J.gates J.start.n x) ] ≡ false → EndsElsewhere J r w
      go none e s k = let z : ◌≡◌ {A = ℕ} 0 1 = cc (ap is_some e, s) in absurd (omega arith)
      go (some x) e s k =
          record { start = x; its = e; unequal = λ q. let z : ◌≡◌ {A = ℕ} 0 1 = cc (is_state_lem J.end J.start.n (carried J.gates J.start.n x) q, k) in omega arith }

  all_well : (ms : List Member) → Each (λ m. test m ≡ true) ms → Each (Well J) ms
  all_well [] h = tt
  all_well (m ∷ ms) h = (well_tells m h.0, all_well ms h.1)

-- ---- what the reply says of the starts, in their fixed order
pub data Outcome (J : Ready) (b : ℕ) : Reply → Type 0 where
  all : length (members J.start) ≤ b → Each (Well J) (members J.start) → Outcome J b (says (holds (length (members J.start))))
  first : (i : ℕ) (m : Member) → i < b → get_elem? (members J.start) i ≡ some m → Elsewhere J m → Each (Well J) (take i (members J.start)) → Outcome J b (says (fails (suc i) m))
  some_left : b < length (members J.start) → Each (Well J) (take b (members J.start)) → Outcome J b (says (undecided b))

pub outcome : (J : Ready) (b : ℕ) → Outcome J b (answer b J)
unfolding verdict
outcome J b = go (examine (test J) 0 b (members J.start)) (told (test J) 0 b (members J.start))
  where
    go : (v : Verdict) → Told (test J) 0 b (members J.start) v → Outcome J b (says v)
    go (holds k) t =
        let e : k ≡ length (members J.start) = t.0 ∙ zero-add (length (members J.start)) in
        rw e (all t.1 (all_well J (members J.start) t.2))
    go (fails k m) t =
        let e : k ≡ suc t.0 = t.1 ∙ zero-add (suc t.0) in
        rw e (first t.0 m t.2 t.3 (elsewhere_tells J m (listed (members J.start) t.0 m t.3) t.4) (all_well J (take t.0 (members J.start)) t.5))
    go (undecided k) t =
        let e : k ≡ b = t.0 ∙ zero-add b in
        rw e (some_left t.1 (all_well J (take b (members J.start)) t.2))

-- demand 3: for an unrefused check with allowance B
pub demand3 : (s c e : List ℕ) (b : ℕ) (J : Ready) → judge_check s c e ≡ good J → Outcome J b (check_answer s c e b)
unfolding check_answer
demand3 s c e b J h = rw h (outcome J b)

-- a refusal does not depend on B
pub refused_always : (s c e : List ℕ) (b : ℕ) (r : Refusal) → judge_check s c e ≡ Judged.refused r → check_answer s c e b ≡ refused r
unfolding check_answer
refused_always s c e b r h = rw h

-- "A larger B never changes a `holds`, a `fails` or a refusal."
abbrev pub Settled : Reply → Type 0
Settled (refused r) = Unit {0}
Settled (made l) = Unit {0}
Settled (says (holds c)) = Unit {0}
Settled (says (fails c m)) = Unit {0}
Settled (says (undecided c)) = ⊥

pub larger_allowance : (s c e : List ℕ) (b b' : ℕ) → b ≤ b' → Settled (check_answer s c e b) → check_answer s c e b' ≡ check_answer s c e b
unfolding check_answer verdict
larger_allowance s c e b b' h f = go (judge_check s c e) f
  where
    final : (J : Ready) (v : Verdict) → Settled (says v) → Final (test J) v
    final J (holds k) u = tt
    final J (fails k m) u = tt
    final J (undecided k) u = u

    go : (j : Judged Ready) → Settled (reply_of (answer b) j) → reply_of (answer b') j ≡ reply_of (answer b) j
    go (Judged.refused r) u = refl
    go (Judged.good J) u = ap says (larger (test J) 0 b b' (members J.start) h (final J (verdict J.start J.gates J.end b) u))

-- ---- the image: what an unrefused check builds
-- the gates' result, one n, and all of it well-formed
pub record Image (J : Ready) (P : QSet) : Type 0 where
  pub start : WellFormed set_bounds J.start
  pub end : WellFormed end_bounds J.end
  pub qubits : J.end.n ≡ J.start.n
  pub carried : Carries set_bounds J.gates J.start P

pub image : (s c e : List ℕ) (J : Ready) → Bytes s → Bytes e → judge_check s c e ≡ good J → (P : QSet) × Image J P
unfolding judge_check judge_by
image s c e J bs be h =
    let x = went (judge_set set_bounds 1 s) _ J h in
    let y = went (judge_circuit x.0.n c) _ J x.2 in
    let z = went (judge_set end_bounds 3 e) _ J y.2 in
    let t = need-good (eqb z.0.n x.0.n) (refusal 13 no_source 0) _ J z.2 in
    let u = went (after_gates set_bounds 1 y.0 x.0) _ J t.1 in
    let form : WellFormed set_bounds x.0 = well_formed set_bounds 1 s x.0 bs x.1 in (
      u.0,
      subst (λ (K : Ready). Image K u.0) (good-same (ready x.0 y.0 z.0) J u.2)
          (record {
            start = form;
            end = well_formed end_bounds 3 e z.0 be z.1;
            qubits = eqb-true z.0.n x.0.n t.0;
            carried = carries set_bounds 1 y.0 x.0 u.0 form (circuit_fits x.0.n c y.0 y.1) u.1;
          }),
    )

-- the search on the image says of each start whether it ends well
pub search_image : (J : Ready) (P : QSet) → Image J P → (r : ℕ) (w : List ℕ) → IsMember J.start r w
    → searched (automaton_of P) (automaton_of J.end) (roots J.end) J.start.n w r ≡ ends_well J.start J.gates J.end (member r w)
search_image J P i r w m = go (tree J.start r w) refl m.has_tree
  where
    Claim : ℕ → Type 0
    Claim n = (x : Tree n) → Word n w → tree_of (automaton_of P) 1 n w r ≡ some x → searched (automaton_of P) (automaton_of J.end) (roots J.end) n w r ≡ is_state J.end n x

    claim : Claim J.start.n
    claim = subst Claim i.qubits (λ x v e. search_exact P J.end r w v x e)

    go : (o : Option (Tree J.start.n)) → tree J.start r w ≡ o → is_some (tree J.start r w) ≡ true
        → searched (automaton_of P) (automaton_of J.end) (roots J.end) J.start.n w r
        ≡ elim o [ none ↦ false | some x ↦ is_state J.end J.start.n (carried J.gates J.start.n x) ]
    go none e s = let z : ◌≡◌ {A = ℕ} 0 1 = cc (ap is_some e, s) in absurd (omega arith)
    go (some x) e s =
        claim (carried J.gates J.start.n x) m.word
        (i.carried.trees r w m.root ∙ ap (map_o (carried J.gates J.start.n)) e)
