-- A circuit of the one-gate job that is not refused has one gate, and that is the one which is read. Assumes nothing.
use mathlib.Core.Path.{◌≡◌, refl, sym, ap, ◌∙◌, subst}
use mathlib.Core.Bool.{true, false, false≢true}
use mathlib.Core.List.{List, [], ◌∷◌}
use mathlib.Core.Option.{Option, none, some}
use Prim.Native.Nat.{ℕ, suc, ◌/◌}
use native.Mathlib.Omega.{arith}
use lib.Dec.{eqb}
use lib.ListN.{length}
use borrow.Author.Tests.{eqb-true}
use Rattle.std.specs.Prelude as code
use Rattle.std.specs.declared.option.Option.TheVariants.{Some, None}
use Rattle.std.specs.declared.result.Result.TheVariants.{Ok, Err}
use Rattle.std.specs.Option.{ok_or}
use Rattle.automata.specs.Sets.{QSet}
use Rattle.stored.specs.Refusal.{Judged, refused, good, refusal, on_good, circuit_source}
use Rattle.stored.specs.Fields.{records_from}
use Rattle.stored.specs.Rules.{Bounds, passes, first_bad}
use Rattle.stored.proofs.Reading.{need-good, good-same}
use Rattle.gates.specs.Gate as def
use Rattle.gates.specs.Circuit.{gt_size, gate_at, is_gate, somes, records_of, judge_gates, judge_one}
use Rattle.gates.specs.Refuse.{judge_gate, after_gates}
use Rattle.gates.proofs.Fits.{Fits, one-fits}
use Rattle.stepwise.proofs.StoredLaws.{Light}
use Rattle.refusals.specs.declared.Refusal.{Refusal}
use Rattle.refusals.specs.Refused.{told, judged, seen}
use Rattle.refusals.proofs.Told.{turned_down, good_seen}
use Rattle.circuits.specs.Answer.{gate_from, gate_is, gate_told}
use Rattle.circuits.proofs.Answers.{gate-back, gate_forth}
use Rattle.circuits.specs.declared.Gate.{Gate}
use Rattle.applying.proofs.ReadGates.{read_light}
use Rattle.gating.specs.Gated.{one_judged, gated_by}

-- ---- the one gate
pub record OneRead (n : ℕ) (c : List ℕ) : Type 0 where
  pub gate : def.Gate
  pub long : length c ≡ gt_size
  pub read : gate_at n c 0 ≡ some gate
  pub is : judge_one n c ≡ good (gate ∷ [])

module _ (n : ℕ) (c : List ℕ) where
  lone : length c ≡ gt_size → (o : Option def.Gate) → gate_at n c 0 ≡ o → records_of n c ≡ o ∷ []
  unfolding records_of records_from
  lone long o e = ap (λ (m : ℕ). records_from (gate_at n c) 0 gt_size (m / gt_size)) long ∙ ap (λ (x : Option def.Gate). x ∷ []) e

  one_of : (gs : List def.Gate) → judge_one n c ≡ good gs → length c ≡ gt_size → passes is_gate (records_of n c) ≡ true → good (somes (records_of n c)) ≡ good gs
      → (o : Option def.Gate) → gate_at n c 0 ≡ o → OneRead n c
  one_of gs e long p q none i = let z : false ≡ true = subst (λ (rs : List (Option def.Gate)). passes is_gate rs ≡ true) (lone long none i) p in absurd (false≢true z)
  one_of gs e long p q (some g) i = record {
    gate = g;
    long = long;
    read = i;
    is = e ∙ sym q ∙ ap (λ (rs : List (Option def.Gate)). good (somes rs)) (lone long (some g) i);
  }

  one_read : (gs : List def.Gate) → judge_one n c ≡ good gs → OneRead n c
  unfolding judge_one judge_gates
  one_read gs e =
      let l = need-good (eqb (length c) gt_size) (refusal 11 circuit_source 0) (judge_gates n c) gs e in
      let p = need-good (passes is_gate (records_of n c)) (refusal 12 circuit_source (suc (first_bad is_gate (records_of n c)))) (good (somes (records_of n c))) gs l.1 in
      one_of gs e (eqb-true (length c) gt_size l.0) p.0 p.1 (gate_at n c 0) refl

-- a circuit that was read has one gate
pub good-one : (n : ℕ) (c : List ℕ) (m : ℕ) → judged (Ok m) ≡ seen length (judge_one n c) → OneRead n c
good-one n c m e = let k = good_seen length (judge_one n c) m e in one_read n c k.thing k.good

pub bad-one : (n : ℕ) (c : List ℕ) (r : Refusal) → judged {A = ℕ} (Err r) ≡ seen length (judge_one n c) → one_judged (judge_one n c) ≡ refused (told r)
bad-one n c r e = rw (turned_down length (judge_one n c) r e)

-- what is read of it
pub told-one : {n : ℕ} {c : List ℕ} (o : OneRead n c) (x : code.Option Gate) (r : Refusal) → gate_told x ≡ gate_at n c 0 → judged (ok_or x r) ≡ one_judged (judge_one n c)
told-one o None r e = let k = e ∙ o.read in cc
told-one o (Some g) r e =
    let k : some (gate_is g) ≡ some o.gate = e ∙ o.read in
    let same : gate_is g ≡ o.gate = cc in
    rw o.is (ap good (sym (gate_forth g) ∙ ap gate_from same))

-- ---- what the gate is, and that it is all that the circuit does
pub record GateRead (n : ℕ) (c : List ℕ) (g : Gate) : Type 0 where
  pub one : OneRead n c
  pub is : gate_is g ≡ one.gate

pub gate_read : (n : ℕ) (c : List ℕ) (g : Gate) → judged (Ok g) ≡ one_judged (judge_one n c) → GateRead n c g
gate_read n c g e = go (judge_one n c) refl e
  where
    go : (j : Judged (List def.Gate)) → judge_one n c ≡ j → judged (Ok g) ≡ one_judged j → GateRead n c g
    go (refused q) i h = let z : ◌≡◌ {A = ℕ} 0 1 = cc in absurd (omega arith)
    go (good gs) i h =
        let o = one_read n c gs i in
        let k : good g ≡ good (gate_from o.gate) = h ∙ ap one_judged (sym i ∙ o.is) in
        record { one = o; is = ap gate_is (good-same g (gate_from o.gate) k) ∙ gate-back o.gate }

pub no_gate : (n : ℕ) (c : List ℕ) (r : Refusal) → judged {A = Gate} (Err r) ≡ one_judged (judge_one n c) → judge_one n c ≡ refused (told r)
no_gate n c r e = go (judge_one n c) refl e
  where
    go : (j : Judged (List def.Gate)) → judge_one n c ≡ j → judged {A = Gate} (Err r) ≡ one_judged j → j ≡ refused (told r)
    go (refused q) i h = cc
    go (good gs) i h =
        let o = one_read n c gs i in
        let k : refused (told r) ≡ good (gate_from o.gate) = h ∙ ap one_judged (sym i ∙ o.is) in
        let z : ◌≡◌ {A = ℕ} 0 1 = cc in
        absurd (omega arith)

module _ {n : ℕ} {c : List ℕ} (o : OneRead n c) where
  pub one-light : Light o.gate
  one-light = read_light n c 0 o.gate o.read

  pub one-fit : Fits n o.gate
  one-fit = (one-fits n c (o.gate ∷ []) o.is).0

after_one : (b : Bounds) (g : def.Gate) (Q : QSet) → after_gates b 1 (g ∷ []) Q ≡ judge_gate b 1 g Q
unfolding after_gates
after_one b g Q = go (judge_gate b 1 g Q)
  where
    go : (j : Judged QSet) → on_good j (after_gates b 2 []) ≡ j
    go (refused r) = refl
    go (good N) = refl

pub gated : (b : Bounds) (Q : QSet) (c : List ℕ) (o : OneRead Q.n c) → gated_by b Q c ≡ judge_gate b 1 o.gate Q
unfolding gated_by
gated b Q c o = ap (λ (j : Judged (List def.Gate)). on_good j (λ gs. after_gates b 1 gs Q)) o.is ∙ after_one b o.gate Q

pub not_gated : (b : Bounds) (Q : QSet) (c : List ℕ) (r : Refusal) → judge_one Q.n c ≡ refused (told r) → gated_by b Q c ≡ refused (told r)
unfolding gated_by
not_gated b Q c r e = rw e
