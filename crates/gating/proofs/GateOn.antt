-- A start set that was taken and its circuit's one gate: what is asked of the gate, and what the job's judgement comes to. Assumes nothing.
use mathlib.Core.Path.{◌≡◌, refl, sym, ap, ◌∙◌, subst}
use mathlib.Core.List.{List}
use Prim.Native.Nat.{ℕ}
use lib.IntN.{ℤ}
use native.Mathlib.Omega.{arith}
use Rattle.std.specs.Prelude.{Result, MatchResult}
use Rattle.std.specs.declared.result.Result.TheVariants.{Ok, Err}
use Rattle.automata.specs.Sets.{QSet}
use Rattle.stored.specs.Refusal.{Judged, refused, good, on_good, start_source}
use Rattle.stored.specs.Rules.{Bounds}
use Rattle.stored.specs.Judge.{judge_set}
use Rattle.gates.specs.Gate as def
use Rattle.gates.specs.Circuit.{judge_one}
use Rattle.gates.specs.Refuse.{judge_gate}
use Rattle.gates.proofs.Fits.{Fits}
use Rattle.stepwise.proofs.StoredLaws.{Light}
use Rattle.refusals.specs.declared.Refusal.{Refusal}
use Rattle.refusals.specs.declared.Fault.{Fault}
use Rattle.refusals.specs.declared.Source.{Source}
use Rattle.refusals.specs.Refused.{source_of, told, judged, judged_at, seen}
use Rattle.refusals.proofs.Told.{turned_down, good_seen, SeenOf}
use Rattle.circuits.specs.Answer.{gate_is}
use Rattle.circuits.specs.declared.Gate.{Gate}
use Rattle.setfile.specs.declared.Form.{Form}
use Rattle.tables.specs.Table.{table_set}
use Rattle.tables.specs.declared.TableMut.{TableMut}
use Rattle.tables.specs.Slices.{Table, SameLengths, SameLent}
use Rattle.names.specs.declared.Names.{Names}
use Rattle.growing.specs.Growing.{SameNames}
use Rattle.standing.specs.Standing.{form_of, set_in, Stands, Holding}
use Rattle.gating.specs.Gated.{one_judged, gated_by, new_set_by}
use Rattle.gating.proofs.OneRead.{gate_read, no_gate, one-light, one-fit, gated, not_gated}
use Rattle.gating.proofs.Storing.{set_is, made-stands}

-- a file's answer, as a refusal of its source
pub staged : (r : Result Form Fault) (q : Result Form Refusal) {p : Result Form Refusal} {j : Judged Form} (source : Source) → q ≡ p
    → MatchResult r (λ x. q ≡ Ok x) (λ f. q ≡ Err (record { reason = f.reason; source = source; place = f.place }))
    → judged_at (source_of source) r ≡ j → judged p ≡ j
staged (Ok x) q source was m e = ap judged (sym was) ∙ rw m e
staged (Err f) q source was m e = ap judged (sym was) ∙ rw m e

-- a refusal handed on: it is the job's, and the job makes no set
pub away : {j : Judged QSet} {r : Refusal} {result : Result Form Refusal} → result ≡ Err r → j ≡ refused (told r)
    → (judged result ≡ seen form_of j) × ((N : QSet) → j ≡ good N → ⊥)
away {j} {r} e h = (rw (e, h), λ N g. let z : ◌≡◌ {A = ℕ} 0 1 = cc in omega arith)

-- a table, and names, that are not written
pub as_long : {T : Table} → SameLengths T T
as_long = record { rows = refl; masks = refl; coefs = refl; counts = refl; first = refl }

pub as_lent : {t : TableMut} → SameLent t t
as_lent = record { rows = refl; masks = refl; coefs = refl; counts = refl; first = refl }

pub as_named : {n : Names} → SameNames n n
as_named = record { keys_same = refl; link_same = refl; heads_same = refl; keys_long = refl; link_long = refl; heads_long = refl }

module _ (n : ℕ) (c : List ℕ) (g : Gate) (e : judged (Ok g) ≡ one_judged (judge_one n c)) where
  pub may_apply : Light (gate_is g) × Fits n (gate_is g)
  may_apply = let o = gate_read n c g e in (subst Light (sym o.is) (one-light o.one), subst (Fits n) (sym o.is) (one-fit o.one))

-- a start set that is refused
pub not_started : (b : Bounds) (s c : List ℕ) (r : Refusal) → judged {A = Form} (Err r) ≡ seen form_of (judge_set b start_source s) → new_set_by b s c ≡ refused (told r)
unfolding new_set_by
not_started b s c r e = rw (turned_down form_of (judge_set b start_source s) r e)

-- one that was taken
module _ (b : Bounds) (s : List ℕ) {form : Form} {rows masks : List ℕ} {coefs : List ℤ} {counts first : List ℕ}
    (x : judged (Ok form) ≡ seen form_of (judge_set b start_source s))
    (h : (Q : QSet) → judge_set b start_source s ≡ good Q → Holding rows masks coefs counts first Q b) where
  start : SeenOf form_of (judge_set b start_source s) form
  start = good_seen form_of (judge_set b start_source s) form x

  pub started_stands : Stands rows masks coefs counts first form b
  started_stands = made-stands (h start.thing start.good) start.value

  started : (c : List ℕ) → new_set_by b s c ≡ gated_by b (set_in form rows masks coefs counts) c
  unfolding new_set_by
  started c = rw (start.good, set_is (h start.thing start.good) start.value)

  module _ (c : List ℕ) where
    pub not_one : (r : Refusal) → judged {A = Gate} (Err r) ≡ one_judged (judge_one form.n c) → new_set_by b s c ≡ refused (told r)
    unfolding table_set
    not_one r e = started c ∙ not_gated b (set_in form rows masks coefs counts) c r (no_gate form.n c r e)

    pub one_gate : (g : Gate) → judged (Ok g) ≡ one_judged (judge_one form.n c)
        → judge_gate b 1 (gate_is g) (set_in form rows masks coefs counts) ≡ new_set_by b s c
    unfolding table_set
    one_gate g e =
        let o = gate_read form.n c g e in
        ap (λ (d : def.Gate). judge_gate b 1 d (set_in form rows masks coefs counts)) o.is ∙ sym (gated b (set_in form rows masks coefs counts) c o.one) ∙ sym (started c)
