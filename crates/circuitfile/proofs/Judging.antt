-- Where no record is wrong, each is a gate, so there are as many gates as records, and the file's length says how many; else the first wrong one
-- gives 12 with its place. Assumes nothing.
use Rattle.std.specs.Prelude as code
use Rattle.std.specs.declared.option.Option.TheVariants.{Some, None}
use mathlib.Core.Bool.{true, false}
use mathlib.Core.Path.{◌≡◌, refl, sym, ap, ◌∙◌}
use mathlib.Core.List.{List, [], ◌∷◌, map}
use mathlib.Core.Option.{Option, none, some}
use Prim.Native.Nat.{ℕ, ◌+◌, ◌/◌, ◌≤◌}
use native.Mathlib.Numerals.{add-one}
use native.Mathlib.Omega.{arith}
use lib.ListN.{length, length-map}
use borrow.Author.Tests.{eq-eqb, ne_eqb}
use Rattle.stored.specs.Refusal.{refusal, refused, good, circuit_source}
use Rattle.stored.specs.Rules.{first_bad}
use Rattle.stored.proofs.Places.{bad-most}
use Rattle.stored.proofs.Reading.{records-count}
use Rattle.gates.specs.Gate as def
use Rattle.gates.specs.Circuit.{gt_size, gate_at, is_gate, somes, records_of, judge_gates}
use Rattle.refusals.specs.declared.Reason.{Reason}
use Rattle.refusals.specs.Refused.{seen}
use Rattle.scans.specs.Scan.{NoneBad, BadAt}
use Rattle.scans.proofs.ScanLaws.{none_is, first_is}
use Rattle.circuitfile.specs.Faults.{gate_fault}

-- the gates of records none of which is wrong, as records
pub all-gates : (rs : List (Option def.Gate)) → first_bad is_gate rs ≡ length rs → map some (somes rs) ≡ rs
all-gates [] e = refl
all-gates (none ∷ rs) e = absurd (omega arith)
all-gates (some g ∷ rs) e = ap (λ (os : List (Option def.Gate)). some g ∷ os) (all-gates rs (omega arith))

module _ (n : ℕ) (s : List ℕ) where
  pub count_of : length (records_of n s) ≡ length s / gt_size
  unfolding records_of
  count_of = records-count (gate_at n s) 0 gt_size (length s / gt_size)

  pub wrong_within : first_bad is_gate (records_of n s) ≤ length s / gt_size
  wrong_within = let e = count_of in let w = bad-most is_gate (records_of n s) in omega arith

  -- a scan that looks at each record for a gate
  module _ (says : ℕ → code.Option Reason → Type 0) (looks : (i : ℕ) (r : code.Option Reason) → says i r → r ≡ gate_fault (gate_at n s i)) where
    passed : (o : Option def.Gate) → None ≡ gate_fault o → is_gate o ≡ true
    passed (some g) e = refl
    passed none e = let z : ◌≡◌ {A = ℕ} 0 1 = cc in absurd (omega arith)

    failed : (o : Option def.Gate) (f : Reason) → Some f ≡ gate_fault o → is_gate o ≡ false
    failed (some g) f e = let z : ◌≡◌ {A = ℕ} 0 1 = cc in absurd (omega arith)
    failed none f e = refl

    kept : (i : ℕ) → says i None → is_gate (gate_at n s i) ≡ true
    kept i e = passed (gate_at n s i) (looks i None e)

    -- it stops at the first that is none, or at their count
    pub none_wrong : NoneBad says (record { at = 0; size = gt_size; count = length s / gt_size }) → length s / gt_size ≡ first_bad is_gate (records_of n s)
    unfolding records_of
    none_wrong h = sym (none_is is_gate (gate_at n s) _ says kept h)

    pub wrong_here : {i : ℕ} {f : Reason} → BadAt says (record { at = 0; size = gt_size; count = length s / gt_size }) i f → i ≡ first_bad is_gate (records_of n s)
    unfolding records_of
    wrong_here {i} {f} h = sym (first_is is_gate (gate_at n s) _ says kept h (λ k e. failed (gate_at n s k) f (looks k (Some f) e)))

  module _ (wrong : ℕ) (is : wrong ≡ first_bad is_gate (records_of n s)) where
    -- as many gates as records
    pub gates_counted : wrong ≡ length s / gt_size → good (length s / gt_size) ≡ seen length (judge_gates n s)
    unfolding judge_gates
    gates_counted e =
        let rs : List (Option def.Gate) = records_of n s in
        let all : first_bad is_gate rs ≡ length rs = sym is ∙ e ∙ sym count_of in
        let many : length (somes rs) ≡ length s / gt_size = sym (length-map (somes rs) some) ∙ ap length (all-gates rs all) ∙ count_of in
        rw (eq-eqb (first_bad is_gate rs) (length rs) all) (ap good (sym many))

    -- 12 with the place of the first that is none
    pub wrong_gate : (wrong ≡ length s / gt_size → ⊥) → refused (refusal 12 circuit_source (wrong + 1)) ≡ seen length (judge_gates n s)
    unfolding judge_gates
    wrong_gate ne =
        let rs : List (Option def.Gate) = records_of n s in
        let some-wrong : (first_bad is_gate rs ≡ length rs → ⊥) = λ e. ne (is ∙ e ∙ count_of) in
        rw (ne_eqb (first_bad is_gate rs) (length rs) some-wrong, ← is, add-one)
