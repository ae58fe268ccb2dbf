-- What a scan says of the list of records that it passed over: where it stops is where the list has its first bad record. Assumes nothing.
use mathlib.Core.Path.{◌≡◌, sym, ap, ◌∙◌}
use mathlib.Core.Bool.{Bool, true, false, cond}
use Prim.Native.Nat.{ℕ, zero, suc, ◌+◌, ◌*◌, ◌≤◌, ◌<◌}
use native.Mathlib.Nat.{suc-mul}
use native.Mathlib.Omega.{arith}
use lib.ListN.{length}
use borrow.Author.Tests.{eq-eqb, ne_eqb}
use Rattle.std.specs.Prelude.{Option}
use Rattle.std.specs.declared.option.Option.TheVariants.{Some, None}
use Rattle.stored.specs.Fields.{records_from}
use Rattle.stored.specs.Rules.{first_bad, passes}
use Rattle.stored.proofs.Reading.{records-count}
use Rattle.refusals.specs.declared.Reason.{Reason}
use Rattle.scans.specs.declared.Records.{Records}
use Rattle.scans.specs.Scan.{NoneBad, BadAt}

module _ {X : Type 0} (test : X → Bool) (read : ℕ → X) (size : ℕ) where
  -- the first k of `count` records pass, and the next one, if there is one, does not
  stops : (at count k : ℕ) → k ≤ count → ((j : ℕ) → j < k → test (read (at + j * size)) ≡ true) → (k < count → test (read (at + k * size)) ≡ false)
      → first_bad test (records_from read at size count) ≡ k
  unfolding records_from
  stops at zero k few pass fail = omega arith
  stops at (suc count) zero few pass fail =
      let e : test (read at) ≡ false = ap (λ (i : ℕ). test (read i)) (omega arith) ∙ fail (omega arith) in
      ap (λ (b : Bool). cond b (suc (first_bad test (records_from read (at + size) size count))) 0) e
  stops at (suc count) (suc k) few pass fail =
      let e : test (read at) ≡ true = ap (λ (i : ℕ). test (read i)) (omega arith) ∙ pass 0 (omega arith) in
      let on = stops (at + size) count k (omega arith)
      (λ j l. ap (λ (i : ℕ). test (read i)) (omega (arith, suc-mul j size)) ∙ pass (suc j) (omega arith))
      (λ l. ap (λ (i : ℕ). test (read i)) (omega (arith, suc-mul k size)) ∙ fail (omega arith)) in
      ap (λ (b : Bool). cond b (suc (first_bad test (records_from read (at + size) size count))) 0) e ∙ ap suc on

module _ {X : Type 0} (test : X → Bool) (read : ℕ → X) (r : Records) (says : ℕ → Option Reason → Type 0) (kept : (i : ℕ) → says i None → test (read i) ≡ true) where
  -- where the first bad one stands
  pub none_is : NoneBad says r → first_bad test (records_from read r.at r.size r.count) ≡ r.count
  none_is f = stops test read r.size r.at r.count r.count (omega arith) (λ j l. kept _ (f.all j l)) (λ l. absurd (omega arith))

  pub first_is : {i : ℕ} {fault : Reason} → BadAt says r i fault → ((i : ℕ) → says i (Some fault) → test (read i) ≡ false)
      → first_bad test (records_from read r.at r.size r.count) ≡ i
  first_is {i} f broken = let l = f.within in stops test read r.size r.at r.count i (omega arith) (λ j l. kept _ (f.before j l)) (λ l. broken _ f.here)

  -- whether each passes
  pub none_passes : NoneBad says r → passes test (records_from read r.at r.size r.count) ≡ true
  none_passes f = eq-eqb (first_bad test (records_from read r.at r.size r.count)) (length (records_from read r.at r.size r.count)) (none_is f ∙ sym (records-count read r.at r.size r.count))

  pub first_fails : {i : ℕ} {fault : Reason} → BadAt says r i fault → ((i : ℕ) → says i (Some fault) → test (read i) ≡ false)
      → passes test (records_from read r.at r.size r.count) ≡ false
  first_fails {i} f broken =
      let e = first_is f broken in
      let w = f.within in
      let c = records-count read r.at r.size r.count in
      ne_eqb (first_bad test (records_from read r.at r.size r.count)) (length (records_from read r.at r.size r.count)) (λ z. omega arith)
