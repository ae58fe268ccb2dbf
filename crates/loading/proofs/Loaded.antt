-- A file that was taken: its numbers are those of its set, it can be unpacked, and what is unpacked stands in the slices. Assumes nothing.
use mathlib.Core.Path.{◌≡◌, refl, sym, ap, ◌∙◌, subst}
use mathlib.Core.Bool.{not}
use mathlib.Core.List.{List}
use Prim.Native.Nat.{ℕ, ◌+◌}
use native.Mathlib.Omega.{arith}
use lib.Dec.{eqb}
use lib.IntN.{ℤ}
use borrow.Author.Tests.{eqb-true}
use Rattle.amplitude.proofs.Equal.{both}
use Rattle.automata.specs.Sets.{QSet, sum, roots}
use Rattle.stored.specs.Refusal.{good}
use Rattle.stored.specs.Form as stored
use Rattle.stored.specs.Form.{set_of, tr_at, lf_at, trs_at, lfs_at, tr_size, lf_size, file_size}
use Rattle.stored.specs.Rules.{Bounds, n_most, levels_ok}
use Rattle.stored.specs.Judge.{judge_set}
use Rattle.stored.proofs.WellFormed.{WellFormed}
use Rattle.stored.proofs.Reading.{Bytes, records-count, judged, passed-formed, good-same}
use Rattle.tables.specs.States.{state_at, Rising}
use Rattle.tables.specs.Ready.{Ready, Roomy, Unpacked}
use Rattle.tables.specs.Slices.{Table, SameLengths, RoomyOn}
use Rattle.tables.proofs.Ordered.{formed-rises}
use Rattle.setfile.specs.declared.Form.{Form}
use Rattle.std.specs.declared.result.Result.TheVariants.{Ok, Err}
use Rattle.refusals.specs.declared.Fault.{Fault}
use Rattle.refusals.specs.Refused.{judged_at, seen}
use Rattle.refusals.proofs.Told.{fault_at}
use Rattle.setfile.specs.Answer.{form_read}
use Rattle.setfile.proofs.Taken.{Taken}
use Rattle.standing.specs.Standing.{form_of, Holding}
use Rattle.standing.proofs.StandingLaws.{holding}

module _ {b : Bounds} {source : ℕ} {s : List ℕ} {f : Form} (t : Taken b source s f) where
  levelled : sum (set_of s).counts ≡ (stored.form_of s).states
  unfolding levels_ok
  levelled = eqb-true _ _ (both (not (eqb (roots (set_of s)) 0)) _ (judged b source s (set_of s) t.good).0.levels).1

  -- the numbers of HD are the set's
  pub form-taken : f ≡ form_of (set_of s)
  unfolding form_read set_of
  form-taken =
      let F = stored.form_of s in
      let c = levelled in
      t.form ∙ rw (c, records-count (tr_at s) (trs_at F) tr_size F.inner, records-count (lf_at F.k s) (lfs_at F) lf_size F.leaves) refl

  -- the code's answer of it
  pub taken_value : judged_at source (Ok f) ≡ seen form_of (judge_set b source s)
  taken_value = rw t.good (ap good form-taken)

  module _ (bytes : Bytes s) where
    pub formed-taken : WellFormed b (set_of s)
    formed-taken = passed-formed b s bytes (judged b source s (set_of s) t.good).0

    pub ready : Ready s f.n f.k f.states f.inner f.leaves
    ready =
        let e = form-taken in
        record {
          form = sym t.whole.is;
          whole = omega (arith, t.whole.size, ap file_size t.whole.is);
          levelled = ap (λ (g : Form). g.states) (sym e);
          ordered =
              subst (λ (g : Form). Rising (state_at (set_of s)) (g.inner + g.leaves)) (sym e) (formed-rises b (set_of s) formed-taken);
        }

    module _ {rows masks : List ℕ} {coefs : List ℤ} {counts first : List ℕ} where
      pub roomy : Roomy rows masks coefs counts first n_most b.states b.inner b.leaves → Roomy rows masks coefs counts first f.n f.states f.inner f.leaves
      roomy r =
          let w = formed-taken in
          rw form-taken (record {
            table = record { wide = omega (arith, r.table.wide, w.inner, w.leaves); long = omega (arith, r.table.long, w.inner, w.leaves) };
            amplitudes = omega (arith, r.amplitudes, w.leaves);
            levels = omega (arith, r.levels, w.n_few);
            begins = omega (arith, r.begins, w.states);
            few = omega (arith, r.few, w.inner, w.leaves);
          })

      pub loaded : Roomy rows masks coefs counts first f.n f.states f.inner f.leaves → Unpacked rows masks coefs counts first (set_of s)
          → (Q : QSet) → judge_set b source s ≡ good Q → Holding rows masks coefs counts first Q b
      loaded r u Q e =
          subst (λ (P : QSet). Holding rows masks coefs counts first P b) (good-same (set_of s) Q (sym t.good ∙ e))
          (holding formed-taken u (subst (λ (g : Form). Roomy rows masks coefs counts first g.n g.states g.inner g.leaves) form-taken r))

-- a table whose slices keep their lengths has the room that it had
pub roomy-kept : {T T' : Table} {n states inner leaves : ℕ} → RoomyOn T n states inner leaves → SameLengths T T' → RoomyOn T' n states inner leaves
roomy-kept r k = record {
  table = record { wide = omega (arith, r.table.wide, k.rows); long = omega (arith, r.table.long, k.masks) };
  amplitudes = omega (arith, r.amplitudes, k.coefs);
  levels = omega (arith, r.levels, k.counts);
  begins = omega (arith, r.begins, k.first);
  few = r.few;
}

-- a file with a fault is refused for it, and holds no set
module _ (b : Bounds) (source : ℕ) (s : List ℕ) (r : Fault) (e : judged_at source (Err r) ≡ seen (λ (Q : QSet). form_read s) (judge_set b source s)) where
  pub fault_value : judged_at source (Err r) ≡ seen form_of (judge_set b source s)
  fault_value = rw (fault_at (λ (Q : QSet). form_read s) source (judge_set b source s) r e) refl

  pub not_good : (Q : QSet) → judge_set b source s ≡ good Q → ⊥
  not_good Q g = let h = fault_at (λ (Q : QSet). form_read s) source (judge_set b source s) r e in let z : ◌≡◌ {A = ℕ} 0 1 = cc in omega arith
