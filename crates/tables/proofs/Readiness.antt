-- A file that no rule refuses is ready to be unpacked: rule 5 gives its length, rule 7 its levels, rules 8 to 10 the order. Assumes nothing.
use mathlib.Core.Path.{◌≡◌, refl}
use mathlib.Core.Bool.{not}
use mathlib.Core.List.{List}
use Prim.Native.Nat.{ℕ, ◌+◌, ◌≤◌}
use native.Mathlib.Omega.{arith}
use lib.ListN.{length}
use lib.Dec.{eqb}
use borrow.Author.Tests.{eqb-true}
use Rattle.amplitude.proofs.Equal.{both}
use Rattle.automata.specs.Sets.{QSet, sum, roots}
use Rattle.stored.specs.Refusal.{refusal, good}
use Rattle.stored.specs.Form.{Form, form_of, tr_size, lf_size, trs_at, lfs_at, file_size, tr_at, lf_at, set_of}
use Rattle.stored.specs.Rules.{Bounds, head_ok, version_ok, ranges_ok, counts_ok, length_ok, levels_ok}
use Rattle.stored.specs.Judge.{judge_set}
use Rattle.stored.proofs.Reading.{need-good, judged, passed-formed, records-count, Bytes}
use Rattle.tables.specs.States.{state_at, Rising}
use Rattle.tables.specs.Ready.{Ready}
use Rattle.tables.proofs.Ordered.{formed-rises}

module _ (b : Bounds) (source : ℕ) (file : List ℕ) (Q : QSet) (bytes : Bytes file) (e : judge_set b source file ≡ good Q) where
  whole : file_size (form_of file) ≤ length file
  unfolding judge_set length_ok
  whole =
      let e₁ = (need-good (head_ok file) (refusal 1 source 0) _ Q e).1 in
      let e₂ = (need-good (version_ok file) (refusal 2 source 0) _ Q e₁).1 in
      let e₃ = (need-good (ranges_ok file (form_of file)) (refusal 3 source 0) _ Q e₂).1 in
      let e₄ = (need-good (counts_ok b (form_of file)) (refusal 4 source 0) _ Q e₃).1 in
      let e₅ = (need-good (length_ok file (form_of file)) (refusal 5 source 0) _ Q e₄).0 in
      let same = eqb-true (length file) (file_size (form_of file)) e₅ in
      omega arith

  levelled : sum (set_of file).counts ≡ (form_of file).states
  unfolding levels_ok
  levelled = eqb-true _ _ (both (not (eqb (roots (set_of file)) 0)) _ (judged b source file Q e).0.levels).1

  sizes : (length (set_of file).inner ≡ (form_of file).inner) × (length (set_of file).leaves ≡ (form_of file).leaves)
  unfolding set_of
  sizes = let F : Form = form_of file in (records-count (tr_at file) (trs_at F) tr_size F.inner, records-count (lf_at F.k file) (lfs_at F) lf_size F.leaves)

  rising : Rising (state_at (set_of file)) ((form_of file).inner + (form_of file).leaves)
  rising =
      let r = formed-rises b (set_of file) (passed-formed b file bytes (judged b source file Q e).0) in
      record { rises = λ i j le lt. r.rises i j le (omega (arith, sizes.0, sizes.1)) }

  pub judged-ready : Ready file (form_of file).n (form_of file).k (form_of file).states (form_of file).inner (form_of file).leaves
  judged-ready = record { form = refl; whole = whole; levelled = levelled; ordered = rising }
