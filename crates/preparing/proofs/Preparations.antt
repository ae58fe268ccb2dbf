-- What the stages of all files come to, one after the other: the first that is refused is the answer, and files that are all good are those of the
-- stages. Assumes nothing.
use mathlib.Core.Path.{◌≡◌, refl, ap, sym, ◌∙◌, subst}
use mathlib.Core.List.{List}
use Prim.Native.Nat.{ℕ}
use native.Mathlib.Omega.{arith}
use lib.ListN.{length}
use borrow.Author.Tests.{eq-eqb, ne_eqb}
use Rattle.std.specs.Prelude.{Result, MatchResult}
use Rattle.std.specs.declared.result.Result.TheVariants.{Ok, Err}
use Rattle.automata.specs.Sets.{QSet}
use Rattle.stored.specs.Refusal as def
use Rattle.stored.specs.Refusal.{Judged, refused, good, refusal, no_source, start_source, end_source}
use Rattle.stored.specs.Rules.{Bounds}
use Rattle.stored.specs.Judge.{judge_set}
use Rattle.stored.proofs.Reading.{good-same}
use Rattle.gates.specs.Gate.{Gate}
use Rattle.gates.specs.Circuit.{judge_circuit}
use Rattle.jobs.specs.Check.{Ready, ready}
use Rattle.refusals.specs.declared.Refusal.{Refusal}
use Rattle.refusals.specs.declared.Fault.{Fault}
use Rattle.refusals.specs.declared.Source.{Source}
use Rattle.refusals.specs.Refused.{source_of, told, judged, judged_at, seen}
use Rattle.refusals.proofs.Told.{turned_down, good_seen, SeenOf}
use Rattle.setfile.specs.declared.Form.{Form}
use Rattle.tables.specs.declared.TableMut.{TableMut}
use Rattle.tables.specs.Slices.{Table, SameLengths, SameLent}
use Rattle.standing.specs.Standing.{form_of}
use Rattle.preparing.specs.declared.Files.{Files}
use Rattle.preparing.specs.Prepared.{files_judged, files_of, rest_judged, end_judged}

-- a judged thing that is refused is no good one
pub never : {X : Type 0} {j : Judged X} {r : def.Refusal} → j ≡ refused r → (x : X) → j ≡ good x → ⊥
never e x g = let z : ◌≡◌ {A = ℕ} 0 1 = cc in omega arith

-- a file's answer, as a refusal of its source
pub staged : (r : Result Form Fault) (q : Result Form Refusal) {p : Result Form Refusal} {j : Judged Form} (source : Source) → q ≡ p
    → MatchResult r (λ x. q ≡ Ok x) (λ f. q ≡ Err (record { reason = f.reason; source = source; place = f.place }))
    → judged_at (source_of source) r ≡ j → judged p ≡ j
staged (Ok x) q source was m e = ap judged (sym was) ∙ rw m e
staged (Err f) q source was m e = ap judged (sym was) ∙ rw m e

-- the refusal of a stage, handed on
pub handed-on : {j : Judged Ready} {r : Refusal} {result : Result Files Refusal} → result ≡ Err r → j ≡ refused (told r) → judged result ≡ seen files_of j
handed-on e h = rw (e, h)

-- a table that is not written
pub as_long : {T : Table} → SameLengths T T
as_long = record { rows = refl; masks = refl; coefs = refl; counts = refl; first = refl }

pub as_lent : {t : TableMut} → SameLent t t
as_lent = record { rows = refl; masks = refl; coefs = refl; counts = refl; first = refl }

-- the numbers of files that are all good
good_files : {f g : Form} {k : ℕ} (J : Ready) → f ≡ form_of J.start → k ≡ length J.gates → g ≡ form_of J.end
    → good (record { form = f; count = k; endform = g }) ≡ good (files_of J)
good_files J x y z = rw (x, y, z)

module _ (b eb : Bounds) (s c e : List ℕ) where
  abbrev all : Judged Ready
  all = files_judged b eb s c e

  pub start_refused : (r : Refusal) → judged {A = Form} (Err r) ≡ seen form_of (judge_set b start_source s) → all ≡ refused (told r)
  unfolding files_judged
  start_refused r x = rw (turned_down form_of (judge_set b start_source s) r x)

  module _ (form : Form) (x : judged (Ok form) ≡ seen form_of (judge_set b start_source s)) where
    start : SeenOf form_of (judge_set b start_source s) form
    start = good_seen form_of (judge_set b start_source s) form x

    at_n : judge_circuit start.thing.n c ≡ judge_circuit form.n c
    at_n = ap (λ (f : Form). judge_circuit f.n c) (sym start.value)

    pub circuit_refused : (r : Refusal) → judged {A = ℕ} (Err r) ≡ seen length (judge_circuit form.n c) → all ≡ refused (told r)
    unfolding files_judged rest_judged
    circuit_refused r y = rw (start.good, at_n, turned_down length (judge_circuit form.n c) r y)

    module _ (count : ℕ) (y : judged (Ok count) ≡ seen length (judge_circuit form.n c)) where
      circuit : SeenOf length (judge_circuit form.n c) count
      circuit = good_seen length (judge_circuit form.n c) count y

      pub end_refused : (r : Refusal) → judged {A = Form} (Err r) ≡ seen form_of (judge_set eb end_source e) → all ≡ refused (told r)
      unfolding files_judged rest_judged end_judged
      end_refused r z = rw (start.good, at_n, circuit.good, turned_down form_of (judge_set eb end_source e) r z)

      module _ (endform : Form) (z : judged (Ok endform) ≡ seen form_of (judge_set eb end_source e)) where
        ends : SeenOf form_of (judge_set eb end_source e) endform
        ends = good_seen form_of (judge_set eb end_source e) endform z

        numbers : (P : ℕ → ℕ → Type 0) → P endform.n form.n → P ends.thing.n start.thing.n
        numbers P p = subst (λ (f : Form). P f.n start.thing.n) ends.value (subst (λ (f : Form). P endform.n f.n) start.value p)

        -- 13
        pub other-qubits : (endform.n ≡ form.n → ⊥) → all ≡ refused (refusal 13 no_source 0)
        unfolding files_judged rest_judged end_judged
        other-qubits h = rw (start.good, at_n, circuit.good, ends.good, ne_eqb ends.thing.n start.thing.n (numbers (λ (k l : ℕ). k ≡ l → ⊥) h))

        module _ (same : endform.n ≡ form.n) where
          abbrev those : Ready
          those = ready start.thing circuit.thing ends.thing

          all_good : all ≡ good those
          unfolding files_judged rest_judged end_judged
          all_good = rw (start.good, at_n, circuit.good, ends.good, eq-eqb ends.thing.n start.thing.n (numbers (λ (k l : ℕ). k ≡ l) same))

          pub prepared : good (record { form = form; count = count; endform = endform }) ≡ seen files_of all
          prepared = good_files those start.value circuit.value ends.value ∙ ap (seen files_of) (sym all_good)

          -- what holds of the sets that were taken holds of these files
          pub held : {P R : QSet → Type 0} → ((Q : QSet) → judge_set b start_source s ≡ good Q → P Q) → ((E : QSet) → judge_set eb end_source e ≡ good E → R E)
              → (J : Ready) → all ≡ good J → P J.start × R J.end
          held {P} {R} p r J g =
              subst (λ (x : Ready). P x.start × R x.end) (good-same those J (sym all_good ∙ g)) (p start.thing start.good, r ends.thing ends.good)
