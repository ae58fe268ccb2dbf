-- One gate from slices to slices: building over the roots' keys is building of the old set, so what it left is judged as the definitions judge, and
-- a result that is taken stands in the new slices. Assumes nothing.
use mathlib.Core.Path.{◌≡◌, refl, sym, ap, ◌∙◌, subst}
use mathlib.Core.Bool.{true, false≢true}
use mathlib.Core.List.{List, map}
use Prim.Native.Nat.{ℕ, ◌+◌, ◌<◌, ◌≤◌}
use native.Mathlib.Omega.{arith}
use lib.Dec.{eqb, leb}
use lib.IntN.{ℤ}
use lib.ListN.{length, get_or, take}
use Rattle.std.specs.Prelude.{Option, Some, None, Result}
use Rattle.automata.specs.Sets.{QSet}
use Rattle.automata.specs.Members.{up_to}
use Rattle.stored.specs.Refusal.{good}
use Rattle.gates.specs.Gate.{phase, flip, H, Gate}
use Rattle.gates.specs.Gate as gate
use Rattle.gates.specs.Key.{radix, plain, stored}
use Rattle.gates.specs.Numbering.{Built, number}
use Rattle.gates.specs.Build.{growth, build_of, built}
use Rattle.gates.specs.Refuse.{judge_gate}
use Rattle.gates.proofs.Fits.{Fits}
use Rattle.gates.proofs.WellBuilt.{judged-gate}
use Rattle.refusals.specs.declared.Refusal.{Refusal}
use Rattle.refusals.specs.Refused.{judged, seen}
use Rattle.setfile.specs.declared.Form.{Form}
use Rattle.tables.specs.Unpack.{Begun}
use Rattle.lookup.specs.Alts.{table_automaton}
use Rattle.stepwise.specs.Code.{coded}
use Rattle.stepwise.proofs.StoredLaws.{Light}
use Rattle.tablewise.proofs.TableBuild.{build_table}
use Rattle.building.specs.declared.Room.{Room}
use Rattle.building.specs.declared.Outcome.{Outcome}
use Rattle.building.specs.Whole.{Whole}
use Rattle.building.specs.Going.{Lists, Rest}
use Rattle.standing.specs.Standing.{set_in, form_of, Stands, Holding}
use Rattle.settling.specs.Result.{bounds_from, made_of, picked}
use Rattle.settling.specs.Standing.{Lent, Indexable}
use Rattle.standing.proofs.StandingLaws.{set-n, set-k}
use Rattle.applying.proofs.OldTable.{root_count, root_keys_lem}
use Rattle.applying.proofs.NewTable.{over_sizes, leaves-told, result_told, indexable, new-holds}

growth-few : (g : Gate) → growth g ≤ 1
growth-few (gate.plain (phase j) t) = omega arith
growth-few (gate.plain (flip j) t) = omega arith
growth-few (gate.plain H t) = omega arith
growth-few (gate.controlled c k t) = omega arith

-- slices of the same lengths
pub lists_on : {cur next link heads cur' : List ℕ} {states start : ℕ} → Lists cur next link heads states start → length cur' ≡ length cur → Lists cur' next link heads states start
lists_on l e = record { here = omega (arith, l.here); there = l.there; links = l.links; buckets = l.buckets; small = l.small }

pub lent_on : {rows masks : List ℕ} {coefs : List ℤ} {counts first rows' masks' : List ℕ} {coefs' : List ℤ} {counts' first' : List ℕ} {n : ℕ} {room : Room}
    → Lent rows masks coefs counts first n room → length rows' ≡ length rows → length masks' ≡ length masks → length coefs' ≡ length coefs → length counts' ≡ length counts → length first' ≡ length first
    → Lent rows' masks' coefs' counts' first' n room
lent_on l a b c d e = record {
  wide = record { wide = omega (arith, l.wide.wide); long = omega (arith, l.wide.long); deep = omega (arith, l.wide.deep) };
  levels = omega (arith, l.levels);
  begins = omega (arith, l.begins);
  few = l.few;
}

module _ {old oldmasks : List ℕ} {numbers : List ℤ} {oldcounts first : List ℕ} {form : Form} {room : Room} (few : room.states < radix)
    (s : Stands old oldmasks numbers oldcounts first form (bounds_from room)) where
  abbrev Q : QSet
  Q = set_in form old oldmasks numbers oldcounts

  -- what building is lent
  pub may_build : {rows masks : List ℕ} {coefs : List ℤ} {counts newfirst : List ℕ} → Lent rows masks coefs counts newfirst form.n room → Rest rows masks coefs counts form.n (get_or oldcounts 0 0) room
  may_build l = record { wide = l.wide; counted = l.levels; few = root_count few s }

  module _ (g : Gate) (light : Light g) (fits : Fits form.n g) (grown : ℕ) (is : grown ≡ growth g) (cur : List ℕ)
      (are : take (get_or oldcounts 0 0) cur ≡ map stored (map plain (up_to 0 (get_or oldcounts 0 0)))) {rows masks : List ℕ} {coefs : List ℤ} {counts : List ℕ} (r : Option Outcome)
      (left : Whole rows masks coefs counts room r (number eqb (coded g (table_automaton old oldmasks numbers first)) 1 form.n 0 (take (get_or oldcounts 0 0) cur))) where
    same-built : number eqb (coded g (table_automaton old oldmasks numbers first)) 1 form.n 0 (take (get_or oldcounts 0 0) cur) ≡ build_of g Q
    same-built =
        ap (λ (n : ℕ). number eqb (coded g (table_automaton old oldmasks numbers first)) 1 n 0 (take (get_or oldcounts 0 0) cur)) (sym (set-n form old oldmasks numbers oldcounts))
        ∙ ap (number eqb (coded g (table_automaton old oldmasks numbers first)) 1 Q.n 0) (are ∙ root_keys_lem few s)
        ∙ build_table (bounds_from room) few Q s.formed old oldmasks numbers oldcounts first s.unpacked.holds g light

    whole : Whole rows masks coefs counts room r (build_of g Q)
    whole = subst (λ (B : Built). Whole rows masks coefs counts room r B) same-built left

    on_set : Fits Q.n g
    on_set = subst (λ (n : ℕ). Fits n g) (sym (set-n form old oldmasks numbers oldcounts)) fits

    new_k : form.k + grown ≡ Q.k + growth g
    new_k = omega (arith, set-k form old oldmasks numbers oldcounts)

    small-k : leb (form.k + grown) 64 ≡ true → leb (Q.k + growth g) 64 ≡ true
    small-k k = sym (ap (λ (m : ℕ). leb m 64) new_k) ∙ k

    -- what settling is lent
    pub may_settle : {newfirst : List ℕ} → Lent rows masks coefs counts newfirst form.n room
        → (form.k + grown < 256) × (leb (form.k + grown) 64 ≡ true → (o : Outcome) → r ≡ Some o → o.fits ≡ true → Indexable rows newfirst (made_of form.n (form.k + grown) o))
    may_settle l = (
      omega (arith, growth-few g, s.formed.k_few, set-k form old oldmasks numbers oldcounts),
      λ k o e fit. indexable g Q (whole.made o e) s.formed on_set (small-k k) fit l,
    )

    -- the answer, and the new table
    pub answer : (x : Result Form Refusal) (place : ℕ) → judged x ≡ picked (leb (form.k + grown) 64) r place form.n (form.k + grown)
        → judged x ≡ seen form_of (judge_gate (bounds_from room) place g Q)
    answer x place e = e ∙ result_told g Q place (sym (set-n form old oldmasks numbers oldcounts)) new_k r whole

    pub table : {newfirst : List ℕ} (place : ℕ) → Lent rows masks coefs counts newfirst form.n room
        → (leb (form.k + grown) 64 ≡ true → (o : Outcome) → r ≡ Some o → o.fits ≡ true → Begun rows (o.inner + o.leaves) (o.states + 1) newfirst)
        → (N : QSet) → judge_gate (bounds_from room) place g Q ≡ good N → Holding rows masks coefs counts newfirst N (bounds_from room)
    unfolding built
    table {newfirst} place l begun N e = go r refl
      where
        go : (o : Option Outcome) → r ≡ o → Holding rows masks coefs counts newfirst N (bounds_from room)
        go None z =
            let j = judged-gate (bounds_from room) place g Q N e in
            absurd (false≢true (sym (over_sizes room g Q (whole.over z)) ∙ j.1))
        go (Some o) z =
            let j = judged-gate (bounds_from room) place g Q N e in
            let fit : o.fits ≡ true = leaves-told g Q (whole.made o z) ∙ j.2 in
            let k : leb (form.k + grown) 64 ≡ true = ap (λ (m : ℕ). leb m 64) new_k ∙ j.0 in
            let lent : Lent rows masks coefs counts newfirst Q.n room = subst (λ (n : ℕ). Lent rows masks coefs counts newfirst n room) (sym (set-n form old oldmasks numbers oldcounts)) l in
            subst (λ (M : QSet). Holding rows masks coefs counts newfirst M (bounds_from room)) j.3 (new-holds g Q (whole.made o z) s.formed on_set (small-k k) fit lent (begun k o z fit))
