-- What writing a set that stands in slices asks, and that its file is the set's. Assumes nothing.
use mathlib.Core.Path.{◌≡◌, sym, ap, ◌∙◌}
use mathlib.Core.List.{List}
use Prim.Native.Nat.{ℕ, ◌+◌, ◌*◌, ◌<◌, ◌≤◌}
use native.Mathlib.Omega.{arith}
use lib.IntN.{ℤ}
use lib.ListN.{length, get_or, take}
use Rattle.automata.specs.Sets.{QSet, sum}
use Rattle.stored.specs.Form.{file_size}
use Rattle.stored.specs.Refusal.{Judged, good}
use Rattle.stored.specs.Rules.{Bounds, n_most}
use Rattle.stored.specs.Pack.{file_of}
use Rattle.stored.proofs.WellFormed.{Narrow}
use Rattle.stored.proofs.ReadBack.{file_length}
use Rattle.jobs.specs.OneGate.{with_file}
use Rattle.packing.specs.Written.{table_form, HasRows, at_front}
use Rattle.replies.specs.declared.Fields.{Fields}
use Rattle.replies.specs.Replied.{reply_from}
use Rattle.setfile.specs.declared.Form.{Form}
use Rattle.tables.specs.Table.{row_width, table_set}
use Rattle.building.specs.declared.Room.{Room}
use Rattle.standing.specs.Standing.{set_in, form_of, Stands, Holding}
use Rattle.standing.proofs.StandingLaws.{set-n, set-inner, set-leaves}
use Rattle.settling.specs.Result.{bounds_from}
use Rattle.settling.specs.Standing.{Lent}
use Rattle.gating.specs.Gated.{length_reply, largest, Target}

module _ {rows masks : List ℕ} {coefs : List ℤ} {counts first : List ℕ} {form : Form} {room : Room} (s : Stands rows masks coefs counts first form (bounds_from room)) where
  pub states-sum : form.states ≡ sum (take (form.n + 1) counts)
  unfolding table_set
  states-sum = s.all

  inner-many : length (set_in form rows masks coefs counts).inner ≡ form.inner
  inner-many = set-inner form rows masks coefs counts

  leaves-many : length (set_in form rows masks coefs counts).leaves ≡ form.leaves
  leaves-many = set-leaves form rows masks coefs counts

  named : (i : ℕ) → i < form.leaves → get_or rows ((form.inner + i) * row_width + 1) 0 ≡ i
  named i lt =
      let e = inner-many in
      ap (λ (m : ℕ). get_or rows ((m + i) * row_width + 1) 0) (sym e) ∙ s.unpacked.numbered i (omega (arith, leaves-many))

  pub has-rows : HasRows rows masks coefs form.inner form.leaves
  has-rows = record {
    rows = s.roomy.table.wide;
    masks = s.roomy.table.long;
    coefs = λ i lt. omega (arith, named i lt, s.roomy.amplitudes);
  }

  pub n-few : form.n ≤ n_most
  n-few = omega (arith, set-n form rows masks coefs counts, s.formed.n_few)

  pub file_fits : (output : List ℕ) → largest room ≤ length output → file_size (table_form form.n form.k form.states form.inner form.leaves) ≤ length output
  file_fits output h = omega (arith, inner-many, leaves-many, n-few, s.formed.inner, s.formed.leaves)

  pub file_short : Narrow (bounds_from room) → length (file_of (set_in form rows masks coefs counts)) < 4294967296
  file_short narrow =
      omega (arith, file_length (bounds_from room) narrow (set_in form rows masks coefs counts) s.formed, s.formed.n_few, s.formed.inner, s.formed.leaves, narrow.inner, narrow.leaves)

-- the gate's slices
module _ {cur next link heads rows masks : List ℕ} {coefs : List ℤ} {counts first output : List ℕ} {room : Room}
    (t : Target cur next link heads rows masks coefs counts first output room) where
  pub target-narrow : Narrow (bounds_from room)
  target-narrow = record { states = omega (arith, t.lists.small); inner = omega (arith, t.lent.few); leaves = omega (arith, t.lent.few) }

-- slices with room for every level have room for fewer
pub lent-for : {rows masks : List ℕ} {coefs : List ℤ} {counts first : List ℕ} {room : Room} → Lent rows masks coefs counts first n_most room → (n : ℕ) → n ≤ n_most
    → Lent rows masks coefs counts first n room
lent-for t n le = record { wide = t.wide; levels = omega (arith, t.levels); begins = t.begins; few = t.few }

-- the reply and the output of a set that was made
module _ {rows masks : List ℕ} {coefs : List ℤ} {counts first : List ℕ} {N : QSet} {b : Bounds} {form : Form} (h : Holding rows masks coefs counts first N b) (same : form ≡ form_of N) where
  pub set_is : set_in form rows masks coefs counts ≡ N
  set_is = ap (λ (f : Form). set_in f rows masks coefs counts) same ∙ h.is

  pub made-stands : Stands rows masks coefs counts first form b
  made-stands = rw same h.stands

  module _ (j : Judged QSet) (taken : j ≡ good N) where
    pub made_reply : {r : Fields} → r ≡ reply_from (length_reply (good (set_in form rows masks coefs counts))) → r ≡ reply_from (length_reply j)
    made_reply e = e ∙ ap (λ (P : QSet). reply_from (length_reply (good P))) set_is ∙ ap (λ (i : Judged QSet). reply_from (length_reply i)) (sym taken)

    pub made_output : (output : List ℕ) {exit : List ℕ} → exit ≡ at_front (file_of (set_in form rows masks coefs counts)) output → exit ≡ with_file output j
    made_output output e = e ∙ ap (λ (P : QSet). at_front (file_of P) output) set_is ∙ ap (with_file output) (sym taken)
