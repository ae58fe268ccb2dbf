-- From files that are all good to their gates: what these ask, and that they are the files' own. Assumes nothing.
use mathlib.Core.Path.{◌≡◌, sym, ap, ap₂, ◌∙◌, subst}
use mathlib.Core.List.{List}
use Prim.Native.Nat.{ℕ, ◌≤◌}
use native.Mathlib.Omega.{arith}
use lib.ListN.{length}
use Rattle.automata.specs.Sets.{QSet}
use Rattle.stored.specs.Refusal as def
use Rattle.stored.specs.Refusal.{Judged, refused, good, on_good}
use Rattle.stored.specs.Rules.{Bounds, n_most}
use Rattle.gates.specs.Gate.{Gate}
use Rattle.gates.proofs.Fits.{circuit_fits}
use Rattle.jobs.specs.Check.{Ready, ready, answer}
use Rattle.jobs.specs.Reply as reply
use Rattle.jobs.specs.Reply.{reply_of}
use Rattle.setfile.specs.declared.Form.{Form}
use Rattle.standing.specs.Standing.{form_of}
use Rattle.building.specs.declared.Room.{Room}
use Rattle.applying.specs.Result.{bounds_from}
use Rattle.carrying.specs.Tables.{Table, set_on, HoldingOn, LentOn}
use Rattle.carrying.specs.Carried.{gates_from}
use Rattle.carrying.proofs.Circuits.{Sound, circuit_sound}
use Rattle.preparing.specs.declared.Files.{Files}
use Rattle.preparing.specs.Prepared.{files_judged}
use Rattle.preparing.proofs.Readied.{Whole}
use Rattle.deciding.specs.Decided.{gates_judged, decided, checked_by, LastRows, Roomed, Deciding}

module _ {c : List ℕ} {J : Ready} {room endroom : Room} {A E : Table} {files : Files} (w : Whole c J) (h_a : HoldingOn A J.start (bounds_from room))
    (h_e : HoldingOn E J.end (bounds_from endroom)) (is_form : files.form ≡ form_of J.start) (is_count : files.count ≡ length J.gates) (is_end : files.endform ≡ form_of J.end) where
  sound : Sound J.start.n c J.gates
  sound = circuit_sound J.start.n c J.gates w.circuit

  n-is : files.form.n ≡ J.start.n
  n-is = ap (λ (f : Form). f.n) is_form

  gates-are : gates_from files.form.n c 0 files.count ≡ J.gates
  gates-are = ap₂ (λ (n m : ℕ). gates_from n c 0 m) n-is is_count ∙ sound.are

  lent_on : (T : Table) → LentOn T n_most room → LentOn T files.form.n room
  lent_on T l =
      let few : J.start.n ≤ n_most = subst (λ (Q : QSet). Q.n ≤ n_most) h_a.is h_a.stands.formed.n_few in
      record { wide = l.wide; levels = omega (arith, l.levels, n-is); begins = l.begins; few = l.few }

  pub may_decide : {met stack kept hints : List ℕ} → LentOn A n_most room → Roomed room → endroom.states ≤ 128 → LastRows met stack kept hints
      → Deciding c files A E met stack kept hints room
  may_decide one roomed narrow rows = record {
    readable = rw (n-is, is_count) sound.readable;
    fit = rw (gates-are, n-is) (circuit_fits J.start.n c J.gates w.circuit);
    start = rw is_form h_a.stands;
    one = lent_on A one;
    roomed = roomed;
    bounds = bounds_from endroom;
    end = rw is_end h_e.stands;
    qubits = ap (λ (f : Form). f.n) is_end ∙ w.qubits ∙ sym n-is;
    narrow = narrow;
    rows = rows;
  }

  pub files_are : ready (set_on files.form A) (gates_from files.form.n c 0 files.count) (set_on files.endform E) ≡ J
  files_are =
      ap (λ (f : Form). ready (set_on f A) (gates_from files.form.n c 0 files.count) (set_on files.endform E)) is_form
      ∙ ap (λ (Q : QSet). ready Q (gates_from files.form.n c 0 files.count) (set_on files.endform E)) h_a.is
      ∙ ap (λ (gs : List Gate). ready J.start gs (set_on files.endform E)) gates-are
      ∙ ap (λ (f : Form). ready J.start J.gates (set_on f E)) is_end
      ∙ ap (λ (Q : QSet). ready J.start J.gates Q) h_e.is

-- the reply to any files, where they are refused and where they are good
module _ (b eb : Bounds) (s c e : List ℕ) (most : ℕ) where
  pub files_refused : (r : def.Refusal) → files_judged b eb s c e ≡ refused r → reply.refused r ≡ checked_by b eb s c e most
  unfolding checked_by
  files_refused r h = ap (λ (j : Judged Ready). reply_of (answer most) (on_good j (gates_judged b))) (sym h)

  pub files_good : (J : Ready) → files_judged b eb s c e ≡ good J → decided b J most ≡ checked_by b eb s c e most
  unfolding checked_by
  files_good J h = ap (λ (j : Judged Ready). reply_of (answer most) (on_good j (gates_judged b))) (sym h)
