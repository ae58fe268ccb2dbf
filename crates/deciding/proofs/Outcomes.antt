-- What the gates and the walk over the image come to: the reply to files that are all good. Assumes nothing.
use mathlib.Core.Path.{◌≡◌, sym, ap, ◌∙◌}
use mathlib.Core.List.{List}
use Prim.Native.Nat.{ℕ}
use Rattle.automata.specs.Sets.{QSet}
use Rattle.stored.specs.Refusal as def
use Rattle.stored.specs.Refusal.{Judged, refused, good, on_good}
use Rattle.stored.specs.Rules.{Bounds}
use Rattle.stored.proofs.WellFormed.{WellFormed}
use Rattle.gates.specs.Gate.{Gate}
use Rattle.gates.specs.Refuse.{after_gates}
use Rattle.gates.proofs.Fits.{AllFit}
use Rattle.verdict.specs.Verdict.{Verdict}
use Rattle.jobs.specs.Check.{ready, answer}
use Rattle.jobs.specs.Reply as reply
use Rattle.jobs.specs.Reply.{says, reply_of}
use Rattle.setfile.specs.declared.Form.{Form}
use Rattle.tables.specs.Table.{table_set}
use Rattle.building.specs.declared.Room.{Room}
use Rattle.applying.specs.Result.{bounds_from}
use Rattle.carrying.specs.Tables.{Table, set_on, StandsOn}
use Rattle.imagewise.specs.Image.{image_verdict}
use Rattle.imagewise.proofs.ByImage.{by-image}
use Rattle.deciding.specs.Decided.{gates_judged, decided}

module _ (b : Bounds) (Q : QSet) (gs : List Gate) (E : QSet) (most : ℕ) where
  pub gate-refused : (r : def.Refusal) → after_gates b 1 gs Q ≡ refused r → reply.refused r ≡ decided b (ready Q gs E) most
  unfolding gates_judged
  gate-refused r e = ap (λ (j : Judged QSet). reply_of (answer most) (on_good j (λ P. good (ready Q gs E)))) (sym e)

  pub all-gates : (P : QSet) → WellFormed b Q → AllFit Q.n gs → after_gates b 1 gs Q ≡ good P → says (image_verdict P E most) ≡ decided b (ready Q gs E) most
  unfolding gates_judged
  all-gates P w f e =
      ap (λ (v : Verdict). says v) (sym (by-image b 1 gs Q P E w f e most))
      ∙ ap (λ (j : Judged QSet). reply_of (answer most) (on_good j (λ P. good (ready Q gs E)))) (sym e)

-- of a start set that stands in a table
pub all-gates_on : (room : Room) (form : Form) (A : Table) (gs : List Gate) (E : QSet) (most : ℕ) (P : QSet) → StandsOn A form (bounds_from room) → AllFit form.n gs
    → after_gates (bounds_from room) 1 gs (set_on form A) ≡ good P → says (image_verdict P E most) ≡ decided (bounds_from room) (ready (set_on form A) gs E) most
unfolding table_set
all-gates_on room form A gs E most P s f e = all-gates (bounds_from room) (set_on form A) gs E most P s.formed f e
