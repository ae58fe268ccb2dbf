-- From one phase of the check to the next: bounds as each asks for them, and what the files leave for the gates. Assumes nothing.
use mathlib.Core.Path.{◌≡◌, sym, ap, ap₂, ◌∙◌, subst}
use mathlib.Core.List.{List}
use Prim.Native.Nat.{ℕ}
use native.Mathlib.Omega.{arith}
use Rattle.stored.specs.Refusal as def
use Rattle.stored.specs.Refusal.{refused, good}
use Rattle.stored.specs.Rules.{Bounds, n_most}
use Rattle.refusals.proofs.Told.{SeenOf}
use Rattle.jobs.specs.Check.{Ready, ready}
use Rattle.jobs.specs.Reply as reply
use Rattle.tables.specs.Ready.{Roomy}
use Rattle.setfile.specs.declared.Bounds as code
use Rattle.setfile.specs.Answer.{bounds_of}
use Rattle.building.specs.declared.Room.{Room}
use Rattle.applying.specs.Result.{bounds_from}
use Rattle.buffers.specs.Sizes.{TableSized}
use Rattle.carrying.specs.Tables.{Table, set_on, HoldingOn, LentOn}
use Rattle.carrying.specs.Carried.{gates_from}
use Rattle.preparing.specs.declared.Files.{Files}
use Rattle.preparing.specs.Prepared.{files_judged, files_of}
use Rattle.preparing.proofs.Readied.{files_whole}
use Rattle.deciding.specs.Decided.{decided, checked_by, Roomed, Deciding}
use Rattle.deciding.proofs.Phases.{may_decide, files_are, files_refused, files_good}
use Rattle.checking.specs.Asked.{RoomyFor, Checking}

pub roomy-by : (T : Table) (r : code.Bounds) (room : Room) → bounds_of r ≡ bounds_from room → RoomyFor T room
    → Roomy T.rows T.masks T.coefs T.counts T.first n_most r.states r.inner r.leaves
roomy-by T r room e h = subst (λ (b : Bounds). Roomy T.rows T.masks T.coefs T.counts T.first n_most b.states b.inner b.leaves) (sym e) h

-- a table of just the named sizes has room for every set that the room admits
pub own-roomy : {T : Table} {room : Room} → TableSized T.rows T.masks T.coefs T.counts T.first → Roomed room → RoomyFor T room
own-roomy s r = record {
  table = record { wide = omega (arith, s.rows_long, r.records); long = omega (arith, s.masks_long, r.records) };
  amplitudes = omega (arith, s.coefs_long, r.leaves);
  levels = omega (arith, s.counts_long);
  begins = omega (arith, s.first_long, r.states);
  few = omega (arith, r.records);
}

module _ (r₁ r₂ : code.Bounds) (room endroom : Room) (e₁ : bounds_of r₁ ≡ bounds_from room) (e₂ : bounds_of r₂ ≡ bounds_from endroom) (s c e : List ℕ) (f : Files)
    (h : SeenOf files_of (files_judged (bounds_of r₁) (bounds_of r₂) s c e) f) {A E : Table}
    (kept : HoldingOn A h.thing.start (bounds_of r₁) × HoldingOn E h.thing.end (bounds_of r₂)) where
  start-held : HoldingOn A h.thing.start (bounds_from room)
  start-held = subst (λ (b : Bounds). HoldingOn A h.thing.start b) e₁ kept.0

  end-held : HoldingOn E h.thing.end (bounds_from endroom)
  end-held = subst (λ (b : Bounds). HoldingOn E h.thing.end b) e₂ kept.1

  pub to_decide : {met stack kept hints : List ℕ} → Checking met stack kept hints room endroom → LentOn A n_most room → Deciding c f A E met stack kept hints room
  to_decide k one = may_decide (files_whole (bounds_of r₁) (bounds_of r₂) s c e h.thing h.good) start-held end-held (ap (λ (x : Files). x.form) h.value) (ap (λ (x : Files). x.count) h.value) (ap (λ (x : Files). x.endform) h.value) one k.start k.narrow k.rows

  pub is_checked : (most : ℕ) → decided (bounds_from room) (ready (set_on f.form A) (gates_from f.form.n c 0 f.count) (set_on f.endform E)) most
      ≡ checked_by (bounds_from room) (bounds_from endroom) s c e most
  is_checked most =
      ap (λ (J : Ready). decided (bounds_from room) J most)
      (files_are (files_whole (bounds_of r₁) (bounds_of r₂) s c e h.thing h.good) start-held end-held (ap (λ (x : Files). x.form) h.value) (ap (λ (x : Files). x.count) h.value) (ap (λ (x : Files). x.endform) h.value))
      ∙ files_good (bounds_from room) (bounds_from endroom) s c e most h.thing (ap₂ (λ (b eb : Bounds). files_judged b eb s c e) (sym e₁) (sym e₂) ∙ h.good)

pub not_checked : (r₁ r₂ : code.Bounds) (room endroom : Room) → bounds_of r₁ ≡ bounds_from room → bounds_of r₂ ≡ bounds_from endroom → (s c e : List ℕ) (most : ℕ) (r : def.Refusal)
    → files_judged (bounds_of r₁) (bounds_of r₂) s c e ≡ refused r → reply.refused r ≡ checked_by (bounds_from room) (bounds_from endroom) s c e most
not_checked r₁ r₂ room endroom e₁ e₂ s c e most r h = files_refused (bounds_from room) (bounds_from endroom) s c e most r (ap₂ (λ (b eb : Bounds). files_judged b eb s c e) (sym e₁) (sym e₂) ∙ h)
