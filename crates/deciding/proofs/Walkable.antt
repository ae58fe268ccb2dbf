-- A set that stands in slices can be searched and walked, and the numbers of its states are within its bounds. Assumes nothing.
use mathlib.Core.Path.{◌≡◌, sym, ◌∙◌, subst}
use mathlib.Core.List.{List}
use Prim.Native.Nat.{ℕ, suc, ◌<◌, ◌≤◌}
use native.Mathlib.Omega.{arith}
use lib.IntN.{ℤ}
use lib.ListN.{length}
use Rattle.stored.specs.Rules.{Bounds, n_most}
use Rattle.setfile.specs.declared.Form.{Form}
use Rattle.standing.specs.Standing.{set_in, Stands}
use Rattle.standing.proofs.StandingLaws.{set-n, set-inner, set-leaves}
use Rattle.building.specs.declared.Room.{Room}
use Rattle.applying.specs.Result.{bounds_from}
use Rattle.carrying.specs.Tables.{Table, StandsOn}
use Rattle.matching.specs.Levels.{start_of}
use Rattle.matching.specs.Seeking.{Held}
use Rattle.matching.proofs.LevelLaws.{start-most}
use Rattle.matching.proofs.Grounds.{start_is}
use Rattle.striding.specs.Lodged.{Lodged, LodgedOn}
use Rattle.imagewise.specs.Image.{image_verdict}
use Rattle.jobs.specs.Reply.{says}
use Rattle.replies.specs.declared.Fields.{Fields}
use Rattle.replies.specs.Replied.{reply_from}
use Rattle.building.specs.Going.{Lists}
use Rattle.applying.specs.Standing.{Lent}
use Rattle.buffers.specs.Sizes.{TableSized, ListsSized}
use Rattle.preparing.specs.declared.Files.{Files}
use Rattle.deciding.specs.Decided.{Roomed, Deciding}

module _ {rows masks : List ℕ} {coefs : List ℤ} {counts first : List ℕ} {form : Form} {b : Bounds} (s : Stands rows masks coefs counts first form b) where
  abbrev pub held : b.states < 65536 → (n : ℕ) → n ≡ form.n → Held rows masks coefs counts first n
  held few n e =
      let i = set-inner form rows masks coefs counts in
      let l = set-leaves form rows masks coefs counts in
      let a = s.all in
      let q = set-n form rows masks coefs counts in
      record {
        set = set_in form rows masks coefs counts;
        bounds = b;
        few = few;
        formed = s.formed;
        unpacked = s.unpacked;
        roomy =
            record {
              table = record { wide = omega (arith, s.roomy.table.wide); long = omega (arith, s.roomy.table.long) };
              amplitudes = omega (arith, s.roomy.amplitudes);
              levels = omega (arith, s.roomy.levels);
              begins = omega (arith, s.roomy.begins);
              few = omega (arith, s.roomy.few);
            };
        qubits = e ∙ sym q;
      }

-- all states of a held set
pub held-states : {rows masks : List ℕ} {coefs : List ℤ} {counts first : List ℕ} {n : ℕ} (h : Held rows masks coefs counts first n) → start_of counts (suc n) ≤ h.bounds.states
held-states {counts = counts} {n = n} h =
    omega (arith, start_is h (suc n) (omega arith), start-most h.set.counts (suc n), h.formed.states)

-- what the walk asks, of an image that stands in a table after the gates
abbrev pub walkable : {circuit : List ℕ} {files : Files} {A E : Table} {met stack kept hints : List ℕ} {room : Room}
    → Deciding circuit files A E met stack kept hints room → {T : Table} {f : Form} → StandsOn T f (bounds_from room) → f.n ≡ files.form.n
    → Lodged T.rows T.masks T.coefs T.counts T.first E.rows E.masks E.coefs E.counts E.first (length met) (length stack) (length kept) (length hints) files.form.n
walkable {files = files} d s e =
    let i = held s (omega (arith, d.roomed.states)) files.form.n (sym e) in
    let j = held d.end (omega (arith, d.narrow)) files.form.n (sym d.qubits) in
    record {
      image = i;
      ends = j;
      small = omega (arith, held-states i, d.roomed.states);
      narrow = omega (arith, held-states j, d.narrow);
      marks = d.rows.met_long;
      planes = d.rows.stack_long;
      slots = d.rows.kept_long;
      cells = d.rows.hints_long;
    }

-- what the walk asks and says of an image that it reads through a view of its table
module _ {V T : Table} (e : V ≡ T) {E : Table} {met stack kept hints n : ℕ} where
  pub viewed_on : LodgedOn T E met stack kept hints n → LodgedOn V E met stack kept hints n
  viewed_on g = subst (λ (X : Table). LodgedOn X E met stack kept hints n) (sym e) g

  pub walked_on : (most : ℕ) {r : Fields} → ((g : LodgedOn V E met stack kept hints n) → r ≡ reply_from (says (image_verdict g.image.set g.ends.set most)))
      → (g : LodgedOn T E met stack kept hints n) → r ≡ reply_from (says (image_verdict g.image.set g.ends.set most))
  walked_on most {r} h = subst (λ (X : Table). (g : LodgedOn X E met stack kept hints n) → r ≡ reply_from (says (image_verdict g.image.set g.ends.set most))) e h

-- ---- the gates' own arrays
-- a table and lists of just their named sizes have room for every set that the room admits
pub own-lent : {rows masks : List ℕ} {coefs : List ℤ} {counts first : List ℕ} {n : ℕ} {room : Room} → TableSized rows masks coefs counts first → n ≤ n_most → Roomed room
    → Lent rows masks coefs counts first n room
own-lent s h r = record {
  wide = record { wide = omega (arith, s.rows_long, r.records); long = omega (arith, s.masks_long, r.records); deep = omega (arith, s.coefs_long, r.leaves) };
  levels = omega (arith, s.counts_long);
  begins = omega (arith, s.first_long, r.states);
  few = omega (arith, r.records);
}

pub own_keys : {cur next link heads : List ℕ} {room : Room} → ListsSized cur next link heads → Roomed room → Lists cur next link heads room.states 0
own_keys l r = record {
  here = omega (arith, l.cur_long, r.states);
  there = omega (arith, l.next_long, r.states);
  links = omega (arith, l.link_long, r.states);
  buckets = omega (arith, l.heads_long);
  small = omega (arith, r.states);
}

-- a set that stands in slices has at most 20 qubits
pub few-qubits : {T : Table} {form : Form} {b : Bounds} → StandsOn T form b → form.n ≤ n_most
few-qubits {T} {form} s = omega (arith, s.formed.n_few, set-n form T.rows T.masks T.coefs T.counts)
