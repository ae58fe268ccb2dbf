-- Turn by turn: the set so far, carried through the gates that are left, comes to what all gates make of the first set. Assumes nothing.
use mathlib.Core.Path.{◌≡◌, refl, sym, ap, ◌∙◌, subst}
use mathlib.Core.Bool.{Bool, true, false, false≢true, not}
use mathlib.Core.List.{List, ◌∷◌}
use mathlib.Core.Option.{Option, some}
use Prim.Native.Nat.{ℕ, suc, ◌+◌, ◌-◌, ◌*◌, ◌<◌, ◌≤◌}
use native.Mathlib.Omega.{arith}
use lib.ListN.{length}
use Rattle.std.specs.Prelude.{Ok, Err}
use Rattle.automata.specs.Sets.{QSet}
use Rattle.stored.specs.Fields.{records_from}
use Rattle.stored.specs.Refusal.{Judged, good, on_good}
use Rattle.stored.specs.Rules.{Bounds}
use Rattle.gates.specs.Gate.{Gate}
use Rattle.gates.specs.Circuit.{gt_size, gate_at, somes}
use Rattle.gates.specs.Refuse.{judge_gate, after_gates}
use Rattle.gates.proofs.Fits.{Fits}
use Rattle.gates.proofs.Demand2.{n_kept}
use Rattle.gates.proofs.WellBuilt.{judged-gate}
use Rattle.refusals.specs.declared.Refusal.{Refusal}
use Rattle.refusals.specs.Refused.{judged, seen}
use Rattle.stepwise.proofs.StoredLaws.{Light}
use Rattle.setfile.specs.declared.Form.{Form}
use Rattle.building.specs.declared.Room.{Room}
use Rattle.names.specs.declared.Names.{Names}
use Rattle.tables.specs.declared.TableMut.{TableMut}
use Rattle.tables.specs.Slices.{SameLengths, SameLent}
use Rattle.growing.specs.Growing.{SameNames}
use Rattle.building.specs.Going.{ListsIn}
use Rattle.standing.specs.Standing.{form_of}
use Rattle.settling.specs.declared.Image.{Image}
use Rattle.settling.specs.Result.{bounds_from, next_image}
use Rattle.settling.proofs.Results.{made-good, refused-told}
use Rattle.standing.proofs.StandingLaws.{set-n}
use Rattle.applying.proofs.OneGate.{lent_on}
use Rattle.standing.specs.Tables.{Table, holder, other, set_on, StandsOn, StandsIn, HoldingOn}
use Rattle.settling.specs.Standing.{LentOn}
use Rattle.carrying.specs.Carried.{GateThere, Readable, gates_from, Carried}

-- ---- the records that are left
pub here : {n : ℕ} {s : List ℕ} {at count : ℕ} → Readable n s at count → 0 < count → (at + gt_size ≤ length s) × GateThere n s at
here {n} {s} {at} r more =
    let e : at + 0 * gt_size ≡ at = omega arith in
    (omega (arith, r.there), subst (GateThere n s) e (r.each 0 more))

pub later : {n : ℕ} {s : List ℕ} {at count : ℕ} → Readable n s at count → 0 < count → Readable n s (at + gt_size) (count - 1)
later {n} {s} {at} r more = record {
  there = omega (arith, r.there);
  each = λ i lt. (let e : at + (i + 1) * gt_size ≡ at + gt_size + i * gt_size = omega arith in subst (GateThere n s) e (r.each (i + 1) (omega arith)));
}

pub gates-next : (n : ℕ) (s : List ℕ) (at left : ℕ) (g : Gate) → gate_at n s at ≡ some g → gates_from n s at (suc left) ≡ g ∷ gates_from n s (at + gt_size) left
unfolding records_from
gates-next n s at left g e = ap (λ (o : Option Gate). somes (o ∷ records_from (gate_at n s) (at + gt_size) gt_size left)) e

pub gate-ready : {n : ℕ} {s : List ℕ} {at : ℕ} → GateThere n s at → (g : Gate) → gate_at n s at ≡ some g → Light g × Fits n g
gate-ready {n} {s} {at} t g e =
    let same : t.gate ≡ g = only (sym t.is ∙ e) in
    (subst Light same t.light, subst (Fits n) same t.fits)
  where
    only : some t.gate ≡ some g → t.gate ≡ g
    only h = cc

-- ---- one gate
-- the set that a gate made stands in the other table
stands-other : (T U : Table) (b : Bounds) (second : Bool) (N : QSet) → HoldingOn (other second T U) N b → StandsIn (not second) T U (form_of N) b
stands-other T U b true N h = record { one = λ e. h.stands; two = λ e. absurd (false≢true e) }
stands-other T U b false N h = record { one = λ e. absurd (false≢true (sym e)); two = λ e. h.stands }

set_other : (T U : Table) (b : Bounds) (second : Bool) (N : QSet) → HoldingOn (other second T U) N b → set_on (form_of N) (holder (not second) T U) ≡ N
set_other T U b true N h = h.is
set_other T U b false N h = h.is

-- ---- slices of the same lengths
pub same-long : {T : Table} → SameLengths T T
same-long = record { rows = refl; masks = refl; coefs = refl; counts = refl; first = refl }

pub long_on : {T T' T'' : Table} → SameLengths T T' → SameLengths T' T'' → SameLengths T T''
long_on k h = record { rows = h.rows ∙ k.rows; masks = h.masks ∙ k.masks; coefs = h.coefs ∙ k.coefs; counts = h.counts ∙ k.counts; first = h.first ∙ k.first }

lent-long : {T T' : Table} {n : ℕ} {room : Room} → SameLengths T T' → LentOn T n room → LentOn T' n room
lent-long h l = lent_on l h.rows h.masks h.coefs h.counts h.first

-- the same slices
pub same_lent : {t : TableMut} → SameLent t t
same_lent = record { rows = refl; masks = refl; coefs = refl; counts = refl; first = refl }

pub same_on : {t t' t'' : TableMut} → SameLent t t' → SameLent t' t'' → SameLent t t''
same_on k h = record { rows = h.rows ∙ k.rows; masks = h.masks ∙ k.masks; coefs = h.coefs ∙ k.coefs; counts = h.counts ∙ k.counts; first = h.first ∙ k.first }

-- the same of the lists
pub same_names : {n : Names} → SameNames n n
same_names = record { keys_same = refl; link_same = refl; heads_same = refl; keys_long = refl; link_long = refl; heads_long = refl }

pub names_on : {n n' n'' : Names} → SameNames n n' → SameNames n' n'' → SameNames n n''
names_on k h = record { keys_same = h.keys_same ∙ k.keys_same; link_same = h.link_same ∙ k.link_same; heads_same = h.heads_same ∙ k.heads_same; keys_long = h.keys_long ∙ k.keys_long; link_long = h.link_long ∙ k.link_long; heads_long = h.heads_long ∙ k.heads_long }

lists-long : {cur cur' : List ℕ} {n n' : Names} {states start : ℕ} → length cur' ≡ length cur → SameNames n n' → ListsIn cur n states start → ListsIn cur' n' states start
lists-long c h l = record {
  here = omega (arith, l.here, c);
  there = omega (arith, l.there, h.keys_long);
  links = omega (arith, l.links, h.link_long);
  buckets = omega (arith, l.buckets, h.heads_long);
  small = l.small;
}

-- ---- before each turn
pub record Going (n : ℕ) (s : List ℕ) (room : Room) (T U : Table) (cur : List ℕ) (names : Names) (c : Image) (left at place : ℕ) (J : Judged QSet) : Type 0 where
  pub comes : after_gates (bounds_from room) place (gates_from n s at left) (set_on c.form (holder c.second T U)) ≡ J
  pub stands : StandsIn c.second T U c.form (bounds_from room)
  pub qubits : c.form.n ≡ n
  pub readable : Readable n s at left
  pub lists : ListsIn cur names room.states 0
  pub one : LentOn T n room
  pub two : LentOn U n room

pub begins : {s : List ℕ} {room : Room} {T U : Table} {cur : List ℕ} {names : Names} {count : ℕ} {f : Form} → Readable f.n s 0 count → StandsOn T f (bounds_from room)
    → ListsIn cur names room.states 0 → LentOn T f.n room → LentOn U f.n room
    → Going f.n s room T U cur names (record { form = f; second = false }) count 0 1 (after_gates (bounds_from room) 1 (gates_from f.n s 0 count) (set_on f T))
begins r st l one two = record {
  comes = refl;
  stands = record { one = λ e. st; two = λ e. absurd (false≢true e) };
  qubits = refl;
  readable = r;
  lists = l;
  one = one;
  two = two;
}

-- with the counts of another way to say the same
pub at_spot : {n : ℕ} {s : List ℕ} {room : Room} {T U : Table} {cur : List ℕ} {names : Names} {c : Image} {J : Judged QSet} (left at place left' at' place' : ℕ) → left ≡ left' → at ≡ at' → place ≡ place'
    → Going n s room T U cur names c left at place J → Going n s room T U cur names c left' at' place' J
at_spot {n} {s} {room} {T} {U} {cur} {names} {c} {J} left at place left' at' place' l a p go =
    subst (λ (z : ℕ). Going n s room T U cur names c left' at' z J) p
    (subst (λ (z : ℕ). Going n s room T U cur names c left' z place J) a
    (subst (λ (z : ℕ). Going n s room T U cur names c z at place J) l go))

module _ {n : ℕ} {s : List ℕ} {room : Room} {T U : Table} {cur : List ℕ} {names : Names} {c : Image} {left at place : ℕ} {J : Judged QSet}
    (go : Going n s room T U cur names c left at place J) where
  abbrev b : Bounds
  b = bounds_from room

  -- where no gate is left
  pub ends : left ≡ 0 → Carried n T U (Ok c) b J
  unfolding after_gates records_from
  ends none = record {
    judged_is = sym (ap (λ (m : ℕ). after_gates b place (gates_from n s at m) (set_on c.form (holder c.second T U))) none) ∙ go.comes;
    stands = λ i e. (let same : c ≡ i = cc in subst (λ (z : Image). StandsIn z.second T U z.form b) same go.stands);
    qubits = λ i e. (let same : c ≡ i = cc in subst (λ (z : Image). z.form.n ≡ n) same go.qubits);
  }

  -- what a turn asks
  pub may_turn : 0 < left → (g : Gate) → gate_at n s at ≡ some g
      → StandsIn c.second T U c.form b × (Light g × Fits c.form.n g) × ListsIn cur names room.states 0 × (LentOn T c.form.n room × LentOn U c.form.n room)
  may_turn more g e =
      let r = gate-ready (here go.readable more).1 g e in
      (go.stands, (r.0, subst (λ (m : ℕ). Fits m g) (sym go.qubits) r.1), go.lists, (subst (λ (m : ℕ). LentOn T m room) (sym go.qubits) go.one, subst (λ (m : ℕ). LentOn U m room) (sym go.qubits) go.two))

  module _ (more : 0 < left) (g : Gate) (e : gate_at n s at ≡ some g) where
    abbrev Q : QSet
    Q = set_on c.form (holder c.second T U)

    -- this gate, then those that are left
    unfolded : on_good (judge_gate b place g Q) (after_gates b (place + 1) (gates_from n s (at + gt_size) (left - 1))) ≡ J
    unfolding after_gates
    unfolded =
        let m : left ≡ suc (left - 1) = omega arith in
        let up : place + 1 ≡ suc place = omega arith in
        let gs : gates_from n s at left ≡ g ∷ gates_from n s (at + gt_size) (left - 1) = ap (gates_from n s at) m ∙ gates-next n s at (left - 1) g e in
        ap (λ (p : ℕ). on_good (judge_gate b place g Q) (after_gates b p (gates_from n s (at + gt_size) (left - 1)))) up
        ∙ sym (ap (λ (l : List Gate). after_gates b place l Q) gs) ∙ go.comes

    same-n : (N : QSet) → judge_gate b place g Q ≡ good N → N.n ≡ n
    same-n N j = ap (λ (M : QSet). M.n) (sym (judged-gate b place g Q N j).3) ∙ n_kept g Q ∙ holder-n c.second ∙ go.qubits
      where
        holder-n : (second : Bool) → (set_on c.form (holder second T U)).n ≡ c.form.n
        holder-n second =
            let H = holder second T U in
            set-n c.form H.rows H.masks H.coefs H.counts

    -- a set was made
    pub turned : {T' U' : Table} {cur' : List ℕ} {names' : Names} (f : Form) {d : Image} → judged (Ok f) ≡ seen form_of (judge_gate b place g Q)
        → ((N : QSet) → judge_gate b place g Q ≡ good N → HoldingOn (other c.second T' U') N b) → SameLengths T T' → SameLengths U U'
        → length cur' ≡ length cur → SameNames names names' → d ≡ next_image c f → Going n s room T' U' cur' names' d (left - 1) (at + gt_size) (place + 1) J
    turned {T'} {U'} {cur'} {names'} f is table one two long lists then =
        let m = made-good (judge_gate b place g Q) {x = Ok f} is refl in
        let h = table m.set m.taken in
        let image : record { form = form_of m.set; second = not c.second } ≡ next_image c f = ap (λ (z : Form). record { form = z; second = not c.second }) (sym m.form) in
        subst (λ (z : Image). Going n s room T' U' cur' names' z (left - 1) (at + gt_size) (place + 1) J) (image ∙ sym then)
        (record {
          comes = ap (after_gates b (place + 1) (gates_from n s (at + gt_size) (left - 1))) (set_other T' U' b c.second m.set h)
              ∙ sym (ap (λ (j : Judged QSet). on_good j (after_gates b (place + 1) (gates_from n s (at + gt_size) (left - 1)))) m.taken) ∙ unfolded;
          stands = stands-other T' U' b c.second m.set h;
          qubits = same-n m.set m.taken;
          readable = later go.readable more;
          lists = lists-long long lists go.lists;
          one = lent-long one go.one;
          two = lent-long two go.two;
        })

    -- the gate was refused
    pub turned_down : {T' U' : Table} (r : Refusal) → judged {A = Form} (Err r) ≡ seen form_of (judge_gate b place g Q) → Carried n T' U' (Err r) b J
    turned_down r is = record {
      judged_is = sym (ap (λ (j : Judged QSet). on_good j (after_gates b (place + 1) (gates_from n s (at + gt_size) (left - 1)))) (refused-told (judge_gate b place g Q) {x = Err r} is refl)) ∙ unfolded;
      stands = λ i e. cc;
      qubits = λ i e. cc;
    }
