-- From one level to the next: what a level's walk asks is there, and it leaves what the next one asks. Assumes nothing.
use mathlib.Core.Path.{◌≡◌, sym, subst}
use mathlib.Core.List.{List, [], ◌∷◌, map}
use Prim.Native.Nat.{ℕ, zero, suc, ◌+◌, ◌-◌, ◌<◌, ◌≤◌}
use native.Mathlib.Omega.{arith}
use lib.IntN.{ℤ}
use lib.ListN.{length, get_or, take}
use lib.Seq.{get_or-take, length-take-le}
use Rattle.automata.specs.Sets.{sum}
use Rattle.automata.proofs.Lists.{Each}
use Rattle.tables.specs.Slices.{Table}
use Rattle.gates.specs.Gate.{Gate}
use Rattle.gates.specs.Key.{L, R, Key, plain, shifted, inside, pair, stored}
use Rattle.stepwise.specs.Code.{tag_in, first_in, second_in, KeyOf}
use Rattle.stepwise.proofs.CodeLaws.{digits}
use Rattle.stepwise.proofs.StoredLaws.{Numbers, OnLevel}
use Rattle.lookup.proofs.Finding.{state_rows-there}
use Rattle.tablewise.proofs.TableSource.{rows-masked, rows-disjoint}
use Rattle.tablewise.proofs.TableKeys.{states-keys}
use Rattle.moving.specs.Moves.{Source}
use Rattle.leveling.specs.Keyed.{Keyed}
use Rattle.leveling.proofs.States.{key-rows}
use Rattle.ending.specs.Source.{LeafState, LeafKey}
use Rattle.building.specs.declared.Room.{Room}
use Rattle.building.specs.Fresh.{Fresh}
use Rattle.building.specs.Going.{Old, Lists, Going, Rest}
use Rattle.oldleaves.proofs.OldLeaves.{rows-rise, leaf_state}

module _ {T : Table} {k : ℕ} (t : Old T k) where
  -- an T.rows state's rows, as the levels of qubits are read
  pub old_source : Source T.rows T.masks T.first (sum t.set.counts)
  old_source =
      record {
        first_there = omega (arith, t.roomy.begins);
        rises = λ q lt. rows-rise t.formed t.unpacked t.roomy q (omega arith);
        rows_there = λ q lt. omega (arith, state_rows-there t.formed t.unpacked.holds q 0 (omega arith), t.roomy.table.wide);
        masks_there = λ q lt. omega (arith, state_rows-there t.formed t.unpacked.holds q 0 (omega arith), t.roomy.table.long);
        masked = λ q lt. rows-masked t.formed t.unpacked.holds q (omega arith);
        disjoint = λ q lt. rows-disjoint t.formed t.unpacked.holds q (omega arith);
      }

  -- and as the leaf level is
  abbrev Ends : ℕ → Type 0
  Ends q = LeafState T.rows T.masks T.coefs T.first k q

  old_leaf : (q : ℕ) → OnLevel t.set (suc t.set.n) q → Ends q
  old_leaf q on = subst (λ (j : ℕ). LeafState T.rows T.masks T.coefs T.first j q) (sym t.scale) (leaf_state t.formed t.unpacked t.roomy q on.0)

  one_end : (tag q : ℕ) → tag < 260 → (1 < tag → tag < 4 → ⊥) → OnLevel t.set (suc t.set.n) q → (x : ℕ) → tag_in x ≡ tag → first_in x ≡ q → LeafKey T.rows T.masks T.coefs T.first k x
  one_end tag q few single on x a b = record {
    tag = omega (arith, a);
    one = subst Ends (sym b) (old_leaf q on);
    two = λ lo hi. absurd (single (omega (arith, a)) (omega (arith, a)));
  }

  two_ends : (tag q p : ℕ) → tag < 260 → OnLevel t.set (suc t.set.n) q → OnLevel t.set (suc t.set.n) p → (x : ℕ) → tag_in x ≡ tag → first_in x ≡ q → second_in x ≡ p
      → LeafKey T.rows T.masks T.coefs T.first k x
  two_ends tag q p few on in' x a b c = record { tag = omega (arith, a); one = subst Ends (sym b) (old_leaf q on); two = λ lo hi. subst Ends (sym c) (old_leaf p in') }

  leaf_key : (x : Key) → Numbers (OnLevel t.set (suc t.set.n)) x → LeafKey T.rows T.masks T.coefs T.first k (stored x)
  leaf_key (plain q) h =
      let d = digits 0 q 0 h.1 (omega arith) in
      one_end 0 q (omega arith) (λ lo hi. omega arith) h (stored (plain q)) d.0 d.1
  leaf_key (inside q) h =
      let d = digits 1 q 0 h.1 (omega arith) in
      one_end 1 q (omega arith) (λ lo hi. omega arith) h (stored (inside q)) d.0 d.1
  leaf_key (shifted j q) h =
      let d = digits (4 + j) q 0 h.0.1 (omega arith) in
      one_end (4 + j) q (omega (arith, h.1)) (λ lo hi. omega arith) h.0 (stored (shifted j q)) d.0 d.1
  leaf_key (pair q p L) h =
      let d = digits 2 q p h.0.1 h.1.1 in
      two_ends 2 q p (omega arith) h.0 h.1 (stored (pair q p L)) d.0 d.1 d.2
  leaf_key (pair q p R) h =
      let d = digits 3 q p h.0.1 h.1.1 in
      two_ends 3 q p (omega arith) h.0 h.1 (stored (pair q p R)) d.0 d.1 d.2

  leaf-each : (ks : List Key) → Each (Numbers (OnLevel t.set (suc t.set.n))) ks → Each (LeafKey T.rows T.masks T.coefs T.first k) (map stored ks)
  leaf-each [] h = tt
  leaf-each (x ∷ ks) h = (leaf_key x h.0, leaf-each ks h.1)

each_at : (P : ℕ → Type 0) (xs : List ℕ) (i : ℕ) → Each P xs → i < length xs → P (get_or xs i 0)
each_at P [] i h lt = absurd (omega arith)
each_at P (x ∷ xs) zero h lt = h.0
each_at P (x ∷ xs) (suc i) h lt = each_at P xs i h.1 (omega arith)

-- a fact of the first `count` cells, cell by cell
each-front : (P : ℕ → Type 0) (cur : List ℕ) (count : ℕ) → count ≤ length cur → Each P (take count cur) → (i : ℕ) → i < count → P (get_or cur i 0)
each-front P cur count le h i lt = subst P (get_or-take count cur i 0 lt) (each_at P (take count cur) i h (omega (arith, length-take-le count cur le)))

module _ {T : Table} {k : ℕ} {g : Gate} {level left : ℕ} {cur : List ℕ} {count : ℕ} (go : Going T k g level left cur count) where
  pub keyed : {next link heads : List ℕ} {most start : ℕ} → Lists cur next link heads most start → count ≤ most → 0 < left → Keyed T cur count start
  keyed l few some =
      let t = go.table in
      let there : count ≤ length cur = omega (arith, l.here) in
      record {
        there = there;
        each =
            λ j lt.
            key-rows (old_source t) (get_or cur j 0)
            (each-front (KeyOf (sum t.set.counts)) cur count there (states-keys t.few t.formed level (omega (arith, go.levels)) (take count cur) go.keys) j lt);
        numbers = omega (arith, l.small);
      }

  pub leaf-keys : count ≤ length cur → left ≡ 0 → (i : ℕ) → i < count → LeafKey T.rows T.masks T.coefs T.first k (get_or cur i 0)
  leaf-keys there none i lt =
      let t = go.table in
      let last : level ≡ suc t.set.n = omega (arith, go.levels) in
      let e = subst (λ (j : ℕ). Each (Numbers (OnLevel t.set j)) go.keys.keys) last go.keys.each in
      each-front (LeafKey T.rows T.masks T.coefs T.first k) cur count there (subst (Each (LeafKey T.rows T.masks T.coefs T.first k)) (sym go.keys.are) (leaf-each t go.keys.keys e)) i lt

pub fresh : {cur next link heads rows masks : List ℕ} {coefs : List ℤ} {counts : List ℕ} {left count start : ℕ} {room : Room} → Lists cur next link heads room.states start
    → Rest rows masks coefs counts left count room → Fresh rows masks next link heads (record { rows = room.inner; keys = room.states - count; base = start + count })
fresh l r = record {
  wide = omega (arith, r.wide.wide);
  long = omega (arith, r.wide.long);
  room = omega (arith, l.there);
  links = omega (arith, l.links);
  small = omega (arith, l.small, r.few);
  buckets = l.buckets;
}
