-- The stored keys of a level, as a gate's construction meets them in a table: each is of states of its level, below 65,536. Assumes nothing.
use mathlib.Core.Path.{◌≡◌, refl, sym, ap, ◌∙◌, subst}
use mathlib.Core.List.{List, [], ◌∷◌, map}
use Prim.Native.Nat.{ℕ, suc, ◌+◌, ◌<◌, ◌≤◌}
use native.Mathlib.Omega.{arith}
use lib.Dec.{eqb}
use lib.IntN.{ℤ}
use Rattle.automata.specs.Sets.{QSet, sum, roots, automaton_of}
use Rattle.automata.proofs.Lists.{Each}
use Rattle.stored.specs.Rules.{Bounds, level_of}
use Rattle.stored.proofs.WellFormed.{WellFormed, state_small}
use Rattle.gates.specs.Gate.{Gate}
use Rattle.gates.specs.Key.{L, R, Key, plain, shifted, inside, pair, radix, stored, same_key}
use Rattle.gates.specs.Roles.{keyed}
use Rattle.gates.specs.Numbering.{mention_all}
use Rattle.gates.specs.Build.{root_keys}
use Rattle.tables.specs.Table.{Holds}
use Rattle.lookup.specs.Alts.{table_automaton}
use Rattle.lookup.proofs.AltsLaws.{inner_alts, leaf_alts_lem}
use Rattle.stepwise.specs.Code.{KeyOf, coded}
use Rattle.stepwise.proofs.CodeLaws.{digits}
use Rattle.stepwise.proofs.StoredLaws.{Light, Numbers, OnLevel, set-down, roots_on, next-stored}

-- stored keys of states of level i
pub record StatesOf (Q : QSet) (i : ℕ) (xs : List ℕ) : Type 0 where
  pub keys : List Key
  pub are : xs ≡ map stored keys
  pub each : Each (Numbers (OnLevel Q i)) keys

module _ {b : Bounds} (few : b.states < radix) {Q : QSet} (w : WellFormed b Q) where
  pub root_states : StatesOf Q 1 (map stored (root_keys Q))
  root_states = record { keys = root_keys Q; are = refl; each = roots_on b few Q w 0 (roots Q) (omega arith) }

  key_of : (i : ℕ) → i ≤ suc Q.n → (x : Key) → Numbers (OnLevel Q i) x → KeyOf (sum Q.counts) (stored x)
  key_of i l (plain q) h =
      let d = digits 0 q 0 h.1 (omega arith) in
      let s = state_small b Q w q (omega (arith, h.0)) in
      record { tag = omega (arith, d.0); first = omega (arith, d.1); second = omega (arith, d.2) }
  key_of i l (inside q) h =
      let d = digits 1 q 0 h.1 (omega arith) in
      let s = state_small b Q w q (omega (arith, h.0)) in
      record { tag = omega (arith, d.0); first = omega (arith, d.1); second = omega (arith, d.2) }
  key_of i l (shifted j q) h =
      let d = digits (4 + j) q 0 h.0.1 (omega arith) in
      let s = state_small b Q w q (omega (arith, h.0.0)) in
      record { tag = omega (arith, d.0, h.1); first = omega (arith, d.1); second = omega (arith, d.2) }
  key_of i l (pair q p L) h =
      let d = digits 2 q p h.0.1 h.1.1 in
      let s = state_small b Q w q (omega (arith, h.0.0)) in
      let t = state_small b Q w p (omega (arith, h.1.0)) in
      record { tag = omega (arith, d.0); first = omega (arith, d.1); second = omega (arith, d.2) }
  key_of i l (pair q p R) h =
      let d = digits 3 q p h.0.1 h.1.1 in
      let s = state_small b Q w q (omega (arith, h.0.0)) in
      let t = state_small b Q w p (omega (arith, h.1.0)) in
      record { tag = omega (arith, d.0); first = omega (arith, d.1); second = omega (arith, d.2) }

  keys_of : (i : ℕ) → i ≤ suc Q.n → (ks : List Key) → Each (Numbers (OnLevel Q i)) ks → Each (KeyOf (sum Q.counts)) (map stored ks)
  keys_of i l [] h = tt
  keys_of i l (k ∷ ks) h = (key_of i l k h.0, keys_of i l ks h.1)

  -- what a walk over a level's keys asks of them
  pub states-keys : (i : ℕ) → i ≤ suc Q.n → (xs : List ℕ) → StatesOf Q i xs → Each (KeyOf (sum Q.counts)) xs
  states-keys i l xs s = subst (Each (KeyOf (sum Q.counts))) (sym s.are) (keys_of i l s.keys s.each)

  -- the keys that a level's records mention are of the next level
  pub next-states : {rows masks : List ℕ} {coefs : List ℤ} {counts first : List ℕ} → Holds rows masks coefs counts first Q → (g : Gate) → Light g
      → (i : ℕ) → i ≤ Q.n → (xs : List ℕ) → StatesOf Q i xs → StatesOf Q (suc i) (mention_all eqb ((coded g (table_automaton rows masks coefs first)).moves i) [] xs)
  next-states {rows} {masks} {coefs} {counts} {first} h g light i l xs s =
      let T = table_automaton rows masks coefs first in
      let n =
      next-stored (automaton_of Q) T g light (OnLevel Q) (suc Q.n) (λ j q on. on.1)
      (λ j q m on. let at : level_of Q q ≤ Q.n = omega (arith, on.0) in sym (inner_alts w h q at)) (λ q on. sym (leaf_alts_lem w h q on.0)) (set-down b few Q w) i s.keys (omega arith) s.each in
      record { keys = mention_all same_key ((keyed g (automaton_of Q)).moves i) [] s.keys; are = ap (mention_all eqb ((coded g T).moves i) []) s.are ∙ n.0; each = n.1 }
