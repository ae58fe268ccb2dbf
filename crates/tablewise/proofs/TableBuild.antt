-- What a gate builds over stored keys from the slices that hold a well-formed set is what it builds from the set: on each level a state's rows are
-- its records. Assumes nothing.
use mathlib.Core.Path.{◌≡◌, sym}
use mathlib.Core.List.{List, map}
use Prim.Native.Nat.{ℕ, ◌<◌, ◌≤◌}
use native.Mathlib.Omega.{arith}
use lib.Dec.{eqb}
use lib.IntN.{ℤ}
use Rattle.automata.specs.Sets.{QSet}
use Rattle.stored.specs.Rules.{Bounds, level_of}
use Rattle.stored.proofs.WellFormed.{WellFormed}
use Rattle.gates.specs.Gate.{Gate}
use Rattle.gates.specs.Key.{radix, stored}
use Rattle.gates.specs.Numbering.{number}
use Rattle.gates.specs.Build.{root_keys, build_of}
use Rattle.tables.specs.Table.{Holds}
use Rattle.lookup.specs.Alts.{table_automaton}
use Rattle.lookup.proofs.AltsLaws.{inner_alts, leaf_alts_lem}
use Rattle.stepwise.specs.Code.{coded}
use Rattle.stepwise.proofs.StoredLaws.{Light, build_stored}

pub build_table : (b : Bounds) → b.states < radix → (Q : QSet) (w : WellFormed b Q) (rows masks : List ℕ) (coefs : List ℤ) (counts first : List ℕ) → Holds rows masks coefs counts first Q
    → (g : Gate) → Light g → number eqb (coded g (table_automaton rows masks coefs first)) 1 Q.n 0 (map stored (root_keys Q)) ≡ build_of g Q
build_table b few Q w rows masks coefs counts first h g light =
    build_stored b few Q w (table_automaton rows masks coefs first)
    (λ i q l on. let at : level_of Q q ≤ Q.n = omega (arith, on.0) in sym (inner_alts w h q at)) (λ q on. sym (leaf_alts_lem w h q on.0)) g light
