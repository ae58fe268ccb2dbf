-- The roots' keys, one after the other: what is stored at each place is the key of the root of that number. Assumes nothing.
use mathlib.Core.Path.{◌≡◌, refl, ap, ◌∙◌}
use mathlib.Core.List.{List, ◌∷◌, map}
use Prim.Native.Nat.{ℕ, zero, suc, ◌+◌, ◌*◌, ◌<◌, ◌≤◌}
use native.Mathlib.Omega.{arith}
use lib.ListN.{length, get_or, take}
use Rattle.automata.specs.Members.{up_to}
use Rattle.stored.specs.Fields.{records_from}
use Rattle.gates.specs.Key.{plain, stored}
use Rattle.tables.proofs.Listed.{take-records}

roots_read : (i count : ℕ) → records_from (λ (j : ℕ). stored (plain j)) i 1 count ≡ map stored (map plain (up_to i count))
unfolding records_from
roots_read i zero = refl
roots_read i (suc count) =
    let e : i + 1 ≡ suc i = omega arith in
    ap (λ (ks : List ℕ). stored (plain i) ∷ ks) (ap (λ (j : ℕ). records_from (λ (q : ℕ). stored (plain q)) j 1 count) e ∙ roots_read (suc i) count)

pub roots-there : (cur : List ℕ) (count : ℕ) → count ≤ length cur → ((i : ℕ) → i < count → get_or cur i 0 ≡ stored (plain i)) → take count cur ≡ map stored (map plain (up_to 0 count))
roots-there cur count room h =
    take-records cur (λ (j : ℕ). stored (plain j)) 0 1 count room
    (λ i lt. h i lt ∙ (let e : i ≡ 0 + i * 1 = omega arith in ap (λ (j : ℕ). stored (plain j)) e)) ∙ roots_read 0 count
