-- A set that stands in slices is what building asks of the old set, and its roots' keys are those of level 1. Assumes nothing.
use mathlib.Core.Path.{◌≡◌, refl, sym, ap, ◌∙◌, subst}
use mathlib.Core.List.{List, [], ◌∷◌, map}
use Prim.Native.Nat.{ℕ, suc, ◌+◌, ◌<◌, ◌≤◌}
use native.Mathlib.Omega.{arith}
use lib.IntN.{ℤ}
use lib.ListN.{length, get_or, take}
use Rattle.automata.specs.Sets.{QSet, sum, roots_in, roots}
use Rattle.automata.specs.Members.{up_to}
use Rattle.stored.specs.Rules.{Bounds}
use Rattle.gates.specs.Gate.{Gate}
use Rattle.gates.specs.Key.{radix, plain, stored}
use Rattle.gates.specs.Build.{root_keys}
use Rattle.setfile.specs.declared.Form.{Form}
use Rattle.tables.specs.Table.{table_set}
use Rattle.tables.specs.Ready.{Roomy}
use Rattle.tables.specs.Slices.{Table}
use Rattle.stepwise.proofs.StoredLaws.{Light}
use Rattle.tablewise.proofs.TableKeys.{StatesOf, root_states}
use Rattle.building.specs.Going.{Old, Going}
use Rattle.standing.proofs.StandingLaws.{set-n, set-k, set-inner, set-leaves}
use Rattle.standing.specs.Standing.{set_in, Stands}

-- ---- the numbers of a set in slices
module _ (f : Form) (rows masks : List ℕ) (coefs : List ℤ) (counts : List ℕ) where
  first_root : (cs : List ℕ) → roots_in (take (f.n + 1) cs) ≡ get_or cs 0 0
  first_root [] = let e : f.n + 1 ≡ suc f.n = omega arith in ap (λ (m : ℕ). roots_in (take m [])) e
  first_root (c ∷ cs) = let e : f.n + 1 ≡ suc f.n = omega arith in ap (λ (m : ℕ). roots_in (take m (c ∷ cs))) e

  pub set-roots : roots (set_in f rows masks coefs counts) ≡ get_or counts 0 0
  unfolding table_set
  set-roots = first_root counts

-- roots are states
pub roots-among : (cs : List ℕ) → roots_in cs ≤ sum cs
roots-among [] = omega arith
roots-among (c ∷ cs) = omega arith

-- ---- what building asks
module _ {rows masks : List ℕ} {coefs : List ℤ} {counts first : List ℕ} {form : Form} {b : Bounds} (few : b.states < radix) (s : Stands rows masks coefs counts first form b) where
  abbrev Q : QSet
  Q = set_in form rows masks coefs counts

  roomy : Roomy rows masks coefs counts first Q.n (sum Q.counts) (length Q.inner) (length Q.leaves)
  roomy =
      rw (set-n form rows masks coefs counts, sym s.all, set-inner form rows masks coefs counts, set-leaves form rows masks coefs counts) s.roomy

  abbrev T : Table
  T = record { rows = rows; masks = masks; coefs = coefs; counts = counts; first = first }

  pub old_table : Old T form.k
  old_table = record {
    set = Q;
    bounds = b;
    few = few;
    formed = s.formed;
    counts = counts;
    unpacked = s.unpacked;
    roomy = roomy;
    scale = sym (set-k form rows masks coefs counts);
  }

  -- the counts are those of the table itself
  pub old_counts : old_table.counts ≡ counts
  unfolding old_table
  old_counts = refl

  pub root_count : get_or counts 0 0 ≤ b.states
  root_count = omega (arith, set-roots form rows masks coefs counts, roots-among Q.counts, s.formed.states)

  -- the keys that `put_roots` puts
  pub root_keys_lem : map stored (map plain (up_to 0 (get_or counts 0 0))) ≡ map stored (root_keys Q)
  root_keys_lem = ap (λ (m : ℕ). map stored (map plain (up_to 0 m))) (sym (set-roots form rows masks coefs counts))

  pub set_going : {g : Gate} {cur : List ℕ} → Light g → take (get_or counts 0 0) cur ≡ map stored (map plain (up_to 0 (get_or counts 0 0)))
      → Going T form.k g 1 form.n cur (get_or counts 0 0)
  unfolding old_table
  set_going {g} {cur} light are = record {
    table = old_table;
    light = light;
    levels = omega (arith, set-n form rows masks coefs counts);
    keys = subst (StatesOf Q 1) (sym (are ∙ root_keys_lem)) (root_states few s.formed);
  }

  pub set_table : (g : Gate) (cur : List ℕ) (light : Light g) (are : take (get_or counts 0 0) cur ≡ map stored (map plain (up_to 0 (get_or counts 0 0))))
      → (set_going light are).table ≡ old_table
  unfolding set_going
  set_table g cur light are = refl
