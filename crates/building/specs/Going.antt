-- What building a level asks: the table of the old set, the stored keys of the level's states, and slices with room for what may still be written.
use Rattle.std.specs.Prelude.{◌≡◌, List, ℕ, suc, ◌+◌, ◌*◌, ◌<◌, ◌≤◌, ℤ, length, take}
use Rattle.automata.specs.Sets.{QSet, sum}
use Rattle.stored.specs.Rules.{Bounds}
use Rattle.stored.proofs.WellFormed.{WellFormed}
use Rattle.gates.specs.Gate.{Gate}
use Rattle.gates.specs.Key.{radix}
use Rattle.tables.specs.Table.{row_width, leaf_width}
use Rattle.tables.specs.Slices.{Table, table_of, RoomyOn, UnpackedOn}
use Rattle.names.specs.declared.Names.{Names}
use Rattle.stepwise.proofs.StoredLaws.{Light}
use Rattle.tablewise.proofs.TableKeys.{StatesOf}
use Rattle.building.specs.declared.Room.{Room}
use Rattle.building.specs.Whole.{Wide}

-- the table with other counts of states
abbrev pub with_counts : Table → List ℕ → Table
with_counts T counts = table_of T.rows T.masks T.coefs counts T.first

-- the table holds a well-formed set, at k, with some counts of states: its own slice of them is not read
pub record Old (T : Table) (k : ℕ) : Type 0 where
  pub set : QSet
  pub bounds : Bounds
  pub few : bounds.states < radix
  pub formed : WellFormed bounds set
  pub counts : List ℕ
  pub unpacked : UnpackedOn (with_counts T counts) set
  pub roomy : RoomyOn (with_counts T counts) set.n (sum set.counts) (length set.inner) (length set.leaves)
  pub scale : k ≡ set.k

-- lists of keys and chains with room for so many states and two more, whose numbers from `start` on fit 16 bits
pub record Lists (cur next link heads : List ℕ) (states start : ℕ) : Type 0 where
  pub here : states + 2 ≤ length cur
  pub there : states + 2 ≤ length next
  pub links : states + 2 ≤ length link
  pub buckets : 0 < length heads
  pub small : start + states + 2 < 65536

-- the same, of the struct that lends keys and chains
abbrev pub ListsIn : List ℕ → Names → ℕ → ℕ → Type 0
ListsIn cur n states start = Lists cur n.keys.now n.link.now n.heads.now states start

-- the first `count` keys are those of this level, and `left` levels of qubits are still to come
pub record Going (T : Table) (k : ℕ) (g : Gate) (level left : ℕ) (cur : List ℕ) (count : ℕ) : Type 0 where
  pub table : Old T k
  pub light : Light g
  pub levels : level + left ≡ suc table.set.n
  pub keys : StatesOf table.set level (take count cur)

-- the slices that are written
pub record Rest (rows masks : List ℕ) (coefs : List ℤ) (counts : List ℕ) (left count : ℕ) (room : Room) : Type 0 where
  pub wide : Wide rows masks coefs room
  pub counted : left + 1 ≤ length counts
  pub few : count ≤ room.states

-- the same past w rows and one count
pub record Past (rows masks : List ℕ) (coefs : List ℤ) (counts : List ℕ) (left count w : ℕ) (room : Room) : Type 0 where
  pub wide : (w + room.inner + room.leaves) * row_width ≤ length rows
  pub long : w + room.inner + room.leaves ≤ length masks
  pub deep : room.leaves * leaf_width ≤ length coefs
  pub counted : left + 2 ≤ length counts
  pub few : count ≤ room.states
