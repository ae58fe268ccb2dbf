-- The definitions' roles, sides and keys as the code has them.
use Rattle.std.specs.Prelude.{ℕ, ◌-◌, ◌%◌, cond, eqb}
use Rattle.gates.specs.Gate as gate
use Rattle.gates.specs.Key as key
use Rattle.gates.specs.Key.{stored}
use Rattle.gates.specs.Roles as def
use Rattle.gates.specs.Roles.{Two, pass, begin, cross, act, within}
use Rattle.circuits.specs.Answer.{kind_from, kind_is}
use Rattle.roles.specs.declared.Role.{Role}
use Rattle.roles.specs.declared.Role.TheVariants as as-role
use Rattle.roles.specs.declared.Side.{Side}
use Rattle.roles.specs.declared.Side.TheVariants as as-side
use Rattle.roles.specs.declared.Single.{Single}
use Rattle.roles.specs.declared.Single.TheVariants as as-single
use Rattle.roles.specs.declared.Key.{Key}
use Rattle.roles.specs.declared.Key.TheVariants as as-key
use Rattle.roles.specs.declared.Kids.{Kids}

abbrev pub role_from : def.Role → Role
role_from pass = as-role.Pass
role_from begin = as-role.Begin
role_from cross = as-role.Cross
role_from (act k) = as-role.Act (kind_from k)
role_from (within k) = as-role.Within (kind_from k)

abbrev pub role_is : Role → def.Role
role_is as-role.Pass = pass
role_is as-role.Begin = begin
role_is as-role.Cross = cross
role_is (as-role.Act k) = act (kind_is k)
role_is (as-role.Within k) = within (kind_is k)

abbrev pub side_is : Side → key.Side
side_is as-side.L = key.L
side_is as-side.R = key.R

abbrev pub key_is : Key → key.Key
key_is (as-key.One as-single.Plain q) = key.plain q
key_is (as-key.One as-single.Inside q) = key.inside q
key_is (as-key.One (as-single.Shifted j) q) = key.shifted j q
key_is (as-key.Pair s q p) = key.pair q p (side_is s)

-- the role of a gate with no control, and of a controlled one
abbrev pub role_alone : gate.Kind → ℕ → ℕ → def.Role
role_alone k t level = def.role (gate.plain k t) level

abbrev pub role_under : ℕ → gate.Kind → ℕ → ℕ → def.Role
role_under c k t level = def.role (gate.controlled c k t) level

-- both children's stored keys
abbrev pub kids_of : Two → Kids
kids_of p = record { left = stored p.0; right = stored p.1 }

-- the j of a shifted state, or 0
abbrev pub shift_in : Single → ℕ
shift_in as-single.Plain = 0
shift_in as-single.Inside = 0
shift_in (as-single.Shifted j) = j

-- what the tag of a stored key that is no pair says, for every number
abbrev pub single_of : ℕ → Single
single_of tag = cond (eqb tag 0) as-single.Plain (cond (eqb tag 1) as-single.Inside (as-single.Shifted ((tag - 4) % 256)))

-- the children of a state that is no pair
abbrev pub single_kids : def.Role → Single → ℕ × ℕ → Two
single_kids o as-single.Plain p = def.plain_kids o p
single_kids o as-single.Inside p = def.inside_kids o p
single_kids o (as-single.Shifted j) p = (key.shifted j p.0, key.shifted j p.1)

-- a key whose old states all have a property
abbrev pub OfStates : (ℕ → Type 0) → key.Key → Type 0
OfStates P (key.plain q) = P q
OfStates P (key.shifted j q) = P q
OfStates P (key.inside q) = P q
OfStates P (key.pair q p s) = P q × P p
