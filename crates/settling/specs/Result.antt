-- Document 01, "Replies" 14 to 16: how what building left of a gate's set is judged.
use Rattle.std.specs.Prelude.{Bool, not, ℕ, Option, Some, None, Result, Ok, Err}
use Rattle.stored.specs.Refusal.{Judged, refused, good, need, refusal, circuit_source}
use Rattle.stored.specs.Rules.{Bounds}
use Rattle.gates.specs.Gate.{Kind}
use Rattle.gates.specs.Gate as gate
use Rattle.gates.specs.Build.{growth}
use Rattle.refusals.specs.declared.Refusal.{Refusal}
use Rattle.setfile.specs.declared.Form.{Form}
use Rattle.building.specs.declared.Room.{Room}
use Rattle.building.specs.declared.Outcome.{Outcome}
use Rattle.settling.specs.declared.Image.{Image}

-- what the code says of the levels that were built, with n qubits and k
abbrev pub made_of : ℕ → ℕ → Outcome → Form
made_of n k r = record { n = n; k = k; states = r.states; inner = r.inner; leaves = r.leaves }

-- what may be written, as bounds of a set
abbrev pub bounds_from : Room → Bounds
bounds_from room = record { states = room.states; inner = room.inner; leaves = room.leaves }

-- a kind's growth of k, on any qubit
abbrev pub kind_growth : Kind → ℕ
kind_growth k = growth (gate.plain k 1)

-- 14 where building left nothing, then 16
abbrev pub sized : Option Outcome → ℕ → ℕ → ℕ → Judged Form
sized None place n k = refused (refusal 14 circuit_source place)
sized (Some r) place n k = need r.fits (refusal 16 circuit_source place) (good (made_of n k r))

-- "gate by gate 15, 14, 16": whether k, the sizes and the leaves are within their bounds
abbrev pub picked : Bool → Option Outcome → ℕ → ℕ → ℕ → Judged Form
picked small built place n k = need small (refusal 15 circuit_source place) (sized built place n k)

-- the same order over the three tests alone
abbrev pub ordered : Bool → Bool → Bool → ℕ → Judged Unit
ordered k sizes leaves place =
    need k (refusal 15 circuit_source place)
    (need sizes (refusal 14 circuit_source place)
    (need leaves (refusal 16 circuit_source place) (good tt)))

-- the set after a gate: in the other table
abbrev pub next_image : Image → Form → Image
next_image i f = record { form = f; second = not i.second }

-- what a gate's answer makes of the image so far
abbrev pub next_of : Image → Result Form Refusal → Result Image Refusal
next_of i (Ok f) = Ok (next_image i f)
next_of i (Err r) = Err r
