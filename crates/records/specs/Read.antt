-- Document 01, "Stored form": the code's records, and which records of the definitions they are.
use Rattle.std.specs.Prelude.{List, ℕ, ◌+◌}
use Rattle.amplitude.specs.Amp.{Amp, amp}
use Rattle.amplitude.specs.Leaf.{leaf}
use Rattle.automata.specs.Sets.{TR, tr, LF, Rec, rec}
use Rattle.stored.specs.Fields.{u16_at, u32_at, i32_at}
use Rattle.records.specs.declared.Key.{Key}
use Rattle.records.specs.declared.Tr.{Tr}
use Rattle.records.specs.declared.Lf.{Lf}

-- ---- which record of the definitions it is
abbrev pub tr_of : Tr → TR
tr_of t = tr t.state t.mask t.left t.right

abbrev pub amp_of : Lf → Amp
amp_of l = amp l.a l.b l.c l.d

-- at the set's k
abbrev pub lf_of : ℕ → Lf → LF
lf_of k l = rec l.state l.mask (leaf k (amp_of l))

-- a record with nothing but its state and its mask
abbrev pub bare : Key → Rec (Unit {0})
bare t = rec t.state t.mask tt

-- ---- what stands at a place
-- "state (2), mask (4)"
unfoldable pub key_read : List ℕ → ℕ → Key
key_read s at = record { state = u16_at s (at + 2); mask = u32_at s (at + 4) }

-- TR: "state (2), mask (4), left (2), right (2)"
unfoldable pub tr_read : List ℕ → ℕ → Tr
tr_read s at = record { state = u16_at s (at + 2); mask = u32_at s (at + 4); left = u16_at s (at + 8); right = u16_at s (at + 10) }

-- LF: "state (2), mask (4), a, b, c, d (4 each)"
unfoldable pub lf_read : List ℕ → ℕ → Lf
lf_read s at = record {
  state = u16_at s (at + 2);
  mask = u32_at s (at + 4);
  a = i32_at s (at + 8);
  b = i32_at s (at + 12);
  c = i32_at s (at + 16);
  d = i32_at s (at + 20);
}
