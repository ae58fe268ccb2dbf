-- Document 01, rule 10, in one pass: what is carried from record to record, and what the next record is held to.
use Rattle.std.specs.Prelude.{Bool, cond, ◌&&◌, ◌||◌, ℕ, suc, eqb, ltb, leb}
use Rattle.std.specs.Int.Bits.{bit_and, bit_or}
use Rattle.automata.specs.Choice.{least}
use Rattle.records.specs.declared.Key.{Key}
use Rattle.order.specs.declared.Run.{Run}

-- "strictly increase by state, then by least choice", and of one state no choice twice
unfoldable pub fits_next : Run → Key → Bool
fits_next r t =
    ltb r.state t.state
    || (eqb r.state t.state && (leb r.next (least t.mask) && eqb (bit_and r.used t.mask) 0))

-- the choices that a record's state has used: those of the last state, where it is the same, and the record's own
abbrev pub used_after : ℕ → ℕ → ℕ → ℕ → ℕ
used_after state used own mask = cond (eqb state own) (bit_or used mask) mask

-- what a record leaves: its state, the least choice that may come next, the choices that its state has used
unfoldable pub run_after : Run → Key → Run
run_after r t = record { state = t.state; next = suc (least t.mask); used = used_after r.state r.used t.state t.mask }
