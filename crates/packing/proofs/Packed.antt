-- What is packed reads back: the front of the output is the file of the set, and a well-formed set's file is judged good, as that set.
-- Assumes nothing.
use mathlib.Core.Path.{◌≡◌, sym, ap, ◌∙◌}
use mathlib.Core.List.{List}
use Prim.Native.Nat.{ℕ}
use lib.ListN.{length, take, drop}
use lib.Seq.{take_at}
use Rattle.automata.specs.Sets.{QSet}
use Rattle.stored.specs.Refusal.{good}
use Rattle.stored.specs.Rules.{Bounds}
use Rattle.stored.specs.Judge.{judge_set}
use Rattle.stored.specs.Pack.{file_of}
use Rattle.stored.proofs.WellFormed.{Narrow, WellFormed}
use Rattle.stored.proofs.ReadBack.{read_back}
use Rattle.putting.specs.Front.{at_front}

pub packed_reads : (b : Bounds) → Narrow b → (Q : QSet) → WellFormed b Q → (source : ℕ) (entry : List ℕ) {exit : List ℕ} {r : ℕ}
    → r ≡ length (file_of Q) → exit ≡ at_front (file_of Q) entry → judge_set b source (take r exit) ≡ good Q
packed_reads b narrow Q w source entry {exit} {r} long is =
    let front : take r exit ≡ file_of Q = rw is (take_at (file_of Q) (drop (length (file_of Q)) entry) r (sym long)) in
    ap (judge_set b source) front ∙ read_back b narrow Q w source
