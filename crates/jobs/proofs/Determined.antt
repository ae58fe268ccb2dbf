-- Any two outcomes that a job's contract allows are equal, buffers included: each contract gives every part by an equation. Assumes nothing.
use mathlib.Core.Path.{◌≡◌, sym, ◌∙◌}
use mathlib.Core.List.{List, [], ◌∷◌}
use Prim.Native.Nat.{ℕ}
use Rattle.jobs.specs.Reply.{Reply}
use Rattle.jobs.specs.Buffers.{Buffer, unsigned}
use Rattle.jobs.specs.OneGate.{one_gate_reply, one_gate_output}
use Rattle.jobs.specs.Check.{check_reply, check_work}
use Rattle.jobs.specs.Entry.{check_entry, check_entry_number, one_gate_entry, one_gate_entry_number, one_gate_entry_output}
use Rattle.jobs.specs.Program.{printed}

-- what a job leaves: what it returns, and every lent buffer
pub record Left (R : Type 0) : Type 0 where
  pub returned : R
  pub lent : List Buffer

abbrev left : {R : Type 0} → R → List Buffer → Left R
left r l = record { returned = r; lent = l }

-- a contract: the returned value is this one, and the lent buffers are those
pub record Allows {R : Type 0} (want o : Left R) : Type 0 where
  pub value : o.returned ≡ want.returned
  pub buffers : o.lent ≡ want.lent

pub determined : {R : Type 0} {want o o' : Left R} → Allows want o → Allows want o' → o ≡ o'
determined {R} {want} {o} {o'} h k = λ i. record { returned = (h.value ∙ sym k.value) i; lent = (h.buffers ∙ sym k.buffers) i }

-- ---- the contracts of both jobs, of both C entries and of the program
abbrev pub check_left : List ℕ → List ℕ → List ℕ → List ℕ → ℕ → List Buffer → Left Reply
check_left sizes s c e b work = left (check_reply sizes s c e b work) (check_work sizes work)

abbrev pub one_gate_left : List ℕ → List ℕ → List ℕ → Left Reply
one_gate_left s c output = left (one_gate_reply s c output) (unsigned (one_gate_output s c output) ∷ [])

abbrev pub check_entry_left : List ℕ → List ℕ → List ℕ → ℕ → List ℕ → Left ℕ
check_entry_left s c e b lent = left (check_entry_number s c e b lent) (unsigned (check_entry s c e b lent) ∷ [])

abbrev pub one_gate_entry_left : List ℕ → List ℕ → List ℕ → List ℕ → Left ℕ
one_gate_entry_left s c output lent = left (one_gate_entry_number s c output lent) (unsigned (one_gate_entry_output s c output lent) ∷ unsigned (one_gate_entry s c output lent) ∷ [])

abbrev pub program_left : List ℕ → Left (List ℕ)
program_left input = left (printed input) []

pub check_determined : (sizes s c e : List ℕ) (b : ℕ) (work : List Buffer) (o o' : Left Reply)
    → Allows (check_left sizes s c e b work) o → Allows (check_left sizes s c e b work) o' → o ≡ o'
check_determined sizes s c e b work o o' = determined

pub one-gate_determined : (s c output : List ℕ) (o o' : Left Reply) → Allows (one_gate_left s c output) o → Allows (one_gate_left s c output) o' → o ≡ o'
one-gate_determined s c output o o' = determined

pub check_entry_determined : (s c e : List ℕ) (b : ℕ) (lent : List ℕ) (o o' : Left ℕ) → Allows (check_entry_left s c e b lent) o → Allows (check_entry_left s c e b lent) o' → o ≡ o'
check_entry_determined s c e b lent o o' = determined

pub one-gate-entry_determined : (s c output lent : List ℕ) (o o' : Left ℕ) → Allows (one_gate_entry_left s c output lent) o → Allows (one_gate_entry_left s c output lent) o' → o ≡ o'
one-gate-entry_determined s c output lent o o' = determined

pub program_determined : (input : List ℕ) (o o' : Left (List ℕ)) → Allows (program_left input) o → Allows (program_left input) o' → o ≡ o'
program_determined input o o' = determined
