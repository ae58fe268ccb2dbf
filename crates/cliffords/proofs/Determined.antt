-- Any two outcomes that the contract of a job or of its C entry allows are equal, buffers included: each contract gives every part by an equation.
-- Assumes nothing.
use mathlib.Core.Path.{◌≡◌}
use mathlib.Core.List.{List, [], ◌∷◌}
use Prim.Native.Nat.{ℕ}
use Rattle.jobs.specs.Reply.{Reply}
use Rattle.jobs.specs.Buffers.{unsigned}
use Rattle.jobs.proofs.Determined.{Left, Allows, determined}
use Rattle.cliffords.specs.Jobs.{closing_reply, spell_reply, spell_output}
use Rattle.cliffords.specs.Entry.{closing_entry, closing_entry_number, spell_entry, spell_entry_number, spell_entry_output}

abbrev pub closing_left : List ℕ → Left Reply
closing_left seq = record { returned = closing_reply seq; lent = [] }

abbrev pub spell_left : ℕ → List ℕ → Left Reply
spell_left e output = record { returned = spell_reply e output; lent = unsigned (spell_output e output) ∷ [] }

abbrev pub closing_entry_left : List ℕ → List ℕ → Left ℕ
closing_entry_left seq lent = record { returned = closing_entry_number seq lent; lent = unsigned (closing_entry seq lent) ∷ [] }

abbrev pub spell_entry_left : ℕ → List ℕ → List ℕ → Left ℕ
spell_entry_left e output lent =
    record { returned = spell_entry_number e output lent; lent = unsigned (spell_entry_output e output lent) ∷ unsigned (spell_entry e output lent) ∷ [] }

pub closing_determined : (seq : List ℕ) (o o' : Left Reply) → Allows (closing_left seq) o → Allows (closing_left seq) o' → o ≡ o'
closing_determined seq o o' = determined

pub spell_determined : (e : ℕ) (output : List ℕ) (o o' : Left Reply) → Allows (spell_left e output) o → Allows (spell_left e output) o' → o ≡ o'
spell_determined e output o o' = determined

pub closing-entry_determined : (seq lent : List ℕ) (o o' : Left ℕ) → Allows (closing_entry_left seq lent) o → Allows (closing_entry_left seq lent) o' → o ≡ o'
closing-entry_determined seq lent o o' = determined

pub spell_entry_determined : (e : ℕ) (output lent : List ℕ) (o o' : Left ℕ) → Allows (spell_entry_left e output lent) o → Allows (spell_entry_left e output lent) o' → o ≡ o'
spell_entry_determined e output lent o o' = determined
