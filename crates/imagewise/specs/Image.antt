-- The check's last phase by the set that the gates build: its members are the starts, in the same order, and its trees are theirs carried through
-- the gate matrices.
use Rattle.std.specs.Prelude.{Bool, true, false, ℕ}
use Rattle.std.proofs.Math.Option.{none, some}
use Rattle.automata.specs.Sets.{QSet}
use Rattle.automata.specs.Members.{Member, runs, state_of}
use Rattle.verdict.specs.Verdict.{Verdict, is_state, examine}

-- the tree of a member of the image is a state of the end set
abbrev pub ends_in : QSet → QSet → Member → Bool
ends_in P E m = elim (state_of P m) [ none ↦ false | some x ↦ is_state E P.n x ]

-- the verdict by the image P
abbrev pub image_verdict : QSet → QSet → ℕ → Verdict
image_verdict P E b = examine (ends_in P E) 0 b (runs P)
