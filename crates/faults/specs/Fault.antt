-- Document 01, rule 8: what is wrong with a TR record whose states' levels are known.
use Rattle.std.specs.Prelude.{cond, [], ◌∷◌, ℕ, suc, get_or, eqb, leb, Option}
use Rattle.std.specs.declared.option.Option.TheVariants.{Some, None}
use Rattle.refusals.specs.declared.Reason.{Reason}
use Rattle.refusals.specs.declared.Reason.TheVariants.{State, LeftChild, RightChild, EmptyMask}

-- "state not on levels 1 to n, child not on the next level, or mask zero": 0 nothing, 1 the state, 2 the left child, 3 the right, 4 the mask
abbrev pub fault_of : ℕ → ℕ → ℕ → ℕ → ℕ → ℕ
fault_of n own left right mask = cond (leb own n) (cond (eqb left (suc own)) (cond (eqb right (suc own)) (cond (eqb mask 0) 4 0) 3) 2) 1

-- the refusal's reason, if something is wrong: 81 to 84 for 1 to 4
abbrev pub reason_of : ℕ → Option Reason
reason_of fault = get_or (None ∷ Some State ∷ Some LeftChild ∷ Some RightChild ∷ Some EmptyMask ∷ []) fault None
