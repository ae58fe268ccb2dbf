-- Document 01, "The check stops after the number of members the caller allows": how far a check is, one member after the other, and its reply.
use Rattle.std.specs.Prelude.{◌≡◌, Bool, cond, List, [], ◌∷◌, ℕ, ◌+◌, leb}
use Rattle.automata.specs.Members.{Member, member}
use Rattle.replies.specs.declared.Reply.{Reply}
use Rattle.replies.specs.declared.Reply.TheVariants.{Holds, Fails, Undecided as Unsure}
use Rattle.walking.specs.declared.Tally.{Tally}
use Rattle.walking.specs.declared.Kind.{Kind}
use Rattle.walking.specs.declared.Kind.TheVariants.{Going, Failed, Undecided}

-- one member more: the allowance b is used up, or the member is tested; a check that has stopped stays as it is
unfoldable pub tick_by : Kind → (Member → Bool) → ℕ → Tally → Member → Tally
tick_by Going passes b t (member r w) =
    cond (leb b t.count) (record { kind = Undecided; count = t.count; root = t.root; word = t.word })
    (cond (passes (member r w)) (record { kind = Going; count = t.count + 1; root = t.root; word = t.word })
    (record { kind = Failed; count = t.count + 1; root = r; word = w }))
tick_by Failed passes b t m = t
tick_by Undecided passes b t m = t

abbrev pub tick_of : (Member → Bool) → ℕ → Tally → Member → Tally
tick_of passes b t m = tick_by t.kind passes b t m

-- the members one after the other
unfoldable pub tallied : (Member → Bool) → ℕ → Tally → List Member → Tally
tallied passes b t [] = t
tallied passes b t (m ∷ ms) = tallied passes b (tick_of passes b t m) ms

-- nothing that follows changes it
unfoldable pub Halted : Tally → Type 0
Halted t = t.kind ≡ Going → ⊥

-- the reply where no members are left
unfoldable pub reply_by : Kind → Tally → Reply
reply_by Going t = Holds t.count
reply_by Failed t = Fails t.count t.root t.word
reply_by Undecided t = Unsure t.count

abbrev pub reply_of : Tally → Reply
reply_of t = reply_by t.kind t
