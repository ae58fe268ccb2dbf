-- Each variant's fields are those of its reply: a reply has 0 in the fields that its kind does not use. Assumes nothing.
use mathlib.Core.Path.{◌≡◌, refl, ap, subst}
use mathlib.Core.List.{List}
use Prim.Native.Nat.{ℕ}
use lib.ListN.{replicate}
use Rattle.stored.specs.Refusal as stored
use Rattle.jobs.specs.Reply as def
use Rattle.jobs.specs.Reply.{kind_of, number_of, source_of, place_of, count_of, root_of, word_of, in_places, word_places}
use Rattle.refusals.specs.Refused.{told}
use Rattle.refusals.specs.declared.Refusal.{Refusal}
use Rattle.replies.specs.declared.Fields.{Fields}
use Rattle.replies.specs.declared.Reply.TheVariants.{Refused, Made, Holds, Fails, Undecided}
use Rattle.replies.specs.Replied.{reply_from, fields_of, of_refusal, of_made, of_holds, of_fails, of_undecided}

-- the fields of a refusal
abbrev pub refusing : stored.Refusal → Fields
refusing d = record { kind = 0; number = d.number; source = d.source; place = d.place; count = 0; root = 0; word = replicate word_places 0 }

pub is-refusing : (d : stored.Refusal) → refusing d ≡ reply_from (def.refused d)
unfolding kind_of number_of source_of place_of count_of root_of word_of
is-refusing d = refl

pub is-refusal : (r : Refusal) → fields_of (Refused r) ≡ reply_from (of_refusal r)
unfolding kind_of number_of source_of place_of count_of root_of word_of
is-refusal r = refl

-- a refusal of the code that is this one of the definitions
pub is-refused : (r : Refusal) {d : stored.Refusal} → told r ≡ d → fields_of (Refused r) ≡ reply_from (def.refused d)
is-refused r e = subst (λ (d : stored.Refusal). fields_of (Refused r) ≡ reply_from (def.refused d)) e (is-refusal r)

pub is_made : (n : ℕ) → fields_of (Made n) ≡ reply_from (of_made n)
unfolding kind_of number_of source_of place_of count_of root_of word_of
is_made n = refl

pub is-holds : (n : ℕ) → fields_of (Holds n) ≡ reply_from (of_holds n)
unfolding kind_of number_of source_of place_of count_of root_of word_of
is-holds n = refl

pub is-undecided : (n : ℕ) → fields_of (Undecided n) ≡ reply_from (of_undecided n)
unfolding kind_of number_of source_of place_of count_of root_of word_of
is-undecided n = refl

pub is-fails : (place root : ℕ) {word : List ℕ} (w : List ℕ) → word ≡ in_places w
    → fields_of (Fails place root word) ≡ reply_from (of_fails place root w)
unfolding kind_of number_of source_of place_of count_of root_of word_of
is-fails place root w e = ap (λ (u : List ℕ). fields_of (Fails place root u)) e
