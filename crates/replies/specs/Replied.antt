-- Document 01, "Replies": the fields of a reply, of the definitions' and of the code's.
use Rattle.std.specs.Prelude.{List, ℕ, replicate}
use Rattle.automata.specs.Members.{member}
use Rattle.verdict.specs.Verdict as verdict
use Rattle.jobs.specs.Reply as def
use Rattle.jobs.specs.Reply.{kind_of, number_of, source_of, place_of, count_of, root_of, word_of, word_places}
use Rattle.refusals.specs.Refused as refusals
use Rattle.refusals.specs.declared.Refusal.{Refusal}
use Rattle.replies.specs.declared.Fields.{Fields}
use Rattle.replies.specs.declared.Reply.{Reply}
use Rattle.replies.specs.declared.Reply.TheVariants.{Refused, Made, Holds, Fails, Undecided}

-- the fields of a reply of the definitions, one by one
abbrev pub reply_from : def.Reply → Fields
reply_from r = record { kind = kind_of r; number = number_of r; source = source_of r; place = place_of r; count = count_of r; root = root_of r; word = word_of r }

-- a kind and its count, with 0 in every other field
abbrev pub counted : ℕ → ℕ → Fields
counted kind count = record { kind = kind; number = 0; source = 0; place = 0; count = count; root = 0; word = replicate word_places 0 }

-- the fields of the code's reply: "0 refused, 1 made, 2 holds, 3 fails, 4 undecided"
abbrev pub fields_of : Reply → Fields
fields_of (Refused r) = record { kind = 0; number = refusals.number_of r.reason; source = refusals.source_of r.source; place = r.place; count = 0; root = 0; word = replicate word_places 0 }
fields_of (Made length) = counted 1 length
fields_of (Holds count) = counted 2 count
fields_of (Fails place root word) = record { kind = 3; number = 0; source = 0; place = 0; count = place; root = root; word = word }
fields_of (Undecided count) = counted 4 count

-- ---- the replies of the definitions, by what the code's variants hold
abbrev pub of_refusal : Refusal → def.Reply
of_refusal r = def.refused (refusals.told r)

abbrev pub of_made : ℕ → def.Reply
of_made length = def.made length

abbrev pub of_holds : ℕ → def.Reply
of_holds count = def.says (verdict.holds count)

abbrev pub of_undecided : ℕ → def.Reply
of_undecided count = def.says (verdict.undecided count)

abbrev pub of_fails : ℕ → ℕ → List ℕ → def.Reply
of_fails place root w = def.says (verdict.fails place (member root w))
