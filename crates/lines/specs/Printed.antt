-- Document 01, "It prints one line": the line of a reply's fields, with so many places of its word.
use Rattle.std.specs.Prelude.{Bool, cond, ◌&&◌, List, [], ◌∷◌, ◌++◌, ℕ, length, take, eqb, leb}
use Rattle.jobs.specs.Reply.{word_places}
use Rattle.packing.specs.Written.{at_front}
use Rattle.replies.specs.declared.Fields.{Fields}
use Rattle.lines.specs.Numeral.{field_list}

-- ---- "refused", "holds", "fails", "undecided"
abbrev pub refused_name : List ℕ
refused_name = 114 ∷ 101 ∷ 102 ∷ 117 ∷ 115 ∷ 101 ∷ 100 ∷ []

abbrev pub holds_name : List ℕ
holds_name = 104 ∷ 111 ∷ 108 ∷ 100 ∷ 115 ∷ []

abbrev pub fails_name : List ℕ
fails_name = 102 ∷ 97 ∷ 105 ∷ 108 ∷ 115 ∷ []

abbrev pub undecided_name : List ℕ
undecided_name = 117 ∷ 110 ∷ 100 ∷ 101 ∷ 99 ∷ 105 ∷ 100 ∷ 101 ∷ 100 ∷ []

-- by the reply's kind: refused, made, holds, fails, undecided; "the program makes no set"
unfoldable pub words_of : Fields → ℕ → List ℕ
words_of r choices =
    cond (eqb r.kind 0) (refused_name ++ field_list (r.number ∷ r.source ∷ r.place ∷ []))
    (cond (eqb r.kind 1) []
    (cond (eqb r.kind 2) (holds_name ++ field_list (r.count ∷ []))
    (cond (eqb r.kind 3) (fails_name ++ field_list (r.count ∷ r.root ∷ take choices r.word))
    (undecided_name ++ field_list (r.count ∷ [])))))

-- the longest words: `fails`, two fields of at most 11 bytes, and 21 of at most 4; the last field is lent 7 bytes more than it can use
abbrev pub words_most : ℕ
words_most = 111

abbrev pub words_room : ℕ
words_room = 118

unfoldable pub line_of : Fields → ℕ → List ℕ
line_of r choices = words_of r choices ++ (10 ∷ [])

-- room for every line
abbrev pub line_room : ℕ
line_room = 160

abbrev pub fits : ℕ → List ℕ → Bool
fits choices out = leb line_room (length out) && leb choices word_places

-- the line at the front, or nothing where it need not fit
unfoldable pub printed_in : Fields → ℕ → List ℕ → List ℕ
printed_in r choices out = cond (fits choices out) (at_front (line_of r choices) out) out

unfoldable pub printed_length : Fields → ℕ → List ℕ → ℕ
printed_length r choices out = cond (fits choices out) (length (line_of r choices)) 0
