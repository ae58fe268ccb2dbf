-- The line of a reply's fields is the reply's line, since these are the numbers that the line prints; of a word in its 21 places the
-- choices are the first ones. Assumes nothing.
use mathlib.Core.Path.{◌≡◌, refl, ap, ◌∙◌}
use mathlib.Core.Bool.{true}
use mathlib.Core.List.{List, [], ◌∷◌, ◌++◌}
use Prim.Native.Nat.{ℕ, ◌≤◌}
use lib.ListN.{length, take, drop, replicate}
use lib.Seq.{take-take, take-append_seam}
use borrow.Author.Tests.{le-leb}
use Rattle.automata.specs.Members.{member}
use Rattle.verdict.specs.Verdict.{holds, fails, undecided}
use Rattle.jobs.specs.Reply as def
use Rattle.jobs.specs.Reply.{refused, made, says, kind_of, number_of, source_of, place_of, count_of, root_of, word_of, word_places, in_places}
use Rattle.jobs.specs.Program.{words, line}
use Rattle.replies.specs.declared.Fields.{Fields}
use Rattle.replies.specs.Replied.{reply_from}
use Rattle.lines.specs.Numeral.{numeral, field_list}
use Rattle.lines.specs.Printed.{fails_name, words_of, line_of, line_room, fits, printed_in, printed_length}

-- so many choices are those of the reply's word; a reply without a word has any number
abbrev pub Choices : ℕ → def.Reply → Type 0
Choices n (refused r) = Unit {0}
Choices n (made l) = Unit {0}
Choices n (says (holds c)) = Unit {0}
Choices n (says (fails c (member r w))) = length w ≡ n
Choices n (says (undecided c)) = Unit {0}

-- the first places of a word are the word
pub first_places : (w : List ℕ) (n : ℕ) → length w ≡ n → n ≤ word_places → take n (in_places w) ≡ w
first_places w n e h =
    take-take n word_places (w ++ replicate word_places 0) h ∙ rw (← e) (take-append_seam w (replicate word_places 0))

words_of_lem : (r : def.Reply) (n : ℕ) → n ≤ word_places → Choices n r → words_of (reply_from r) n ≡ words r
unfolding words_of numeral kind_of number_of source_of place_of count_of root_of word_of
words_of_lem (refused r) n h e = refl
words_of_lem (made l) n h e = refl
words_of_lem (says (holds c)) n h e = refl
words_of_lem (says (fails c (member r w))) n h e = ap (λ (l : List ℕ). fails_name ++ field_list (c ∷ r ∷ l)) (first_places w n e h)
words_of_lem (says (undecided c)) n h e = refl

pub line_of_lem : (r : def.Reply) (n : ℕ) → n ≤ word_places → Choices n r → line_of (reply_from r) n ≡ line r
unfolding line_of line
line_of_lem r n h e = ap (λ (l : List ℕ). l ++ (10 ∷ [])) (words_of_lem r n h e)

-- what `put_line` leaves and returns, for the reply whose fields these are
module _ {fields : Fields} (r : def.Reply) (n : ℕ) (out : List ℕ) (is : fields ≡ reply_from r) (few : n ≤ word_places) (has : Choices n r)
    (room : line_room ≤ length out) where
  fitting : fits n out ≡ true
  fitting = rw (le-leb line_room (length out) room, le-leb n word_places few)

  the_line : line_of fields n ≡ line r
  the_line = ap (λ (q : Fields). line_of q n) is ∙ line_of_lem r n few has

  pub line-left : {exit : List ℕ} → exit ≡ printed_in fields n out → exit ≡ line r ++ drop (length (line r)) out
  unfolding printed_in
  line-left e = e ∙ rw (fitting, the_line)

  pub line-length : {k : ℕ} → k ≡ printed_length fields n out → k ≡ length (line r)
  unfolding printed_length
  line-length e = e ∙ rw (fitting, the_line)
