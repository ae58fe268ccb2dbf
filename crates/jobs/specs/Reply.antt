-- Document 01, "Replies": what a job answers, and the fields of that answer.
use Rattle.std.specs.Prelude.{List, ◌++◌, ℕ, take, replicate}
use Rattle.automata.specs.Members.{member}
use Rattle.stored.specs.Refusal.{Refusal, Judged}
use Rattle.verdict.specs.Verdict.{Verdict, holds, fails, undecided}

-- refused; the length of the new set that was made; or what the check says
pub data Reply : Type 0 where
  refused : Refusal → Reply
  made : ℕ → Reply
  says : Verdict → Reply

abbrev pub reply_of : {X : Type 0} → (X → Reply) → Judged X → Reply
reply_of f (Judged.refused r) = refused r
reply_of f (Judged.good x) = f x

-- 0 refused, 1 made, 2 holds, 3 fails, 4 undecided
unfoldable pub kind_of : Reply → ℕ
kind_of (refused r) = 0
kind_of (made l) = 1
kind_of (says (holds c)) = 2
kind_of (says (fails c m)) = 3
kind_of (says (undecided c)) = 4

-- "A refusal returns its number, its source .. and its place"; the other replies have 0 there
unfoldable pub number_of : Reply → ℕ
number_of (refused r) = r.number
number_of (made l) = 0
number_of (says v) = 0

unfoldable pub source_of : Reply → ℕ
source_of (refused r) = r.source
source_of (made l) = 0
source_of (says v) = 0

unfoldable pub place_of : Reply → ℕ
place_of (refused r) = r.place
place_of (made l) = 0
place_of (says v) = 0

-- "`fails` returns its place, counted from 1, as its count .. a refusal has count 0"; the new set's length for the one-gate job
unfoldable pub count_of : Reply → ℕ
count_of (refused r) = 0
count_of (made l) = l
count_of (says (holds c)) = c
count_of (says (fails c m)) = c
count_of (says (undecided c)) = c

-- "with root and word, the word in 21 places with the unused ones 0; other replies have root and word 0"
abbrev pub word_places : ℕ
word_places = 21

abbrev pub in_places : List ℕ → List ℕ
in_places w = take word_places (w ++ replicate word_places 0)

unfoldable pub root_of : Reply → ℕ
root_of (refused r) = 0
root_of (made l) = 0
root_of (says (holds c)) = 0
root_of (says (fails c (member r w))) = r
root_of (says (undecided c)) = 0

unfoldable pub word_of : Reply → List ℕ
word_of (refused r) = replicate word_places 0
word_of (made l) = replicate word_places 0
word_of (says (holds c)) = replicate word_places 0
word_of (says (fails c (member r w))) = in_places w
word_of (says (undecided c)) = replicate word_places 0
