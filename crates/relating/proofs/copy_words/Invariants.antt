-- Word after word is copied. Assumes nothing.
use Rattle.relating.proofs.Copies.{Copying}
use Rattle.relating.proofs.copy_words.Given as goal

abbrev pub invariant-loop-i : goal.invariant-loop-i
invariant-loop-i l =
    Copying l.source l.at l.initial.words l.there l.count l.words l.i
