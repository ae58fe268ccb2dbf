-- `lines::line::put_whole` meets its contract: the words, then the line's end in the tail. Assumes nothing.
use mathlib.Core.List.{[], ◌∷◌}
use native.Mathlib.Omega.{arith}
use Rattle.lines.specs.Printed.{line_of}
use Rattle.lines.proofs.Putting.{put_whole, put_on}
use Rattle.lines.proofs.line.put_whole.Goals as goal

pub returns : goal.returns
unfolding line_of
returns c =
    put_on c.put_words-at.ensures (omega arith) (put_whole (10 ∷ []) _ c.put_bytes.ensures)
