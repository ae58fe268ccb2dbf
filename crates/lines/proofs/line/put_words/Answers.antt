-- `lines::line::put_words` meets its contract: each kind leads to the words of that kind. Assumes nothing.
use mathlib.Core.Path.{refl}
use native.Mathlib.Omega.{arith}
use borrow.Author.Rules.{rules}
use Rattle.lines.proofs.Putting.{put_less, put_as}
use Rattle.lines.proofs.ByKind.{words-refused, words-made, words-holds, words-fails, words-undecided}
use Rattle.lines.proofs.line.put_words.Goals as goal

pub returns-in-0 : goal.returns-in-0
returns-in-0 c =
    put_as (put_less c.put_refused.ensures 111 (omega (arith, c.put_refused.ensures.few))) (words-refused c.args.reply c.args.choices c.in-0.is)

pub returns-in-1 : goal.returns-in-1
returns-in-1 c =
    put_as (record { count = refl; few = omega arith; front = refl }) (words-made c.args.reply c.args.choices c.in-1.is)

pub returns-in-2 : goal.returns-in-2
returns-in-2 c =
    put_as (put_less c.put_count.ensures 111 (omega (arith, c.put_count.ensures.few))) (words-holds c.args.reply c.args.choices c.in-2.is)

pub returns-in-3 : goal.returns-in-3
returns-in-3 c =
    put_as (rw c.from.ensures at c.put_fails.ensures) (words-fails c.args.reply c.args.choices c.in-3.is)

pub returns-in_default : goal.returns-in_default
returns-in_default c =
    put_as (put_less c.put_count-in_default.ensures 111 (omega (arith, c.put_count-in_default.ensures.few)))
    (words-undecided c.args.reply c.args.choices (search rules) (search rules) (search rules) (search rules))
