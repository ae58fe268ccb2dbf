-- `elements::letters_of` meets its contract, by the rule of the table of lengths. Assumes nothing.
use Rattle.elements.proofs.Tables.{letters_rule}
use Rattle.elements.proofs.letters_of.Goals as goal

pub returns : goal.returns
returns c =
    letters_rule c.args.element c.requires
