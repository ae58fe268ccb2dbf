-- `elements::product` meets its contract, by the rule of the table of products. Assumes nothing.
use Rattle.elements.proofs.Tables.{product_rule}
use Rattle.elements.proofs.product.Goals as goal

pub returns : goal.returns
returns c =
    product_rule c.args.p c.args.q c.requires.0 c.requires.1
