-- `closing::all_elements` meets its contract: both are true exactly where each number is below 24. Assumes nothing.
use mathlib.Core.Path.{refl}
use Prim.Native.Nat.{◌<◌}
use lib.Dec.{ltb}
use borrow.Author.Rules.{rules}
use Rattle.std.proofs.lemmas.Bool.Decides.{same_from_decides, Decides-by_and, Decides-ltb}
use Rattle.cliffords.specs.Jobs.{all_elements}
use Rattle.closing.proofs.all_elements.Goals as goal

pub returns : goal.returns
unfolding all_elements
returns c =
    same_from_decides _ _ (search rules)
    (Decides-by_and (λ x. ltb x 24) (λ x. x < 24) all_elements (λ x. Decides-ltb x 24) refl (λ _ _. refl) c.args.seq.now)
