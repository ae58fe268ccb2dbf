-- The first count read is that of level 1, and the sum is the sum of all. Assumes nothing.
use mathlib.Core.Path.{◌≡◌, sym, ap, ◌∙◌}
use Rattle.automata.specs.Sets.{roots, roots_in}
use Rattle.stored.specs.Form.{set_of}
use Rattle.stored.specs.Rules.{levels_ok}
use Rattle.levels.proofs.LevelLaws.{whole, first-is}
use Rattle.levels.proofs.levels_ok.Goals as goal

pub returns : goal.returns
unfolding levels_ok
returns c =
    let s = c.args.s.now in
    let e : c.count_at-roots.result ≡ roots (set_of s) = sym (first-is s c.args.n c.count_at-roots.result c.count_at-roots.ensures) ∙ ap roots_in (whole s c.args.n c.requires) in
    simp (c.from.ensures, c.level_sum-total.ensures, e)
