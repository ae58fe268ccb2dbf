-- The tally of all roots' members is the verdict by the image. Assumes nothing.
use mathlib.Core.Path.{refl, ap, ◌∙◌}
use Prim.Native.Nat.{ℕ}
use lib.ListN.{length-replicate}
use Rattle.replies.specs.Replied.{fields_of}
use Rattle.walking.proofs.Verdicts.{walked}
use Rattle.striding.proofs.Rooms.{foresee_asked, both_lodged, started_lodged}
use Rattle.striding.proofs.lodge.Goals as goal

pub foresee-requires : goal.foresee-requires
foresee-requires c =
    foresee_asked c.requires.0 c.requires.1 (length-replicate {A = ℕ} 4096 0)

pub visit_roots-requires : goal.visit_roots-requires
visit_roots-requires c =
    started_lodged c.requires.0 c.requires.1 (c.foresee.auto.may ∙ length-replicate {A = ℕ} 4096 0) (length-replicate {A = ℕ} 4096 0) (length-replicate {A = ℕ} 21 0) (length-replicate {A = ℕ} 1024 0)

pub returns : goal.returns
returns c =
    λ g. ap fields_of c.visit_roots.ensures ∙ walked (both_lodged g c.requires.1 {may = 4096} {cells = 1024} refl refl) c.args.b
