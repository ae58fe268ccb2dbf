-- Document 01, "Replies" 14 to 16: a gate's result refused or taken, and a circuit's gates one after the other.
use Rattle.std.specs.Prelude.{Bool, ◌&&◌, List, [], ◌∷◌, ℕ, suc, length, leb}
use Rattle.amplitude.specs.Leaf.{k_most, in_range_l}
use Rattle.automata.specs.Sets.{LF, rec, QSet, sum}
use Rattle.stored.specs.Refusal.{Judged, good, need, refusal, on_good, circuit_source}
use Rattle.stored.specs.Rules.{Bounds, passes}
use Rattle.gates.specs.Gate.{Gate}
use Rattle.gates.specs.Build.{built}

-- 15: "H at k = 64": k would be over 64
abbrev pub k_fits : QSet → Bool
k_fits N = leb N.k k_most

-- 14: "a gate's result is over 1,024 states, 2,048 inner or 1,024 leaves"
abbrev pub sizes_fit : Bounds → QSet → Bool
sizes_fit b N = leb (sum N.counts) b.states && (leb (length N.inner) b.inner && leb (length N.leaves) b.leaves)

-- 16: "a kept leaf's coefficient would leave its range"
abbrev pub leaf_fits : LF → Bool
leaf_fits (rec s m x) = in_range_l x

abbrev pub leaves_fit : QSet → Bool
leaves_fit N = passes leaf_fits N.leaves

-- "gate by gate 15, 14, 16": picked from the finished result
abbrev pub judge_result : Bounds → ℕ → QSet → Judged QSet
judge_result b place N =
    need (k_fits N) (refusal 15 circuit_source place)
    (need (sizes_fit b N) (refusal 14 circuit_source place)
    (need (leaves_fit N) (refusal 16 circuit_source place) (good N)))

unfoldable pub judge_gate : Bounds → ℕ → Gate → QSet → Judged QSet
judge_gate b place g Q = judge_result b place (built g Q)

-- the gates from a place on, "earliest first"
unfoldable pub after_gates : Bounds → ℕ → List Gate → QSet → Judged QSet
after_gates b place [] Q = good Q
after_gates b place (g ∷ gs) Q = on_good (judge_gate b place g Q) (after_gates b (suc place) gs)
