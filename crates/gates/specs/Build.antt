-- Document 01, "What each gate builds": the set that a gate builds from a set.
use Rattle.std.specs.Prelude.{List, map, ℕ, ◌+◌}
use Rattle.automata.specs.Sets.{QSet, automaton_of, roots}
use Rattle.automata.specs.Members.{up_to}
use Rattle.gates.specs.Gate.{phase, flip, H, Gate}
use Rattle.gates.specs.Key.{Key, plain, same_key}
use Rattle.gates.specs.Roles.{keyed}
use Rattle.gates.specs.Numbering.{Built, number}

-- "Roots keep their order."
abbrev pub root_keys : QSet → List Key
root_keys Q = map plain (up_to 0 (roots Q))

abbrev pub build_of : Gate → QSet → Built
build_of g Q = number same_key (keyed g (automaton_of Q)) 1 Q.n 0 (root_keys Q)

-- H: "k grows by one"
abbrev pub growth : Gate → ℕ
growth (Gate.plain (phase j) t) = 0
growth (Gate.plain (flip j) t) = 0
growth (Gate.plain H t) = 1
growth (Gate.controlled c k t) = 0

unfoldable pub built : Gate → QSet → QSet
built g Q =
    let B = build_of g Q in
    record { n = Q.n; k = Q.k + growth g; counts = B.counts; inner = B.inner; leaves = B.leaves }
