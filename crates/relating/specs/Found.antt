-- Several relations between image states and end states, each a row of marks as the search has one: they stand as planes of equal length in
-- one stack. A word is found from them if the search finds it from one of them.
use Rattle.std.specs.Prelude.{Bool, List, ℕ, ◌*◌, take, drop}
use Rattle.automata.specs.Members.{up_to}
use Rattle.automata.specs.Tree.{Automaton}
use Rattle.verdict.specs.Search.{fits_one}
use Rattle.meeting.specs.declared.Level.{Level}
use Rattle.meeting.specs.declared.Sides.{Sides}
use Rattle.matching.specs.Seeking.{sought}
use Rattle.matching.specs.On.{automaton_of}

-- the marks of relation j
abbrev pub plane_of : ℕ → List ℕ → ℕ → List ℕ
plane_of plane stack j = take plane (drop (j * plane) stack)

-- some number below p passes
abbrev pub any_below : ℕ → (ℕ → Bool) → Bool
any_below p f = fits_one f (up_to 0 p)

-- the word's choices from place `at` on, m + 1 of them, are found from one of the first p relations on the level
abbrev pub found : Automaton ℕ → Automaton ℕ → List ℕ → ℕ → ℕ → ℕ → ℕ → List ℕ → ℕ → Level → Bool
found S E word at m wide plane stack p l = any_below p (λ j. sought S E word at m wide (plane_of plane stack j) l)

-- ---- of both tables
abbrev pub sought_on : Sides → List ℕ → ℕ → ℕ → List ℕ → Level → Bool
sought_on t word at m met l = sought (automaton_of t.image) (automaton_of t.end) word at m t.wide met l

abbrev pub found_on : Sides → List ℕ → ℕ → ℕ → ℕ → List ℕ → ℕ → Level → Bool
found_on t word at m plane stack p l = found (automaton_of t.image) (automaton_of t.end) word at m t.wide plane stack p l
