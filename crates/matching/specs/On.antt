-- What is said of tables and of the search on them, of both tables as the code lends them.
use Rattle.std.specs.Prelude.{List, ℕ}
use Rattle.automata.specs.Tree.{Automaton}
use Rattle.lookup.specs.Alts.{table_automaton}
use Rattle.tables.specs.declared.Table.{Table}
use Rattle.meeting.specs.declared.Level.{Level}
use Rattle.meeting.specs.declared.Sides.{Sides}
use Rattle.matching.specs.Levels.{IsLevel, NextFits}
use Rattle.matching.specs.Seeking.{Sound, Hints, Held, Lent, Seeking}

-- the automaton that a table holds
abbrev pub automaton_of : Table → Automaton ℕ
automaton_of t = table_automaton t.rows.now t.masks.now t.coefs.now t.first.now

abbrev pub IsLevelOn : Sides → ℕ → Level → Type 0
IsLevelOn t at l = IsLevel t.image.counts.now t.end.counts.now at l

abbrev pub NextFitsOn : Sides → ℕ → Type 0
NextFitsOn t at = NextFits t.image.counts.now t.end.counts.now at

abbrev pub HeldOn : Table → ℕ → Type 0
HeldOn t n = Held t.rows.now t.masks.now t.coefs.now t.counts.now t.first.now n

abbrev pub LentOn : Sides → List ℕ → ℕ → ℕ → Type 0
LentOn t word size n = Lent t.image.rows.now t.image.masks.now t.image.coefs.now t.image.counts.now t.image.first.now t.end.rows.now t.end.masks.now t.end.coefs.now t.end.counts.now t.end.first.now word t.wide size n

abbrev pub SeekingOn : Sides → List ℕ → ℕ → ℕ → ℕ → Level → Type 0
SeekingOn t word size at m l = Seeking t.image.rows.now t.image.masks.now t.image.coefs.now t.image.counts.now t.image.first.now t.end.rows.now t.end.masks.now t.end.coefs.now t.end.counts.now t.end.first.now word t.wide size at m l

abbrev pub SoundOn : Sides → List ℕ → List ℕ → ℕ → ℕ → Type 0
SoundOn t word may at n = Sound (automaton_of t.image) (automaton_of t.end) word t.image.counts.now t.end.counts.now t.wide may at n

abbrev pub HintsOn : Sides → List ℕ → List ℕ → ℕ → Type 0
HintsOn t word may n = Hints (automaton_of t.image) (automaton_of t.end) word t.image.counts.now t.end.counts.now t.wide may n
