-- The search in batches: what it asks on a level, and what relations of the first level leave.
use Rattle.std.specs.Prelude.{◌≡◌, true, false, List, [], ◌∷◌, ℕ, ◌+◌, ◌*◌, ◌<◌, ◌≤◌, ℤ, take}
use Rattle.automata.specs.Tree.{Automaton}
use Rattle.verdict.specs.Search.{searched, found as pair_found}
use Rattle.meeting.specs.declared.Level.{Level}
use Rattle.judging.specs.declared.Search.{Search}
use Rattle.meeting.specs.Met.{is_met}
use Rattle.matching.specs.Seeking.{Seeking}
use Rattle.relating.specs.Found.{found}
use Rattle.relating.specs.Roots.{Whole}

-- room for some relations in the stack, p of which are there, and a spare row for one
pub record Spaced (plane room p stack spare : ℕ) : Type 0 where
  pub some : 0 < room
  pub few : p ≤ room
  pub high : room * plane ≤ stack
  pub long : plane ≤ spare

-- the search has reached level at + 1 with p relations, and m qubits are left from there on
pub record Judging (rows masks : List ℕ) (coefs : List ℤ) (counts first end_rows end_masks : List ℕ) (end_coefs : List ℤ) (end_counts end_first word : List ℕ) (wide plane room p stack spare at m : ℕ) (l : Level) : Type 0 where
  pub seeking : Seeking rows masks coefs counts first end_rows end_masks end_coefs end_counts end_first word wide plane at m l
  pub space : Spaced plane room p stack spare

-- the root's pairs that are not marked match by no word of the end set
pub record Apt (S E : Automaton ℕ) (word : List ℕ) (n wide : ℕ) (may : List ℕ) (root : ℕ) (l : Level) : Type 0 where
  pub each : (e : ℕ) → l.start ≤ e → e < l.stop → is_met wide may root e ≡ false → false ≡ pair_found S E 1 n (take (n + 1) word) ((root, e) ∷ [])

-- r relations of the first level now: what was found from p of them is found, and what matches the root of end roots from `from` up to below `to`
pub record Rise (wide plane : ℕ) (may stack : List ℕ) (p root : ℕ) (l : Level) (from to : ℕ) (stack' : List ℕ) (r : ℕ) : Type 0 where
  pub keeps : (S E : Automaton ℕ) (word : List ℕ) (at m : ℕ) → found S E word at m wide plane stack p l ≡ true → found S E word at m wide plane stack' r l ≡ true
  pub each : (S E : Automaton ℕ) (word : List ℕ) (n : ℕ) → Whole word n → Apt S E word n wide may root l → (e : ℕ) → from ≤ e → e < to
      → pair_found S E 1 n (take (n + 1) word) ((root, e) ∷ []) ≡ true → found S E word 0 n wide plane stack' r l ≡ true

-- relations for the root and the end roots from `from` up to below `to`: all that are left, or as many as there is room for
pub record Started (wide plane room : ℕ) (may stack : List ℕ) (root : ℕ) (l : Level) (from to : ℕ) (stack' : List ℕ) (r : ℕ) : Type 0 where
  pub few : r ≤ room
  pub sound : (S E : Automaton ℕ) (word : List ℕ) (n : ℕ) → Whole word n → found S E word 0 n wide plane stack' r l ≡ true → searched S E l.stop n (take (n + 1) word) root ≡ true
  pub rise : Rise wide plane may stack 0 root l from to stack' r
  pub moves : from < l.stop → 0 < room → from < to

-- of a search on both tables
abbrev pub JudgingOn : Search → ℕ → ℕ → ℕ → ℕ → ℕ → Level → Type 0
JudgingOn t p stack spare at m l = Judging t.sides.image.rows.now t.sides.image.masks.now t.sides.image.coefs.now t.sides.image.counts.now t.sides.image.first.now t.sides.end.rows.now t.sides.end.masks.now t.sides.end.coefs.now t.sides.end.counts.now t.sides.end.first.now t.word.now t.sides.wide t.plane t.room p stack spare at m l
