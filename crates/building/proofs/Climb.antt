-- The levels from one level on, as the code goes through them: what the level's growth and the levels below come to. Assumes nothing.
use mathlib.Core.Path.{◌≡◌, refl, sym, ap, ◌∙◌, subst}
use mathlib.Core.List.{List, [], ◌∷◌}
use Prim.Native.Nat.{ℕ, suc, ◌+◌, ◌-◌, ◌*◌, ◌<◌, ◌≤◌}
use native.Mathlib.Omega.{arith}
use lib.Dec.{eqb}
use lib.IntN.{ℤ}
use lib.ListN.{length, take, set, length-set}
use lib.Seq.{length-take-le}
use borrow.Author.Tests.{eq-eqb}
use Rattle.std.specs.Prelude.{Option, Some, None}
use Rattle.gates.specs.Gate.{Gate}
use Rattle.gates.specs.Roles.{role}
use Rattle.gates.specs.Numbering.{Built, on_top, all_rows, mention_all, number}
use Rattle.tables.specs.Table.{row_width, tr_rows}
use Rattle.lookup.specs.Alts.{table_automaton}
use Rattle.stepwise.specs.Grow.{Level, begun, grow_all}
use Rattle.stepwise.specs.Code.{coded}
use Rattle.stepwise.proofs.GrowLaws.{all-keys}
use Rattle.tablewise.proofs.TableKeys.{StatesOf, next-states}
use Rattle.tables.specs.Slices.{Table}
use Rattle.growing.specs.declared.Progress.{Progress}
use Rattle.building.specs.Fresh.{Climbed}
use Rattle.moving.specs.Moves.{moves_of}
use Rattle.ending.specs.Ends.{ends_of}
use Rattle.building.specs.declared.Room.{Room}
use Rattle.building.specs.declared.Outcome.{Outcome}
use Rattle.building.specs.Whole.{TooMany, Whole, Below, on_levels}
use Rattle.building.specs.Going.{Going}
use Rattle.building.proofs.Steps.{number-suc, states-count, over-level, less_room, on_top_lem, over_top, whole-made, gave_up}

pub first_count : (counts : List ℕ) (count : ℕ) → 1 ≤ length counts → take 1 (set counts 0 count) ≡ count ∷ []
first_count [] count h = absurd (omega arith)
first_count (c ∷ counts) count h = refl

module _ (T : Table) (g : Gate) where
  abbrev pub numbered : ℕ → ℕ → ℕ → List ℕ → Built
  numbered level left start xs = number eqb (coded g (table_automaton T.rows T.masks T.coefs T.first)) level left start xs

  abbrev pub grown_level : ℕ → ℕ → ℕ → List ℕ → Level ℕ
  grown_level level base start xs = grow_all eqb base (moves_of (role g level) T.rows T.masks T.first) start xs begun

  -- the leaf level
  pub last_numbered : (level left start count : ℕ) (cur : List ℕ) → left ≡ 0 → count ≤ length cur
      → record { counts = count ∷ []; inner = []; leaves = all_rows (ends_of T.rows T.masks T.coefs T.first) start (take count cur) } ≡ numbered level left start (take count cur)
  unfolding ends_of
  last_numbered level left start count cur none there =
      ap (λ (c : ℕ). record { counts = c ∷ []; inner = []; leaves = all_rows (ends_of T.rows T.masks T.coefs T.first) start (take count cur) }) (sym (length-take-le count cur there))
      ∙ ap (λ (m : ℕ). numbered level m start (take count cur)) (sym none)

  -- a level of qubits
  pub numbered-suc : (level left start count : ℕ) (cur : List ℕ) → 0 < left → count ≤ length cur
      → numbered level left start (take count cur) ≡ on_top count (grown_level level (start + count) start (take count cur)).records (numbered (level + 1) (left - 1) (start + count) (grown_level level (start + count) start (take count cur)).keys)
  unfolding moves_of
  numbered-suc level left start count cur some there =
      let xs : List ℕ = take count cur in
      let m : left ≡ suc (left - 1) = omega arith in
      let up : suc level ≡ level + 1 = omega arith in
      ap (λ (j : ℕ). numbered level j start xs) m
      ∙ number-suc (coded g (table_automaton T.rows T.masks T.coefs T.first)) level (left - 1) start xs
      ∙ ap (λ (c : ℕ). on_top c (grown_level level (start + c) start xs).records (numbered (suc level) (left - 1) (start + c) (grown_level level (start + c) start xs).keys)) (length-take-le count cur there)
      ∙ ap (λ (i : ℕ). on_top count (grown_level level (start + count) start xs).records (numbered i (left - 1) (start + count) (grown_level level (start + count) start xs).keys)) up

  module _ {rows masks keys : List ℕ} {q : Option Progress} (room : Room) (level left start count : ℕ) (cur : List ℕ) (some : 0 < left) (there : count ≤ length cur)
      (grew : Climbed rows masks keys q (record { rows = room.inner; keys = room.states - count; base = start + count }) (grown_level level (start + count) start (take count cur))) where
    pub level-over : q ≡ None → TooMany room (numbered level left start (take count cur))
    level-over off =
        subst (TooMany room) (sym (numbered-suc level left start count cur some there))
        (over-level room (record { rows = room.inner; keys = room.states - count; base = start + count }) count (grown_level level (start + count) start (take count cur))
        (numbered (level + 1) (left - 1) (start + count) (grown_level level (start + count) start (take count cur)).keys) refl refl
        (states-count (coded g (table_automaton T.rows T.masks T.coefs T.first)) (level + 1) (left - 1) (start + count) (grown_level level (start + count) start (take count cur)).keys) (grew.over off))

    module _ (p : Progress) (ok : q ≡ Some p) where
      keys-are : take p.keys keys ≡ (grown_level level (start + count) start (take count cur)).keys
      keys-are = (grew.stood p ok).named

      records-are : tr_rows rows masks 0 p.rows ≡ (grown_level level (start + count) start (take count cur)).records
      records-are = (grew.stood p ok).records

      -- the next level's keys
      pub next_going : {k : ℕ} → Going T k g level left cur count → Going T k g (level + 1) (left - 1) keys p.keys
      unfolding moves_of
      next_going go =
          let t = go.table in
          let up : suc level ≡ level + 1 = omega arith in
          let n : StatesOf t.set (suc level) (mention_all eqb ((coded g (table_automaton T.rows T.masks T.coefs T.first)).moves level) [] (take count cur)) =
          next-states t.few t.formed t.unpacked.holds g go.light level (omega (arith, go.levels)) (take count cur) go.keys in
          let same : (grown_level level (start + count) start (take count cur)).keys ≡ mention_all eqb ((coded g (table_automaton T.rows T.masks T.coefs T.first)).moves level) [] (take count cur) =
          all-keys eqb (λ x. eq-eqb x x refl) (start + count) (moves_of (role g level) T.rows T.masks T.first) start (take count cur) begun in
          record {
            table = t;
            light = go.light;
            levels = omega (arith, go.levels);
            keys = subst (λ (i : ℕ). StatesOf t.set i (take p.keys keys)) up (subst (StatesOf t.set (suc level)) (sym (keys-are ∙ same)) n);
          }

      -- they are those of the same table, with the same counts
      pub next_table : {k : ℕ} → (go : Going T k g level left cur count) → (next_going go).table ≡ go.table
      unfolding next_going
      next_table go = refl

      -- the levels below, and this one on top of them
      same-levels : on_top count (grown_level level (start + count) start (take count cur)).records (numbered (level + 1) (left - 1) (start + count) (take p.keys keys)) ≡ numbered level left start (take count cur)
      same-levels =
          ap (λ (ks : List ℕ). on_top count (grown_level level (start + count) start (take count cur)).records (numbered (level + 1) (left - 1) (start + count) ks)) keys-are
          ∙ sym (numbered-suc level left start count cur some there)

      module _ {rows' masks' : List ℕ} {coefs' : List ℤ} (counts : List ℕ) {counts' : List ℕ} (few : count ≤ room.states) (few_rows : p.rows ≤ room.inner) where
        pub climbed : {below : Outcome} → 1 ≤ length counts → p.rows * row_width ≤ length rows → p.rows ≤ length masks
            → Below rows masks (set counts 0 count) rows' masks' coefs' counts' p.rows (less_room room p.rows count) (Some below) (numbered (level + 1) (left - 1) (start + count) (take p.keys keys))
            → Whole rows' masks' coefs' counts' room (Some (on_levels p.rows count below)) (numbered level left start (take count cur))
        climbed {below} c1 wide long b =
            let top =
            on_top_lem rows masks (set counts 0 count) room p.rows count (p.rows * row_width) records-are refl wide long (first_count counts count c1) (omega (arith, length-set counts 0 count)) few_rows few (b.whole.made below refl) in
            subst (λ (z : Built). Whole rows' masks' coefs' counts' room (Some (on_levels p.rows count below)) z) same-levels (whole-made (rw (b.rows_are, b.masks_are, b.counts_are) top))

        pub climbed-over : Below rows masks (set counts 0 count) rows' masks' coefs' counts' p.rows (less_room room p.rows count) None (numbered (level + 1) (left - 1) (start + count) (take p.keys keys))
            → Whole rows' masks' coefs' counts' room None (numbered level left start (take count cur))
        climbed-over b = gave_up (subst (TooMany room) same-levels (over_top rows masks room p.rows count (numbered (level + 1) (left - 1) (start + count) (take p.keys keys)) records-are few_rows few (b.whole.over refl)))

        -- whether the levels below were built or given up
        pub climbed-on : {r t : Option Outcome} → 1 ≤ length counts → p.rows * row_width ≤ length rows → p.rows ≤ length masks
            → Below rows masks (set counts 0 count) rows' masks' coefs' counts' p.rows (less_room room p.rows count) r (numbered (level + 1) (left - 1) (start + count) (take p.keys keys))
            → ((o : Outcome) → r ≡ Some o → t ≡ Some (on_levels p.rows count o)) → (r ≡ None → t ≡ None)
            → Whole rows' masks' coefs' counts' room t (numbered level left start (take count cur))
        climbed-on {r = None} c1 wide long b on over = rw (over refl) (climbed-over b)
        climbed-on {r = Some below} c1 wide long b on over = rw (on below refl) (climbed c1 wide long b)
