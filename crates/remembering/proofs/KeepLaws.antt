-- A block that is remembered moves no other block: slots have cells of their own, and so have a slot's planes and levels. Assumes nothing.
use mathlib.Core.Path.{◌≡◌, sym, ap, ◌∙◌}
use mathlib.Core.Bool.{true}
use mathlib.Core.List.{List}
use Prim.Native.Nat.{ℕ, suc, ◌+◌, ◌*◌, ◌<◌, ◌≤◌}
use native.Mathlib.Decide.{dec_lt, ℕ_discrete, le_ind}
use native.Mathlib.Nat.{mul-le-mul_right}
use native.Mathlib.Omega.{arith}
use lib.ListN.{length, get_or, set}
use lib.Seq.{get_or-drop, get_or-set_same, get_or-set_other}
use Rattle.meeting.proofs.Places.{words-before}
use Rattle.std.specs.Prelude.{Option}
use Rattle.std.specs.declared.option.Option.TheVariants.{Some, None}
use Rattle.remembering.specs.declared.Seen.{Seen}
use Rattle.remembering.specs.Fits.{Placed, Fits, Put}
use Rattle.remembering.specs.Memory.{Same, slot_row, slot_stack, levels_most, cell_of, Saying, Remembered, Memory}
use Rattle.remembering.proofs.SlotLaws.{same_slot, fits-placed, cell_below}

some-same : {x y : Seen} → ◌≡◌ {A = Option Seen} (Some x) (Some y) → x ≡ y
some-same e = cc

-- a place in one of several parts of the same size tells the part and the place in it
own_cell : (size a b i j : ℕ) → i < size → j < size → a * size + i ≡ b * size + j → (a ≡ b) × (i ≡ j)
own_cell size a b i j h l e = go (dec_lt a b) (dec_lt b a)
  where
    go : Dec (a < b) → Dec (b < a) → (a ≡ b) × (i ≡ j)
    go (yes q) d = absurd (omega (arith, words-before size a b q))
    go (no q) (yes r) = absurd (omega (arith, words-before size b a r))
    go (no q) (no r) =
        let same : a ≡ b = omega arith in
        (same, omega (arith, ap (λ (x : ℕ). x * size) same))

-- the cell of a plane lies in the slot
in_stack : (room plane j i : ℕ) → j < room → i < plane → j * plane + i < room * plane
in_stack room plane j i h l = omega (arith, words-before plane j room h)

-- ---- levels: their states rise
module _ (low : ℕ → ℕ) (rising : (i : ℕ) → i < levels_most → low i ≤ low (suc i)) where
  rises : (a b : ℕ) → a ≤ b → b ≤ levels_most → low a ≤ low b
  rises a b h = le_ind {n = a} (λ k. k ≤ levels_most → low a ≤ low k) (λ l. omega arith) (λ k l s q. let t = s (omega arith) in omega (arith, rising k (omega arith))) b h

  -- the stretches of two levels, each state so many cells wide, are apart
  levels-apart : (wide a b i : ℕ) → a < levels_most → b < levels_most → (a ≡ b → ⊥)
      → low a * wide ≤ i → i < low (suc a) * wide → low b * wide ≤ i → i < low (suc b) * wide → ⊥
  levels-apart wide a b i la lb n a1 a2 b1 b2 = go (dec_lt a b)
    where
      go : Dec (a < b) → ⊥
      go (yes q) = omega (arith, mul-le-mul_right wide (rises (suc a) b (omega arith) (omega arith)))
      go (no q) = omega (arith, mul-le-mul_right wide (rises (suc b) a (omega arith) (omega arith)))

-- ---- what slot k got at level `at` is no cell of another slot, nor of another level
module _
    {at from to p wide plane room cells k : ℕ} {row stack kept rows kept' rows' : List ℕ} (low : ℕ → ℕ) (rising : (i : ℕ) → i < levels_most → low i ≤ low (suc i))
    (e : from ≡ low at) (f : to ≡ low (suc at)) (la : at < levels_most) (w : Placed from to p wide plane room cells k row stack kept rows)
    (put : Put from to p wide plane room cells k row stack kept rows kept' rows') where
  module _ (slot level size : ℕ) (lb : level < levels_most) (apart : (slot ≡ k) × (level ≡ at) → ⊥) (few : size ≤ room) (short : low (suc level) ≤ cells) (narrow : low (suc level) * wide ≤ plane) where
    state_stays : (s : ℕ) → low level ≤ s → s < low (suc level) → get_or rows' (slot * cells + s) 0 ≡ get_or rows (slot * cells + s) 0
    state_stays s a b = put.states.outside (slot * cells + s) (λ i c d q. go i c d (own_cell cells slot k s i (omega arith) (omega (arith, w.short)) q) (ℕ_discrete level at))
      where
        go : (i : ℕ) → from ≤ i → i < to → (slot ≡ k) × (s ≡ i) → Dec (level ≡ at) → ⊥
        go i c d o (yes q) = apart (o.0, q)
        go i c d o (no q) =
            let same = o.1 in
            levels-apart low rising 1 level at s lb la q (omega arith) (omega arith) (omega arith) (omega arith)

    mark_stays : (j i : ℕ) → j < size → low level * wide ≤ i → i < low (suc level) * wide
        → get_or kept' (slot * (room * plane) + (j * plane + i)) 0 ≡ get_or kept (slot * (room * plane) + (j * plane + i)) 0
    mark_stays j i h a b =
        put.marks.outside (slot * (room * plane) + (j * plane + i))
        (λ g x l c d q.
        let o = own_cell (room * plane) slot k (j * plane + i) (g * plane + x) (in_stack room plane j i (omega arith) (omega arith)) (in_stack room plane g x (omega (arith, w.few)) (omega (arith, w.narrow))) q in
        go x c d o.0 (own_cell plane j g i x (omega arith) (omega (arith, w.narrow)) o.1) (ℕ_discrete level at))
      where
        go : (x : ℕ) → from * wide ≤ x → x < to * wide → slot ≡ k → {g : ℕ} → (j ≡ g) × (i ≡ x) → Dec (level ≡ at) → ⊥
        go x c d s o (yes q) = apart (s, q)
        go x c d s o (no q) =
            let same = o.1 in
            let c' : low at * wide ≤ i = rw (← e) (omega arith) in
            let d' : i < low (suc at) * wide = rw (← f) (omega arith) in
            levels-apart low rising wide level at i lb la q a b c' d'

  other_stays : (good : Saying) (slot level m size : ℕ) → level < levels_most → ((slot ≡ k) × (level ≡ at) → ⊥)
      → Remembered wide plane room cells low good slot level m size rows kept → Remembered wide plane room cells low good slot level m size rows' kept'
  other_stays good slot level m size lb apart r = record {
    few = r.few;
    short = r.short;
    narrow = r.narrow;
    says = λ row₁ stack₁ same. r.says row₁ stack₁ (record {
      states = λ s a b.
          get_or-drop (slot * cells) rows s 0 ∙ sym (state_stays slot level size lb apart r.few r.short r.narrow s a b)
          ∙ sym (get_or-drop (slot * cells) rows' s 0) ∙ same.states s a b;
      marks = λ j i h a b.
          get_or-drop (slot * (room * plane)) kept (j * plane + i) 0 ∙ sym (mark_stays slot level size lb apart r.few r.short r.narrow j i h a b)
          ∙ sym (get_or-drop (slot * (room * plane)) kept' (j * plane + i) 0) ∙ same.marks j i h a b;
    });
  }

  -- a block that is the same as what slot k has now is the same as the one that was put
  other_way : {row₁ stack₁ : List ℕ} → Same wide plane from to p row₁ stack₁ (slot_row cells k rows') (slot_stack room plane k kept') → Same wide plane from to p row stack row₁ stack₁
  other_way same =
      let here = same_slot wide room cells k put.states.inside put.marks.inside in
      record { states = λ s a b. sym (same.states s a b) ∙ here.states s a b; marks = λ j i h a b. sym (same.marks j i h a b) ∙ here.marks j i h a b }

  -- the block that was put says what holds of each block that is the same
  here-says : (good : Saying) (m : ℕ) → ((row₁ stack₁ : List ℕ) → Same wide plane from to p row stack row₁ stack₁ → good at p row₁ stack₁ m ≡ true)
      → Remembered wide plane room cells low good k at m p rows' kept'
  here-says good m h = record {
    few = w.few;
    short = rw (← f) w.short;
    narrow = rw (← f) w.narrow;
    says = λ row₁ stack₁ same. h row₁ stack₁ (other_way (rw (← e, ← f) at same));
  }

module _
    {at from to p wide plane room cells slots k m : ℕ} {row stack kept rows kept' rows' : List ℕ} {seen : List (Option Seen)} (low : ℕ → ℕ) (good : Saying)
    (rising : (i : ℕ) → i < levels_most → low i ≤ low (suc i)) (e : from ≡ low at) (f : to ≡ low (suc at))
    (w : Fits at from to p wide plane room cells slots row stack kept rows seen) (lt : k < slots)
    (put : Put from to p wide plane room cells k row stack kept rows kept' rows') where
  pub keeps-memory : Memory wide plane room cells slots low good seen rows kept
      → ((row₁ stack₁ : List ℕ) → Same wide plane from to p row stack row₁ stack₁ → good at p row₁ stack₁ m ≡ true)
      → Memory wide plane room cells slots low good (set seen (cell_of k at) (Some (record { members = m; planes = p }))) rows' kept'
  keeps-memory memory h = record { each = λ slot level m₁ p₁ ls ll known. go slot level m₁ p₁ ls ll known (ℕ_discrete slot k) (ℕ_discrete level at) }
    where
      placed : Placed from to p wide plane room cells k row stack kept rows
      placed = fits-placed k w lt

      here : (m₁ p₁ : ℕ) → get_or (set seen (cell_of k at) (Some (record { members = m; planes = p }))) (cell_of k at) None ≡ Some (record { members = m₁; planes = p₁ })
          → Remembered wide plane room cells low good k at m₁ p₁ rows' kept'
      here m₁ p₁ known =
          let new = get_or-set_same seen (cell_of k at) (Some (record { members = m; planes = p })) None (cell_below k at slots (length seen) lt w.level w.in_seen) in
          let same : ◌≡◌ {A = Seen} (record { members = m; planes = p }) (record { members = m₁; planes = p₁ }) = some-same (sym new ∙ known) in
          rw (← ap (λ (x : Seen). x.members) same, ← ap (λ (x : Seen). x.planes) same) (here-says low rising e f w.level placed put good m h)

      other : (slot level m₁ p₁ : ℕ) → slot < slots → level < levels_most
          → get_or (set seen (cell_of k at) (Some (record { members = m; planes = p }))) (cell_of slot level) None ≡ Some (record { members = m₁; planes = p₁ })
          → ((slot ≡ k) × (level ≡ at) → ⊥) → Remembered wide plane room cells low good slot level m₁ p₁ rows' kept'
      other slot level m₁ p₁ ls ll known apart =
          let ne : cell_of slot level ≡ cell_of k at → ⊥ = λ q. apart (own_cell levels_most slot k level at ll w.level q) in
          other_stays low rising e f w.level placed put good slot level m₁ p₁ ll apart
          (memory.each slot level m₁ p₁ ls ll (sym (get_or-set_other seen (cell_of k at) (cell_of slot level) (Some (record { members = m; planes = p })) None ne) ∙ known))

      go : (slot level m₁ p₁ : ℕ) → slot < slots → level < levels_most
          → get_or (set seen (cell_of k at) (Some (record { members = m; planes = p }))) (cell_of slot level) None ≡ Some (record { members = m₁; planes = p₁ })
          → Dec (slot ≡ k) → Dec (level ≡ at) → Remembered wide plane room cells low good slot level m₁ p₁ rows' kept'
      go slot level m₁ p₁ ls ll known (yes q) (yes r) = rw (q, r) (here m₁ p₁ (rw (q, r) at known))
      go slot level m₁ p₁ ls ll known (yes q) (no r) = other slot level m₁ p₁ ls ll known (λ o. r o.1)
      go slot level m₁ p₁ ls ll known (no q) d = other slot level m₁ p₁ ls ll known (λ o. q o.0)
