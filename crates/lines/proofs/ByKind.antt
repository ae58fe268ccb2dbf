-- The words of each kind of reply, and of a lent slice that has room or has not: each test picks its case. Assumes nothing.
use mathlib.Core.Path.{◌≡◌}
use mathlib.Core.Bool.{true, false}
use mathlib.Core.List.{List, [], ◌∷◌, ◌++◌}
use Prim.Native.Nat.{ℕ}
use lib.ListN.{take}
use borrow.Author.Tests.{ne_eqb}
use Rattle.replies.specs.declared.Fields.{Fields}
use Rattle.lines.specs.Numeral.{field_list}
use Rattle.lines.specs.Put.{Put}
use Rattle.lines.specs.Printed.{refused_name, holds_name, fails_name, undecided_name, words_of, line_of, fits, printed_in, printed_length}

module _ (r : Fields) (choices : ℕ) where
  pub words-refused : r.kind ≡ 0 → refused_name ++ field_list (r.number ∷ r.source ∷ r.place ∷ []) ≡ words_of r choices
  unfolding words_of
  words-refused e = rw e

  pub words-made : r.kind ≡ 1 → [] ≡ words_of r choices
  unfolding words_of
  words-made e = rw e

  pub words-holds : r.kind ≡ 2 → holds_name ++ field_list (r.count ∷ []) ≡ words_of r choices
  unfolding words_of
  words-holds e = rw e

  pub words-fails : r.kind ≡ 3 → fails_name ++ field_list (r.count ∷ r.root ∷ take choices r.word) ≡ words_of r choices
  unfolding words_of
  words-fails e = rw e

  pub words-undecided : (r.kind ≡ 0 → ⊥) → (r.kind ≡ 1 → ⊥) → (r.kind ≡ 2 → ⊥) → (r.kind ≡ 3 → ⊥)
      → undecided_name ++ field_list (r.count ∷ []) ≡ words_of r choices
  unfolding words_of
  words-undecided a b c d = rw (ne_eqb r.kind 0 a, ne_eqb r.kind 1 b, ne_eqb r.kind 2 c, ne_eqb r.kind 3 d)

  -- the slice has room
  pub room-left : {entry exit : List ℕ} {most n : ℕ} → fits choices entry ≡ true → Put (line_of r choices) most entry exit n
      → (n ≡ printed_length r choices entry) × (exit ≡ printed_in r choices entry)
  unfolding printed_length printed_in
  room-left e p = (rw e p.count, rw e p.front)

  pub no_room : (out : List ℕ) → fits choices out ≡ false → (0 ≡ printed_length r choices out) × (out ≡ printed_in r choices out)
  unfolding printed_length printed_in
  no_room out e = (rw e, rw e)
