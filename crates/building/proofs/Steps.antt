-- A level on top of the levels below it: what the slices hold once the rest, in which those stand, has come back. Assumes nothing.
use mathlib.Core.Path.{◌≡◌, refl, sym, ap, ap₂, ◌∙◌, subst}
use mathlib.Core.Bool.{true}
use mathlib.Core.Logic.{inl, inr}
use mathlib.Core.List.{List, [], ◌∷◌, ◌++◌}
use Prim.Native.Nat.{ℕ, zero, suc, ◌+◌, ◌-◌, ◌*◌, ◌<◌, ◌≤◌}
use native.Mathlib.Omega.{arith}
use lib.Dec.{eqb}
use lib.IntN.{ℤ}
use lib.ListN.{length, get_or, take, length-append}
use borrow.Rule.Slice.PartMut.{put_mid}
use Rattle.std.specs.Prelude.{Option, Some, None}
use Rattle.automata.specs.Tree.{Automaton}
use Rattle.automata.specs.Sets.{TR, LF, sum}
use Rattle.stored.specs.Fields.{records_from}
use Rattle.gates.specs.Numbering.{Built, on_top, mention_all, number}
use Rattle.tables.specs.Table.{row_width, tr_rows, lf_rows}
use Rattle.stepwise.specs.Grow.{Level, begun, grow_all}
use Rattle.stepwise.proofs.GrowLaws.{grown, all-keys}
use Rattle.growing.specs.Growing.{Over}
use Rattle.growing.specs.declared.Most.{Most}
use borrow.Author.Tests.{eq-eqb}
use Rattle.endrow.specs.Ended.{Lent, Added}
use Rattle.endrow.specs.declared.Ending.{Ending}
use Rattle.building.specs.Whole.{TooMany, Wide, Made, Whole, on_levels}
use Rattle.building.specs.declared.Room.{Room}
use Rattle.building.specs.declared.Outcome.{Outcome}
use Rattle.building.proofs.Tails.{tail_back, trs_on, lfs_on, row-after}

rows-many : (rows masks : List ℕ) (from count : ℕ) → length (tr_rows rows masks from count) ≡ count
unfolding tr_rows records_from
rows-many rows masks from zero = refl
rows-many rows masks from (suc count) = ap suc (rows-many rows masks (from + 1) count)

-- ---- the definitions' level, with its states as stored keys
module _ (A : Automaton ℕ) (i n s : ℕ) (xs : List ℕ) where
  abbrev pub level_on : Level ℕ
  level_on = grow_all eqb (s + length xs) (A.moves i) s xs begun

  pub number-suc : number eqb A i (suc n) s xs ≡ on_top (length xs) level_on.records (number eqb A (suc i) n (s + length xs) level_on.keys)
  number-suc =
      let k : level_on.keys ≡ mention_all eqb (A.moves i) [] xs = all-keys eqb (λ x. eq-eqb x x refl) (s + length xs) (A.moves i) s xs begun in
      ap₂ (λ (ts : List TR) (ks : List ℕ). on_top (length xs) ts (number eqb A (suc i) n (s + length xs) ks)) (sym (grown eqb (λ x. eq-eqb x x refl) (s + length xs) (A.moves i) s xs)) (sym k)

-- each level's states are among all
pub states-count : (A : Automaton ℕ) (i n s : ℕ) (xs : List ℕ) → length xs ≤ sum (number eqb A i n s xs).counts
states-count A i zero s xs = omega arith
states-count A i (suc n) s xs = omega arith

-- ---- a level that is given up
pub over-level : (room : Room) (most : Most) (count : ℕ) (G : Level ℕ) (B : Built) → most.rows ≡ room.inner → most.keys ≡ room.states - count → length G.keys ≤ sum B.counts
    → Over most G → TooMany room (on_top count G.records B)
over-level room most count G B e f le (inl h) = inl (omega (arith, length-append G.records B.inner))
over-level room most count G B e f le (inr h) = inr (inr (omega arith))

-- ---- a level on top
abbrev pub less_room : Room → ℕ → ℕ → Room
less_room room w count = record { inner = room.inner - w; leaves = room.leaves; states = room.states - count }

module _ (rows masks counts : List ℕ) (room : Room) (w count k : ℕ) {rest mrest : List ℕ} {coefs : List ℤ} {crest : List ℕ} {r : Outcome} {ts : List TR} {B : Built}
    (are : tr_rows rows masks 0 w ≡ ts) (wide : k ≡ w * row_width) (there : k ≤ length rows) (long : w ≤ length masks) (first : take 1 counts ≡ count ∷ []) (some : 1 ≤ length counts)
    (few : w ≤ room.inner) (few_states : count ≤ room.states) (b : Made rest mrest coefs crest (less_room room w count) r B) where
  many : length ts ≡ w
  many = ap length (sym are) ∙ rows-many rows masks 0 w

  levels : take (length B.counts) crest ≡ B.counts → take (suc (length B.counts)) (put_mid 1 (length counts - 1) counts crest) ≡ count ∷ B.counts
  levels e = ap (take (suc (length B.counts))) (tail_back counts crest 1 some ∙ ap (λ (l : List ℕ). l ++ crest) first) ∙ ap (λ (l : List ℕ). count ∷ l) e

  pub on_top_lem : Made (put_mid k (length rows - k) rows rest) (put_mid w (length masks - w) masks mrest) coefs (put_mid 1 (length counts - 1) counts crest) room (on_levels w count r) (on_top count ts B)
  on_top_lem = record {
    inner = trs_on rows rest masks mrest w k wide there long r.inner ∙ ap₂ (λ (a c : List TR). a ++ c) are b.inner;
    many_leaves = b.many_leaves;
    levels = levels b.levels;
    states = ap (λ (n : ℕ). count + n) b.states;
    fitting = b.fitting;
    leaves = λ f. lfs_on rows rest masks mrest w k wide there long coefs r.inner r.leaves ∙ b.leaves f;
    numbered =
        λ i lt.
        (let e : (w + r.inner + i) * row_width + 1 ≡ (w + (r.inner + i)) * row_width + 1 = omega arith in
        ap (λ (n : ℕ). get_or (put_mid k (length rows - k) rows rest) n 0) e ∙ row-after rows rest masks mrest w k wide there long (r.inner + i) 1 ∙ b.numbered i lt);
    inner_few = omega (arith, b.inner_few);
    leaves_few = b.leaves_few;
    states_few = omega (arith, b.states_few);
  }

-- levels that are too many for the rest are too many
pub over_top : (rows masks : List ℕ) (room : Room) (w count : ℕ) (B : Built) {ts : List TR} → tr_rows rows masks 0 w ≡ ts → w ≤ room.inner → count ≤ room.states
    → TooMany (less_room room w count) B → TooMany room (on_top count ts B)
over_top rows masks room w count B {ts} are few few_states (inl h) = inl (omega (arith, length-append ts B.inner, ap length are, rows-many rows masks 0 w))
over_top rows masks room w count B are few few_states (inr (inl h)) = inr (inl h)
over_top rows masks room w count B are few few_states (inr (inr h)) = inr (inr (omega arith))

-- levels that were built
pub whole-made : {rows masks : List ℕ} {coefs : List ℤ} {counts : List ℕ} {room : Room} {r : Outcome} {B : Built} → Made rows masks coefs counts room r B → Whole rows masks coefs counts room (Some r) B
whole-made {rows} {masks} {coefs} {counts} {room} {r} {B} h = record {
  made = λ o e. let same : r ≡ o = cc in subst (λ (x : Outcome). Made rows masks coefs counts room x B) same h;
  over = λ e. cc;
}

-- levels that are given up
pub gave_up : {rows masks : List ℕ} {coefs : List ℤ} {counts : List ℕ} {room : Room} {B : Built} → TooMany room B → Whole rows masks coefs counts room None B
gave_up h = record { made = λ o e. cc; over = λ e. h }

-- ---- the leaf level
abbrev pub no_leaf : Ending
no_leaf = record { rows = 0; fits = true }

pub may_end : {rows masks : List ℕ} {coefs : List ℤ} {room : Room} → Wide rows masks coefs room → Lent rows masks coefs room.leaves no_leaf
may_end h = record {
  wide = omega (arith, h.wide);
  long = omega (arith, h.long);
  deep = h.deep;
  within = omega arith;
  named = λ i lt. absurd (omega arith);
}

module _ {rows masks rows' masks' : List ℕ} {coefs coefs' : List ℤ} {room : Room} {E : List LF} (count : ℕ) where
  pub last_whole : {e : Ending} → count ≤ room.states → Added rows masks coefs no_leaf room.leaves E rows' masks' coefs' e → (counts : List ℕ) → take 1 counts ≡ count ∷ []
      → Whole rows' masks' coefs' counts room (Some (record { inner = 0; leaves = e.rows; states = count; fits = e.fits })) (record { counts = count ∷ []; inner = []; leaves = E })
  unfolding tr_rows lf_rows records_from
  last_whole {e} few a counts c =
      whole-made (record {
        inner = refl;
        many_leaves = omega (arith, a.many);
        levels = c;
        states = omega arith;
        fitting = a.fitting;
        leaves = a.are;
        numbered = λ i lt. (let z : 0 + i ≡ i = omega arith in ap (λ (j : ℕ). get_or rows' (j * row_width + 1) 0) z ∙ a.lent.named i lt);
        inner_few = omega arith;
        leaves_few = a.lent.within;
        states_few = few;
      })

pub last-over : {rows' masks' : List ℕ} {coefs' : List ℤ} {room : Room} {E : List LF} (count : ℕ) → room.leaves < 0 + length E → (counts : List ℕ) → Whole rows' masks' coefs' counts room None (record { counts = count ∷ []; inner = []; leaves = E })
last-over count h counts = gave_up (inr (inl (omega (arith, h))))

-- the same slices by another name
pub whole-in : {rows rows' masks masks' : List ℕ} {coefs coefs' : List ℤ} {room : Room} {r : Option Outcome} {B : List ℕ → Built} {first : List ℕ} → rows' ≡ rows → masks' ≡ masks → coefs' ≡ coefs
    → ((counts : List ℕ) → take 1 counts ≡ first → Whole rows masks coefs counts room r (B counts)) → (counts : List ℕ) → take 1 counts ≡ first → Whole rows' masks' coefs' counts room r (B counts)
whole-in a b c h = rw (a, b, c) h
