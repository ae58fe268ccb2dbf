-- Document 01, "Replies": a refusal, and a thing that is judged: refused, or good.
use Rattle.std.specs.Prelude.{Bool, true, false, ℕ}

-- "A refusal returns its number, its source .. and its place"
pub record Refusal : Type 0 where
  pub number : ℕ
  pub source : ℕ
  pub place : ℕ

abbrev pub refusal : ℕ → ℕ → ℕ → Refusal
refusal number source place = record { number = number; source = source; place = place }

pub data Judged (X : Type 0) : Type 0 where
  refused : Refusal → Judged X
  good : X → Judged X

-- where the test fails it is refused so, else it is what the rest says: the first test that fails wins
abbrev pub need : {X : Type 0} → Bool → Refusal → Judged X → Judged X
need true r rest = rest
need false r rest = refused r

-- what follows a thing that is good
abbrev pub on_good : {X Y : Type 0} → Judged X → (X → Judged Y) → Judged Y
on_good (refused r) f = refused r
on_good (good x) f = f x

-- "(1 start, 2 circuit, 3 end, 0 for 13, 17, 18)"
abbrev pub no_source : ℕ
no_source = 0

abbrev pub start_source : ℕ
start_source = 1

abbrev pub circuit_source : ℕ
circuit_source = 2

abbrev pub end_source : ℕ
end_source = 3
