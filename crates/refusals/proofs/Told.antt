-- What a result tells of the judged thing that it hands on: an error is the refusal itself, and a value is seen of a good thing. Assumes nothing.
use mathlib.Core.Path.{◌≡◌, refl, sym}
use Prim.Native.Nat.{ℕ}
use native.Mathlib.Omega.{arith}
use Rattle.std.specs.Prelude.{Result}
use Rattle.std.specs.declared.result.Result.TheVariants.{Ok, Err}
use Rattle.stored.specs.Refusal.{Judged, refused, good, on_good}
use Rattle.refusals.specs.declared.Refusal.{Refusal}
use Rattle.refusals.specs.declared.Fault.{Fault}
use Rattle.refusals.specs.Refused.{told, told_at, judged, judged_at, seen}

module _ {A B : Type 0} (f : B → A) where
  -- an error
  pub turned_down : (j : Judged B) (r : Refusal) → judged {A = A} (Err r) ≡ seen f j → j ≡ refused (told r)
  turned_down (refused q) r e = cc
  turned_down (good y) r e = let z : ◌≡◌ {A = ℕ} 0 1 = cc in absurd (omega arith)

  -- the thing of which a value is seen
  pub record SeenOf (j : Judged B) (x : A) : Type 0 where
    pub thing : B
    pub good : j ≡ good thing
    pub value : x ≡ f thing

  -- a value
  pub good_seen : (j : Judged B) (x : A) → judged {A = A} (Ok x) ≡ seen f j → SeenOf j x
  good_seen (refused q) x e = let z : ◌≡◌ {A = ℕ} 0 1 = cc in absurd (omega arith)
  good_seen (good y) x e = record { thing = y; good = refl; value = cc }

  -- the same of a file of such a source
  pub fault_at : (source : ℕ) (j : Judged B) (r : Fault) → judged_at {A = A} source (Err r) ≡ seen f j → j ≡ refused (told_at source r)
  fault_at source (refused q) r e = cc
  fault_at source (good y) r e = let z : ◌≡◌ {A = ℕ} 0 1 = cc in absurd (omega arith)

  pub good_at : (source : ℕ) (j : Judged B) (x : A) → judged_at {A = A} source (Ok x) ≡ seen f j → SeenOf j x
  good_at source (refused q) x e = let z : ◌≡◌ {A = ℕ} 0 1 = cc in absurd (omega arith)
  good_at source (good y) x e = record { thing = y; good = refl; value = cc }

  -- a thing that is refused is refused still, whatever follows
  pub not_good : (j : Judged B) (r : Refusal) (y : B) → judged {A = A} (Err r) ≡ seen f j → j ≡ good y → ⊥
  not_good j r y e g = let h = turned_down j r e in let z : ◌≡◌ {A = ℕ} 0 1 = cc in omega arith

  pub refused_on : {C : Type 0} (j : Judged B) (r : Refusal) (k : B → Judged C) → judged {A = A} (Err r) ≡ seen f j → on_good j k ≡ refused (told r)
  refused_on j r k e = rw (turned_down j r e)

-- seen twice
pub seen_seen : {A B C : Type 0} (f : B → A) (g : C → B) (j : Judged C) → seen f (seen g j) ≡ seen (λ (x : C). f (g x)) j
seen_seen f g (refused q) = refl
seen_seen f g (good x) = refl
