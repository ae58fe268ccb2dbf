-- A role goes into the code's enum and back unchanged. Where the code takes several roles, or several shifts, in one arm, the definitions
-- answer all of them alike. Assumes nothing.
use mathlib.Core.Path.{◌≡◌, refl, ap, ap₂}
use Prim.Native.Nat.{ℕ, zero, suc}
use Rattle.gates.specs.Key as key
use Rattle.gates.specs.Key.{turned, plain, shifted, inside}
use Rattle.gates.specs.Roles as def
use Rattle.gates.specs.Roles.{pass, begin, cross, act, within, plain_kids, inside_kids, both_kids, pair_kids}
use Rattle.circuits.specs.declared.Kind.{Kind}
use Rattle.circuits.proofs.Answers.{kind-back}
use Rattle.roles.specs.declared.Role.{Role}
use Rattle.roles.specs.declared.Role.TheVariants.{Pass, Begin, Cross, Act, Within}
use Rattle.roles.specs.declared.Kids.{Kids}
use Rattle.roles.specs.Kept.{role_from, role_is}

-- the role that `role_at` answers is the definition's
pub role-back : (o : def.Role) → role_is (role_from o) ≡ o
role-back pass = refl
role-back begin = refl
role-back cross = refl
role-back (act k) = ap act (kind-back k)
role-back (within k) = ap within (kind-back k)

-- children with the same keys
pub same-kids : {l l' r r' : ℕ} → l ≡ l' → r ≡ r' → ◌≡◌ {A = Kids} (record { left = l; right = r }) (record { left = l'; right = r' })
same-kids = ap₂ (λ (l r : ℕ). record { left = l; right = r })

-- a state that is shifted at all
pub turned-some : (j q : ℕ) → (j ≡ 0 → ⊥) → turned j q ≡ shifted j q
turned-some zero q some = absurd (some refl)
turned-some (suc j) q some = refl

-- a role that neither begins nor acts leaves a plain state's children plain
pub plain-rest : (o : Role) (p : ℕ × ℕ) → ((k : Kind) → o ≡ Act k → ⊥) → (o ≡ Begin → ⊥) → plain_kids (role_is o) p ≡ (plain p.0, plain p.1)
plain-rest Pass p a b = refl
plain-rest Begin p a b = absurd (b refl)
plain-rest Cross p a b = refl
plain-rest (Act k) p a b = absurd (a k refl)
plain-rest (Within k) p a b = refl

-- a role that does not act within leaves a state's children inside
pub inside-rest : (o : Role) (p : ℕ × ℕ) → ((k : Kind) → o ≡ Within k → ⊥) → inside_kids (role_is o) p ≡ (inside p.0, inside p.1)
inside-rest Pass p h = refl
inside-rest Begin p h = refl
inside-rest Cross p h = refl
inside-rest (Act k) p h = refl
inside-rest (Within k) p h = absurd (h k refl)

-- a role that does not cross leaves a pair's children with their partners
pub pair-rest : (o : Role) (s : key.Side) (q p : ℕ × ℕ) → (o ≡ Cross → ⊥) → pair_kids (role_is o) s q p ≡ both_kids s q p
pair-rest Pass s q p h = refl
pair-rest Begin s q p h = refl
pair-rest Cross s q p h = absurd (h refl)
pair-rest (Act k) s q p h = refl
pair-rest (Within k) s q p h = refl
