-- In slices that hold a well-formed set, each state's rows have masks of 32 bits that share no choice, those of a leaf level too. Assumes nothing.
use mathlib.Core.Path.{◌≡◌, refl, sym, ap, ◌∙◌, subst}
use mathlib.Core.Bool.{Bool, true, false}
use mathlib.Core.List.{List, [], ◌∷◌, ◌++◌}
use Prim.Native.Nat.{ℕ, suc, ◌<◌}
use native.Mathlib.Omega.{arith}
use lib.Dec.{leb}
use lib.IntN.{ℤ}
use borrow.Author.Tests.{leb-true, leb-false}
use Rattle.automata.specs.Choice.{Alt, alt, map_alt}
use Rattle.automata.specs.Sets.{QSet, sum, own}
use Rattle.automata.proofs.Choosing.{Apart, Disjoint}
use Rattle.automata.proofs.Order.{Masked}
use Rattle.automata.proofs.Lists.{each_map}
use Rattle.stored.specs.Rules.{Bounds, level_of}
use Rattle.stored.proofs.Levels.{level-within}
use Rattle.stored.proofs.WellFormed.{WellFormed, FineTR, trs_fine}
use Rattle.gates.proofs.WellBuilt.{own-masked, tr-masks, lf_masks_lem, valid}
use Rattle.tables.specs.Table.{Holds}
use Rattle.tables.specs.States.{state_in}
use Rattle.tables.proofs.Ordered.{formed-rises}
use Rattle.tables.proofs.TableLaws.{named}
use Rattle.lookup.specs.Alts.{moves_in}
use Rattle.lookup.proofs.OwnRows.{own-none}
use Rattle.lookup.proofs.Finding.{lower, own-all, own-leaves, no_inner}
use Rattle.lookup.proofs.AltsLaws.{inner_alts, all-rows}

-- ---- what is said of masks does not depend on what is taken
module _ {X Y : Type 0} (f : X → Y) where
  masked-back : (us : List (Alt X)) → Masked (map_alt f us) → Masked us
  masked-back [] h = tt
  masked-back (alt m x ∷ us) h = (h.0, masked-back us h.1)

  apart-back : (m : ℕ) (us : List (Alt X)) → Apart m (map_alt f us) → Apart m us
  apart-back m [] h = tt
  apart-back m (alt m' x ∷ us) h = (h.0, apart-back m us h.1)

  disjoint-back : (us : List (Alt X)) → Disjoint (map_alt f us) → Disjoint us
  disjoint-back [] h = tt
  disjoint-back (alt m x ∷ us) h = (apart-back m us h.0, disjoint-back us h.1)

module _ {b : Bounds} {Q : QSet} (w : WellFormed b Q) {rows masks : List ℕ} {coefs : List ℤ} {counts first : List ℕ} (h : Holds rows masks coefs counts first Q) (q : ℕ)
    (there : q < sum Q.counts) where
  abbrev below : List (Alt (ℕ × ℕ))
  below = own q (lower h (formed-rises b Q w) q there)

  -- the rows of a state of level n+1 are those of its LF records
  leaf-rows : level_of Q q ≡ suc Q.n → below ≡ moves_in rows masks first q
  leaf-rows at =
      let none_here : own q Q.inner ≡ [] = own-none q Q.inner (each_map (FineTR Q) (λ t. state_in t ≡ q → ⊥) (no_inner w h q 0 at) Q.inner (trs_fine b Q w)) in
      sym (own-all h (formed-rises b Q w) q there ∙ ap (λ (us : List (Alt (ℕ × ℕ))). us ++ below) none_here) ∙ all-rows w h q there

  -- whatever is so of both kinds of records
  either_rows : (P : List (Alt (ℕ × ℕ)) → Type 0) → P (own q Q.inner) → P below → P (moves_in rows masks first q)
  either_rows P inner leaf = go (leb (level_of Q q) Q.n) refl
    where
      go : (c : Bool) → leb (level_of Q q) Q.n ≡ c → P (moves_in rows masks first q)
      go true e = subst P (inner_alts w h q (leb-true _ _ e)) inner
      go false e = subst P (leaf-rows (omega (arith, level-within 1 Q.counts q there, w.counted, leb-false (level_of Q q) Q.n e))) leaf

  pub rows-masked : Masked (moves_in rows masks first q)
  rows-masked =
      either_rows Masked (own-masked q Q.inner (tr-masks b Q w))
      (masked-back (named coefs) below (subst Masked (own-leaves h (formed-rises b Q w) q there) (own-masked q Q.leaves (lf_masks_lem b Q w))))

  pub rows-disjoint : Disjoint (moves_in rows masks first q)
  rows-disjoint =
      either_rows Disjoint ((valid b Q w).moves q) (disjoint-back (named coefs) below (subst Disjoint (own-leaves h (formed-rises b Q w) q there) ((valid b Q w).ends q)))
