-- A level that is about to grow: with no chain begun it may, and what it grows from is nothing. Assumes nothing.
use mathlib.Core.Path.{◌≡◌, refl, ap, ◌∙◌, subst}
use mathlib.Core.List.{List}
use Prim.Native.Nat.{ℕ}
use native.Mathlib.Omega.{arith}
use lib.Dec.{eqb}
use lib.ListN.{length, take, replicate}
use Rattle.std.specs.Prelude.{Option, Some, None}
use Rattle.gates.specs.Roles as def
use Rattle.stored.specs.Fields.{records_from}
use Rattle.tables.specs.Table.{tr_rows}
use Rattle.stepwise.specs.Grow.{Level, begun, grow_all}
use Rattle.names.specs.Chain.{Chained}
use Rattle.names.proofs.ChainLaws as chains
use Rattle.roles.specs.Kept.{role_is, role_from}
use Rattle.roles.proofs.Cases.{role-back}
use Rattle.roles.specs.declared.Role.{Role}
use Rattle.growing.specs.Growing.{level_in, Growing, Grew}
use Rattle.growing.specs.declared.NewLevel.{NewLevel}
use Rattle.growing.specs.declared.Most.{Most}
use Rattle.moving.specs.Moves.{moves_of}
use Rattle.growing.specs.declared.Progress.{Progress}
use Rattle.building.specs.Fresh.{Fresh, Stood, Climbed}

-- a level with nothing in it may grow
pub fresh_grows : {rows masks keys link heads₀ : List ℕ} {most : Most} (v : NewLevel) → Fresh rows masks keys link heads₀ most → v.rows.now ≡ rows → v.masks.now ≡ masks → v.keys.now ≡ keys
    → v.link.now ≡ link → v.heads.now ≡ replicate (length heads₀) 0 → v.done ≡ record { rows = 0; keys = 0 } → v.most ≡ most → Growing v
fresh_grows {heads₀ = heads₀} {most} v f r m k l h d s =
    let rows_same : v.most.rows ≡ most.rows = ap (λ (x : Most). x.rows) s in
    let keys_same : v.most.keys ≡ most.keys = ap (λ (x : Most). x.keys) s in
    let base_same : v.most.base ≡ most.base = ap (λ (x : Most). x.base) s in
    let no_rows : v.done.rows ≡ 0 = ap (λ (x : Progress). x.rows) d in
    let no_keys : v.done.keys ≡ 0 = ap (λ (x : Progress). x.keys) d in
    record {
      chained = rw no_keys (chains.begun v.keys.now v.link.now v.heads.now (length heads₀) f.buckets h);
      rows_few = omega (arith, no_rows);
      keys_few = omega (arith, no_keys);
      wide = omega (arith, f.wide, ap length r);
      long = omega (arith, f.long, ap length m);
      room = omega (arith, f.room, ap length k);
      links = omega (arith, f.links, ap length l);
      small = omega (arith, f.small);
    }

climbed-some : {rows masks keys : List ℕ} {p : Progress} {most : Most} {G : Level ℕ} → Stood rows masks keys p most G → Climbed rows masks keys (Some p) most G
climbed-some {rows} {masks} {keys} {p} {most} {G} h =
    record { stood = λ q e. (let same : p ≡ q = cc in subst (λ (x : Progress). Stood rows masks keys x most G) same h); over = λ e. cc }

from-none : (rows masks keys : List ℕ) → record { records = tr_rows rows masks 0 0; keys = take 0 keys } ≡ begun
unfolding tr_rows records_from
from-none rows masks keys = refl

-- the level's growth by the role that was found is that by the gate's role, from nothing
module _ (w : NewLevel) (most : Most) (o : def.Role) (found : Role) (e : found ≡ role_from o) (old oldmasks first : List ℕ) (start : ℕ) (xs rows₀ masks₀ keys₀ : List ℕ)
    (r : Option Unit) (h : Grew w r most (grow_all eqb most.base (moves_of (role_is found) old oldmasks first) start xs (record { records = tr_rows rows₀ masks₀ 0 0; keys = take 0 keys₀ }))) where
  grew : Grew w r most (grow_all eqb most.base (moves_of o old oldmasks first) start xs begun)
  grew =
      let back : role_is found ≡ o = ap role_is e ∙ role-back o in
      let l : record { records = tr_rows rows₀ masks₀ 0 0; keys = take 0 keys₀ } ≡ begun = from-none rows₀ masks₀ keys₀ in
      subst (λ (L : Level ℕ). Grew w r most (grow_all eqb most.base (moves_of o old oldmasks first) start xs L)) l
      (subst (λ (q : def.Role). Grew w r most (grow_all eqb most.base (moves_of q old oldmasks first) start xs (record { records = tr_rows rows₀ masks₀ 0 0; keys = take 0 keys₀ }))) back h)

  pub stood-begun : w.most ≡ most → r ≡ Some tt → Climbed w.rows.now w.masks.now w.keys.now (Some w.done) most (grow_all eqb most.base (moves_of o old oldmasks first) start xs begun)
  stood-begun same is =
      let l : level_in w ≡ grow_all eqb most.base (moves_of o old oldmasks first) start xs begun = grew.held is in
      let g = grew.growing is in
      let rows_same : w.most.rows ≡ most.rows = ap (λ (x : Most). x.rows) same in
      let keys_same : w.most.keys ≡ most.keys = ap (λ (x : Most). x.keys) same in
      climbed-some (record { records = ap (λ (L : Level ℕ). L.records) l; named = ap (λ (L : Level ℕ). L.keys) l; rows_few = omega (arith, g.rows_few); keys_few = omega (arith, g.keys_few) })

  pub over-begun : {rows masks keys : List ℕ} → r ≡ None → Climbed rows masks keys None most (grow_all eqb most.base (moves_of o old oldmasks first) start xs begun)
  over-begun is = record { stood = λ p e. cc; over = λ e. grew.over is }

-- a level that grew has its chains through its keys
pub chained-some : (w : NewLevel) (most : Most) (G : Level ℕ) → Grew w (Some tt) most G → (p : Progress) → Some w.done ≡ Some p → Chained w.keys.now w.link.now w.heads.now p.keys
chained-some w most G g p e =
    let same : w.done ≡ p = cc in
    subst (λ (x : Progress). Chained w.keys.now w.link.now w.heads.now x.keys) same (g.growing refl).chained

-- the same keys and chains by another name
pub chained-in : {keys keys' link link' heads heads' : List ℕ} {r : Option Progress} → keys' ≡ keys → link' ≡ link → heads' ≡ heads
    → ((p : Progress) → r ≡ Some p → Chained keys link heads p.keys) → (p : Progress) → r ≡ Some p → Chained keys' link' heads' p.keys
chained-in a b c h = rw (a, b, c) h

-- the same slices by another name
pub stood-in : {rows rows' masks masks' keys keys' : List ℕ} {r : Option Progress} {most : Most} {G : Level ℕ} → rows' ≡ rows → masks' ≡ masks → keys' ≡ keys → Climbed rows masks keys r most G → Climbed rows' masks' keys' r most G
stood-in a b c h = rw (a, b, c) h
