-- `packing::pack` meets its contract: the head, then each run of records in the tail that the one before it left, and the four are the
-- file. Assumes nothing.
use mathlib.Core.Path.{refl, ap, ◌∙◌}
use mathlib.Core.List.{List, ◌++◌}
use Prim.Native.Nat.{ℕ}
use native.Mathlib.Omega.{arith}
use Rattle.putting.specs.Front.{at_front}
use Rattle.packing.specs.Written.{head_bytes}
use Rattle.putting.proofs.Front.{lent_on}
use Rattle.packing.proofs.File.{lvs_of, trs_of, lfs_of, laid}
use borrow.Author.Rules.{rules}
use Rattle.packing.proofs.pack.Goals as goal

pub put_lfs-requires : goal.put_lfs-requires
put_lfs-requires c =
    (search rules, rw (c.from-inner.ensures, c.from-leaves.ensures) c.requires.has_rows)

pub returns : goal.returns
returns c =
    let out = c.args.out.now in
    let f = c.args.form in
    let T = c.args.table.now in
    let head = head_bytes f.n f.k f.states f.inner f.leaves in
    let lvs = lvs_of f.n T.counts.now in
    let trs = trs_of T.rows.now T.masks.now f.inner in
    let lfs = lfs_of T.rows.now T.masks.now T.coefs.now f.inner f.leaves in
    let l = laid f.n f.k f.states f.inner f.leaves T.rows.now T.masks.now T.coefs.now T.counts.now c.requires.n_in_bounds.0 c.requires.n_in_bounds.1 in
    let at_trs = l.at_trs in
    let at_lfs = l.at_lfs in
    let levels = lent_on out head lvs refl (omega arith) c.put_hd.ensures (rw c.levels_of-levels.ensures at c.put_levels.ensures) in
    let inner = lent_on out (head ++ lvs) trs (omega arith) (omega arith) levels (rw c.from-inner.ensures at c.put_trs.ensures) in
    let leaves = lent_on out ((head ++ lvs) ++ trs) lfs (omega arith) (omega arith) inner (rw (c.from-inner.ensures, c.from-leaves.ensures) at c.put_lfs.ensures) in
    record {
      value = omega (arith, l.long);
      out_after = rw c.from-inner.ensures (leaves ∙ ap (λ (bytes : List ℕ). at_front bytes out) l.parts);
    }
