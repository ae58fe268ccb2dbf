-- `names::add` meets its contract: each slice has one store, at the place or at the bucket. Assumes nothing.
use mathlib.Core.Path.{refl}
use Rattle.names.proofs.add.Goals as goal

pub returns : goal.returns
returns c =
    let e = c.bucket_of-b.ensures.0 in
    record {
      keys_after = refl;
      link_after = rw e refl;
      heads_after = rw e refl;
    }
