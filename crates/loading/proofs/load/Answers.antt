-- `loading::load` meets its contract. Assumes nothing.
use mathlib.Core.Path.{◌≡◌, refl}
use native.Mathlib.Omega.{arith}
use borrow.Author.Rules.{rules}
use Rattle.std.specs.declared.result.Result.TheVariants.{Err}
use Rattle.stored.proofs.Reading.{Bytes}
use Rattle.setfile.specs.Answer.{bounds_of}
use Rattle.setfile.proofs.Taken.{taken}
use Rattle.loading.proofs.Loaded.{ready, roomy, roomy-kept, loaded, taken_value, fault_value, not_good}
use Rattle.loading.proofs.load.Goals as goal

pub unpack-requires : goal.unpack-requires
unpack-requires c =
    let t = taken (bounds_of c.args.bounds) 0 c.args.file.now _ (c.in_ok-form.ensures 0) in
    let bytes : Bytes c.args.file.now = record { byte = λ i. omega (arith, c.type_inv.file i) } in
    record { ready = ready t bytes; roomy = roomy t bytes c.requires }

pub returns-in_err-form : goal.returns-in_err-form
returns-in_err-form c =
    let e : c.from_residual.result ≡ Err c.in_err-form.field-0.0 = search rules in
    record {
      value = λ source. rw e (fault_value (bounds_of c.args.bounds) source c.args.file.now _ (c.in_err-form.ensures source));
      holding = λ source Q g. absurd (not_good (bounds_of c.args.bounds) source c.args.file.now _ (c.in_err-form.ensures source) Q g);
      long = record { rows = refl; masks = refl; coefs = refl; counts = refl; first = refl };
      same_slices = record { rows = refl; masks = refl; coefs = refl; counts = refl; first = refl };
    }

pub returns : goal.returns
returns c =
    let bytes : Bytes c.args.file.now = record { byte = λ i. omega (arith, c.type_inv.file i) } in
    record {
      value = λ source. taken_value (taken (bounds_of c.args.bounds) source c.args.file.now _ (c.in_ok-form.ensures source));
      holding = λ source Q g.
          let t = taken (bounds_of c.args.bounds) source c.args.file.now _ (c.in_ok-form.ensures source) in
          loaded t bytes (roomy t bytes (roomy-kept c.requires c.unpack.ensures.long)) c.unpack.ensures.unpacked Q g;
      long = c.unpack.ensures.long;
      same_slices = c.unpack.ensures.same_slices;
    }
