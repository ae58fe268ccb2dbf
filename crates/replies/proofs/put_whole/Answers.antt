-- `replies::put_whole` meets its contract: the six parts, each in the tail that the one before it left, are the reply's bytes. Assumes nothing.
use mathlib.Core.Path.{◌≡◌, refl, ap, ◌∙◌}
use mathlib.Core.List.{[], List, ◌∷◌, ◌++◌}
use Prim.Native.Nat.{ℕ}
use native.Mathlib.Omega.{arith}
use lib.ListN.{length, drop, replicate, length-append}
use Rattle.stored.specs.Fields.{bytes32}
use Rattle.packing.proofs.Front.{lent_on}
use Rattle.replies.specs.Laid.{bytes_of}
use Rattle.replies.proofs.put_whole.Goals as goal

pub returns : goal.returns
unfolding bytes_of
returns c =
    let kind : List ℕ = c.args.reply.kind ∷ c.args.reply.number ∷ c.args.reply.source ∷ 0 ∷ [] in
    let place = kind ++ bytes32 c.args.reply.place in
    let count = place ++ bytes32 c.args.reply.count in
    let root = count ++ bytes32 c.args.reply.root in
    let placed = lent_on c.args.out.now kind (bytes32 c.args.reply.place) refl (omega arith) c.put_kind.ensures c.put_u32.ensures in
    let numbered = lent_on c.args.out.now place (bytes32 c.args.reply.count) refl (omega arith) placed c.put_u32-2.ensures in
    let rooted = lent_on c.args.out.now count (bytes32 c.args.reply.root) refl (omega arith) numbered (rw c.from.ensures at c.put_u32-3.ensures) in
    let worded = lent_on c.args.out.now root c.args.reply.word refl (omega arith) rooted c.put_bytes.ensures in
    let whole = lent_on c.args.out.now (root ++ c.args.reply.word) (replicate 27 0) (omega arith) (omega arith) worded c.zero_front_u8.ensures in
    let size : length (bytes_of c.args.reply) ≡ 64 = omega (arith, length-append c.args.reply.word (replicate 27 0)) in
    whole ∙ ap (λ (n : ℕ). bytes_of c.args.reply ++ drop n c.args.out.now) size
