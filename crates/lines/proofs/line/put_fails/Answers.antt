-- `lines::line::put_fails` meets its contract: the word `fails`, then the place, the root and the choices, each in the tail that is left.
-- Assumes nothing.
use mathlib.Core.Path.{sym}
use native.Mathlib.Omega.{arith}
use lib.ListN.{take}
use lib.Seq.{length-take-le}
use Rattle.lines.specs.Numeral.{field, field_list}
use Rattle.lines.specs.Printed.{fails_name}
use Rattle.lines.proofs.Putting.{put_whole, put_on, put_as, put_less}
use Rattle.lines.proofs.Fields.{grouped}
use Rattle.lines.proofs.line.put_fails.Goals as goal

pub slice_bounds-put_fields-end-2 : goal.slice_bounds-put_fields-end-2
slice_bounds-put_fields-end-2 c =
    sym (length-take-le c.args.choices c.args.word.now c.requires.2)

pub put_fields-requires : goal.put_fields-requires
put_fields-requires c =
    omega (arith, (length-take-le c.args.choices c.args.word.now c.requires.2))

pub overflow_add-result : goal.overflow_add-result
overflow_add-result c =
    omega (arith, (length-take-le c.args.choices c.args.word.now c.requires.2), c.put_fields.ensures.few, c.put_field.ensures.few, c.put_field-root_at.ensures.few, c.requires.1)

pub returns : goal.returns
returns c =
    let named = put_whole fails_name c.args.out.now c.put_bytes.ensures in
    let placed = put_on named (omega arith) c.put_field-root_at.ensures in
    let rooted = put_on placed (omega arith) (rw c.from.ensures at c.put_field.ensures) in
    let all = put_on rooted (omega arith) c.put_fields.ensures in
    put_less (put_as all (grouped fails_name (field c.args.place) (field c.args.root) (field_list (take c.args.choices c.args.word.now))))
    111 (omega (arith, all.few, (length-take-le c.args.choices c.args.word.now c.requires.2)))
