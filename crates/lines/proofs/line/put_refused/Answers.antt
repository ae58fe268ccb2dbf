-- `lines::line::put_refused` meets its contract: the word, then two fields in the tail, then the third in the tail of that. Assumes nothing.
use mathlib.Core.Path.{ap, ◌∙◌}
use mathlib.Core.List.{[], List, ◌∷◌, ◌++◌, append_assoc}
use Prim.Native.Nat.{ℕ}
use native.Mathlib.Omega.{arith}
use Rattle.lines.specs.Numeral.{field, field_list}
use Rattle.lines.specs.Printed.{refused_name}
use Rattle.lines.proofs.Putting.{put_whole, put_on, put_as}
use Rattle.lines.proofs.Fields.{fields_snoc}
use Rattle.lines.proofs.line.put_refused.Goals as goal

pub returns : goal.returns
returns c =
    let two : List ℕ = c.args.reply.number ∷ c.args.reply.source ∷ [] in
    let named = put_whole refused_name c.args.out.now c.put_bytes.ensures in
    let all = put_on (put_on named (omega arith) c.put_fields-at.ensures) (omega arith) c.put_field.ensures in
    put_as all (append_assoc refused_name (field_list two) (field c.args.reply.place) ∙ ap (λ (l : List ℕ). refused_name ++ l) (fields_snoc two c.args.reply.place))
