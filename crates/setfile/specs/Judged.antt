-- Document 01, "Replies" 1 to 10, and document 02, request 2, part by part: what of a file each part of the code judges.
use Rattle.std.specs.Prelude.{cond, List, ℕ, ◌+◌, eqb, Option, Result}
use Rattle.std.specs.declared.option.Option.TheVariants.{Some, None}
use Rattle.std.specs.declared.result.Result.TheVariants.{Ok, Err}
use Rattle.stored.specs.Refusal.{Judged, good, need, refusal}
use Rattle.stored.specs.Form.{form_of, set_of}
use Rattle.stored.specs.Rules.{Bounds, head_ok, version_ok, ranges_ok, counts_ok, length_ok, marks_ok, mark_place, trs_ok, tr_number, tr_place, lfs_ok, lf_place, order_ok, clash_place}
use Rattle.refusals.specs.declared.Reason.{Reason}
use Rattle.refusals.specs.declared.Reason.TheVariants.{Order}
use Rattle.refusals.specs.declared.Fault.{Fault}
use Rattle.setfile.specs.declared.Form.{Form}
use Rattle.setfile.specs.Answer.{form_read}

-- the fault of a bad record, whose kind's first record has a number
abbrev pub fault_from : ℕ → Option (ℕ × Reason) → Result (Unit {0}) Fault
fault_from first None = Ok tt
fault_from first (Some x) = Err (record { reason = x.1; place = first + x.0 })

-- the first clash of so many records, if one clashes
abbrev pub clash_from : ℕ → ℕ → Option (ℕ × Reason)
clash_from count i = cond (eqb i count) None (Some (i, Order))

-- 1 to 5 look at HD and the length
unfoldable pub header_judged : Bounds → ℕ → List ℕ → Judged Form
header_judged b source s =
    let F = form_of s in
    need (head_ok s) (refusal 1 source 0)
    (need (version_ok s) (refusal 2 source 0)
    (need (ranges_ok s F) (refusal 3 source 0)
    (need (counts_ok b F) (refusal 4 source 0)
    (need (length_ok s F) (refusal 5 source 0) (good (form_read s))))))

-- 6
unfoldable pub marks_judged : ℕ → List ℕ → Judged (Unit {0})
marks_judged source s = need (marks_ok s (form_of s)) (refusal 6 source (mark_place s (form_of s))) (good tt)

-- 81 to 84
unfoldable pub inner_judged : ℕ → List ℕ → Judged (Unit {0})
inner_judged source s = need (trs_ok (set_of s)) (refusal (tr_number (set_of s)) source (tr_place (form_of s) (set_of s))) (good tt)

-- 9
unfoldable pub leaves_judged : ℕ → List ℕ → Judged (Unit {0})
leaves_judged source s = need (lfs_ok (set_of s)) (refusal 9 source (lf_place (form_of s) (set_of s))) (good tt)

-- 10
unfoldable pub order_judged : ℕ → List ℕ → Judged (Unit {0})
order_judged source s = need (order_ok (set_of s)) (refusal 10 source (clash_place (form_of s) (set_of s))) (good tt)
