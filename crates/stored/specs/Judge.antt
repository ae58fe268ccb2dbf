-- Document 01, "Replies" 1 to 10: "The smaller number wins within a file." Each rule is tested over the whole file before the next. Document 02,
-- request 2: "81 to 84 stand together where 8 stood, before 9", and 6, 81 to 84, 9 and 10 say which record.
use Rattle.std.specs.Prelude.{List, ℕ}
use Rattle.automata.specs.Sets.{QSet}
use Rattle.stored.specs.Refusal.{Judged, good, need, refusal}
use Rattle.stored.specs.Form.{form_of, set_of}
use Rattle.stored.specs.Rules.{Bounds, head_ok, version_ok, ranges_ok, counts_ok, length_ok, marks_ok, mark_place, levels_ok, trs_ok, tr_number, tr_place, lfs_ok, lf_place, order_ok, clash_place}

-- a set file from a source, held to its bounds: refused, with the record's number as place or 0, or the set that it holds
unfoldable pub judge_set : Bounds → ℕ → List ℕ → Judged QSet
judge_set b source s =
    let F = form_of s in
    let Q = set_of s in
    need (head_ok s) (refusal 1 source 0)
    (need (version_ok s) (refusal 2 source 0)
    (need (ranges_ok s F) (refusal 3 source 0)
    (need (counts_ok b F) (refusal 4 source 0)
    (need (length_ok s F) (refusal 5 source 0)
    (need (marks_ok s F) (refusal 6 source (mark_place s F))
    (need (levels_ok F.states Q) (refusal 7 source 0)
    (need (trs_ok Q) (refusal (tr_number Q) source (tr_place F Q))
    (need (lfs_ok Q) (refusal 9 source (lf_place F Q))
    (need (order_ok Q) (refusal 10 source (clash_place F Q)) (good Q))))))))))
