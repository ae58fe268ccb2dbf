-- The word of a failing start has n+1 choices, n being the start set's: byte 3 of its file. Assumes nothing.
use mathlib.Core.Path.{◌≡◌, refl, sym, ap, ◌∙◌}
use mathlib.Core.List.{List}
use Prim.Native.Nat.{ℕ, ◌+◌, ◌≤◌}
use lib.ListN.{get_or}
use lib.Dec.{eqb, leb}
use borrow.Author.Tests.{leb-true}
use Rattle.amplitude.proofs.Equal.{both}
use Rattle.automata.specs.Sets.{QSet}
use Rattle.automata.specs.Members.{member, members}
use Rattle.automata.proofs.MemberLaws.{is_member_lem}
use Rattle.stored.specs.Refusal.{Judged, good, refusal, no_source, start_source, end_source}
use Rattle.stored.specs.Form.{form_of, set_of}
use Rattle.stored.specs.Rules.{set_bounds, end_bounds, n_most, ranges_ok}
use Rattle.stored.specs.Judge.{judge_set}
use Rattle.stored.proofs.Reading.{need-good, good-same, judged}
use Rattle.gates.specs.Circuit.{judge_circuit}
use Rattle.gates.specs.Refuse.{after_gates}
use Rattle.gates.proofs.Circuits.{went}
use Rattle.jobs.specs.Reply.{Reply, reply_of}
use Rattle.jobs.specs.Check.{Ready, ready, judge_by, judge_check, answer, check_answer}
use Rattle.jobs.proofs.CheckTheorem.{listed, Outcome, outcome}
use Rattle.walking.proofs.Verdicts.{word_long}
use Rattle.lines.proofs.Printed.{Choices}

-- ---- words
of_outcome : (J : Ready) (b k : ℕ) (r : Reply) → J.start.n + 1 ≡ k → Outcome J b r → Choices k r
of_outcome J b k _ e (Outcome.all h t) = tt
of_outcome J b k _ e (Outcome.first i (member r w) h g t u) = word_long J.start.n w (is_member_lem J.start r w (listed (members J.start) i (member r w) g)).word ∙ e
of_outcome J b k _ e (Outcome.some_left h t) = tt

-- ---- files that are not refused
set-n : (s : List ℕ) (Q : QSet) → judge_set set_bounds start_source s ≡ good Q → (get_or s 3 0 ≡ Q.n) × (get_or s 3 0 ≤ n_most)
unfolding ranges_ok form_of set_of
set-n s Q e =
    let j = judged set_bounds start_source s Q e in
    let x = both (leb 1 (get_or s 3 0)) _ j.0.ranges in
    let y = both (leb (get_or s 3 0) n_most) _ x.1 in
    (ap (λ (P : QSet). P.n) j.1, leb-true _ _ y.0)

start-n : (s c e : List ℕ) (J : Ready) → judge_check s c e ≡ good J → (get_or s 3 0 ≡ J.start.n) × (get_or s 3 0 ≤ n_most)
unfolding judge_check judge_by
start-n s c e J h =
    let x = went (judge_set set_bounds start_source s) _ J h in
    let y = went (judge_circuit x.0.n c) _ J x.2 in
    let z = went (judge_set end_bounds end_source e) _ J y.2 in
    let t = need-good (eqb z.0.n x.0.n) (refusal 13 no_source 0) _ J z.2 in
    let u = went (after_gates set_bounds 1 y.0 x.0) _ J t.1 in
    let n = set-n s x.0 x.1 in
    (n.0 ∙ ap (λ (K : Ready). K.start.n) (good-same (ready x.0 y.0 z.0) J u.2), n.1)

-- n+1 choices are those of the reply's word
pub choices-fit : (s c e : List ℕ) (b k : ℕ) → (get_or s 3 0 ≤ n_most → k ≡ get_or s 3 0 + 1) → Choices k (check_answer s c e b)
unfolding check_answer
choices-fit s c e b k h = go (judge_check s c e) refl
  where
    go : (j : Judged Ready) → judge_check s c e ≡ j → Choices k (reply_of (answer b) j)
    go (Judged.refused r) f = tt
    go (Judged.good J) f =
        let n = start-n s c e J f in
        of_outcome J b k (answer b J) (ap (λ (m : ℕ). m + 1) (sym n.0) ∙ sym (h n.1)) (outcome J b)
