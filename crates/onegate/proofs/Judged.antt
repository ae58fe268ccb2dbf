-- The job's definitions after the test of the output's length: 17 before all else, or the new set over the bounds of every set. Assumes nothing.
use mathlib.Core.Path.{◌≡◌, refl, sym, ap, ◌∙◌}
use mathlib.Core.Bool.{Bool}
use mathlib.Core.List.{List}
use Prim.Native.Nat.{ℕ, ◌<◌, ◌≤◌}
use lib.ListN.{length}
use borrow.Author.Tests.{le-leb, lt-leb}
use Rattle.automata.specs.Sets.{QSet}
use Rattle.stored.specs.Refusal.{Judged, refused, refusal, no_source, need}
use Rattle.stored.specs.Rules.{set_bounds}
use Rattle.jobs.specs.OneGate.{output_size, new_set, with_file, one_gate_long, one_gate_judged, one_gate_reply, one_gate_output}
use Rattle.replies.specs.declared.Fields.{Fields}
use Rattle.replies.specs.Replied.{reply_from}
use Rattle.gating.specs.Gated.{gated_by, new_set_by, length_reply}

-- the job's bounds are those of every set
pub new_set_lem : (s c : List ℕ) → new_set_by set_bounds s c ≡ new_set s c
unfolding new_set_by gated_by new_set
new_set_lem s c = refl

module _ (s c output : List ℕ) where
  -- what the job comes to, judged in any way
  module _ {j : Judged QSet} (is : j ≡ one_gate_judged s c output) where
    pub the_reply : {r : Fields} → r ≡ reply_from (length_reply j) → r ≡ reply_from (one_gate_reply s c output)
    unfolding one_gate_reply
    the_reply h = h ∙ ap (λ (i : Judged QSet). reply_from (length_reply i)) is

    pub the_output : {exit : List ℕ} → exit ≡ with_file output j → exit ≡ one_gate_output s c output
    unfolding one_gate_output
    the_output h = h ∙ ap (with_file output) is

  pub too_short : length output < output_size → refused (refusal 17 no_source 0) ≡ one_gate_judged s c output
  unfolding one_gate_judged one_gate_long
  too_short h = ap (λ (b : Bool). need b (refusal 17 no_source 0) (new_set s c)) (sym (lt-leb output_size (length output) h))

  pub long_enough : output_size ≤ length output → new_set s c ≡ one_gate_judged s c output
  unfolding one_gate_judged one_gate_long
  long_enough h = ap (λ (b : Bool). need b (refusal 17 no_source 0) (new_set s c)) (sym (le-leb output_size (length output) h))
