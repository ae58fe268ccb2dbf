-- What an answer tells its caller: a set that is taken is good, is the one that the bytes hold, and its file is whole. Assumes nothing.
use mathlib.Core.Path.{◌≡◌, sym, ap, ◌∙◌, subst}
use mathlib.Core.List.{List}
use Prim.Native.Nat.{ℕ}
use Rattle.automata.specs.Sets.{QSet}
use Rattle.std.specs.declared.result.Result.TheVariants.{Ok}
use Rattle.stored.specs.Refusal.{good}
use Rattle.stored.specs.Form.{set_of}
use Rattle.stored.specs.Rules.{Bounds}
use Rattle.stored.specs.Judge.{judge_set}
use Rattle.stored.proofs.Reading.{judged as judged_is}
use Rattle.refusals.specs.Refused.{judged_at, seen}
use Rattle.refusals.proofs.Told.{good_at}
use Rattle.setfile.specs.declared.Form.{Form}
use Rattle.setfile.specs.Answer.{form_read, Whole}
use Rattle.setfile.proofs.Parts.{good_whole}

pub record Taken (b : Bounds) (source : ℕ) (s : List ℕ) (f : Form) : Type 0 where
  pub good : judge_set b source s ≡ good (set_of s)
  pub form : f ≡ form_read s
  pub whole : Whole s f

pub taken : (b : Bounds) (source : ℕ) (s : List ℕ) (f : Form) → judged_at source (Ok f) ≡ seen (λ (Q : QSet). form_read s) (judge_set b source s) → Taken b source s f
taken b source s f e =
    let k = good_at (λ (Q : QSet). form_read s) source (judge_set b source s) f e in
    record {
      good = k.good ∙ ap good (sym (judged_is b source s k.thing k.good).1);
      form = k.value;
      whole = subst (Whole s) (sym k.value) (good_whole b source s k.thing k.good);
    }
