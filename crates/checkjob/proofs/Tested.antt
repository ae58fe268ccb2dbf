-- 17, "a lent buffer shorter than its named size": the test of all sizes is the definitions' one, and what it tells. Assumes nothing.
use mathlib.Core.Path.{◌≡◌, refl, sym, ap, ◌∙◌}
use mathlib.Core.Bool.{Bool, true, false, ◌&&◌}
use mathlib.Core.List.{List}
use Prim.Native.Nat.{ℕ}
use native.Mathlib.Omega.{arith}
use lib.Dec.{leb}
use lib.ListN.{length, replicate, length-replicate}
use borrow.Author.Tests.{le-leb}
use Rattle.stored.specs.Refusal.{refusal, no_source, need}
use Rattle.jobs.specs.Buffers.{Buffer, long_enough, wiped_all, work_after}
use Rattle.jobs.specs.Check.{answer, judge_check, check_answer, check_reply, check_work}
use Rattle.jobs.specs.Reply.{reply_of, refused}
use Rattle.replies.specs.declared.Fields.{Fields}
use Rattle.replies.specs.Replied.{reply_from}
use Rattle.buffers.specs.Sizes.{marks_size, hints_size}
use Rattle.checkjob.specs.Sizes.{check_sizes, check_lent, Long}

module _ (met stack kept hints : List ℕ) where
  abbrev pub all_long : Bool
  all_long = leb marks_size (length met) && (leb marks_size (length stack) && (leb marks_size (length kept) && leb hints_size (length hints)))

  pub long-is : all_long ≡ long_enough check_sizes (check_lent met stack kept hints)
  long-is = go (leb marks_size (length met)) (leb marks_size (length stack)) (leb marks_size (length kept)) (leb hints_size (length hints))
    where
      go : (a b c d : Bool) → (a && (b && (c && d))) ≡ (a && (b && (c && (d && true))))
      go false b c d = refl
      go true false c d = refl
      go true true false d = refl
      go true true true false = refl
      go true true true true = refl

  pub all-long-is : Long met stack kept hints → true ≡ all_long
  all-long-is h =
      rw (le-leb marks_size (length met) h.met_long, le-leb marks_size (length stack) h.stack_long, le-leb marks_size (length kept) h.kept_long, le-leb hints_size (length hints) h.hints_long)

-- the definitions' reply and work buffers after the test
module _ (s c e : List ℕ) (most : ℕ) (work : List Buffer) where
  abbrev after : Bool → Fields
  after long = reply_from (reply_of (answer most) (need long (refusal 17 no_source 0) (judge_check s c e)))

  module _ (h : false ≡ long_enough check_sizes work) where
    pub short_reply : {r : Fields} → r ≡ reply_from (refused (refusal 17 no_source 0)) → r ≡ reply_from (check_reply check_sizes s c e most work)
    unfolding check_reply
    short_reply g = g ∙ ap after h

    pub short_work : work ≡ check_work check_sizes work
    unfolding check_work work_after
    short_work = ap (λ (b : Bool). work_after b check_sizes work) h

  module _ (h : true ≡ long_enough check_sizes work) where
    pub long_reply : {r : Fields} → r ≡ reply_from (check_answer s c e most) → r ≡ reply_from (check_reply check_sizes s c e most work)
    unfolding check_reply check_answer
    long_reply g = g ∙ ap after h

    pub long_work : {exit : List Buffer} → exit ≡ wiped_all check_sizes work → exit ≡ check_work check_sizes work
    unfolding check_work work_after
    long_work g = g ∙ ap (λ (b : Bool). work_after b check_sizes work) h

    -- and back
    pub own_reply : {r : Fields} → r ≡ reply_from (check_reply check_sizes s c e most work) → r ≡ reply_from (check_answer s c e most)
    unfolding check_reply check_answer
    own_reply g = g ∙ ap after (sym h)

-- arrays of just the named sizes are long enough
marks-there : leb marks_size (length (replicate {A = ℕ} marks_size 0)) ≡ true
marks-there = le-leb marks_size (length (replicate {A = ℕ} marks_size 0)) (omega (arith, length-replicate {A = ℕ} marks_size 0))

hints_there : leb hints_size (length (replicate {A = ℕ} hints_size 0)) ≡ true
hints_there = le-leb hints_size (length (replicate {A = ℕ} hints_size 0)) (omega (arith, length-replicate {A = ℕ} hints_size 0))

pub own-long : true ≡ long_enough check_sizes (check_lent (replicate marks_size 0) (replicate marks_size 0) (replicate marks_size 0) (replicate hints_size 0))
own-long = go (leb marks_size (length (replicate {A = ℕ} marks_size 0))) (leb hints_size (length (replicate {A = ℕ} hints_size 0))) marks-there hints_there
  where
    go : (a b : Bool) → a ≡ true → b ≡ true → true ≡ (a && (a && (a && (b && true))))
    go a b e f = rw (e, f)
