-- The bytes of a reply's fields are the reply's bytes, since both list the same fields: so a buffer laid with them is the reply's
-- buffer, and the number told is the reply's. Assumes nothing.
use mathlib.Core.Path.{◌≡◌, refl, ap, ◌∙◌}
use mathlib.Core.List.{List}
use Prim.Native.Nat.{ℕ}
use Rattle.jobs.specs.Reply as def
use Rattle.jobs.specs.Entry.{reply_bytes, reply_buffer, reply_number}
use Rattle.replies.specs.declared.Fields.{Fields}
use Rattle.replies.specs.Replied.{reply_from}
use Rattle.replies.specs.Laid.{bytes_of, laid, told}

pub bytes_of_lem : (r : def.Reply) → bytes_of (reply_from r) ≡ reply_bytes r
unfolding bytes_of reply_bytes
bytes_of_lem r = refl

pub laid_of : (r : def.Reply) (lent : List ℕ) → laid (reply_from r) lent ≡ reply_buffer r lent
unfolding laid reply_buffer bytes_of reply_bytes
laid_of r lent = refl

pub told_of : (r : def.Reply) (lent : List ℕ) → told (reply_from r) lent ≡ reply_number r lent
unfolding told reply_number
told_of r lent = refl

-- what `put_reply` leaves and returns, for the reply that its fields are
module _ {fields : Fields} (r : def.Reply) (lent : List ℕ) (is : fields ≡ reply_from r) where
  pub buffer_left : {exit : List ℕ} → exit ≡ laid fields lent → exit ≡ reply_buffer r lent
  buffer_left e = e ∙ ap (λ (q : Fields). laid q lent) is ∙ laid_of r lent

  pub number-told : {n : ℕ} → n ≡ told fields lent → n ≡ reply_number r lent
  number-told e = e ∙ ap (λ (q : Fields). told q lent) is ∙ told_of r lent
