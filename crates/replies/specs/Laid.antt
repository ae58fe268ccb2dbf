-- Document 01, "writes the reply into a lent byte buffer": the bytes of a reply's fields, the buffer afterwards, and the number told.
use Rattle.std.specs.Prelude.{cond, List, ◌∷◌, ◌++◌, ℕ, length, drop, replicate, leb}
use Rattle.stored.specs.Fields.{bytes32}
use Rattle.jobs.specs.Entry.{reply_size}
use Rattle.replies.specs.declared.Fields.{Fields}

-- kind, number, source, a zero byte, place, count, root, word, the rest zero
unfoldable pub bytes_of : Fields → List ℕ
bytes_of r =
    r.kind ∷ r.number ∷ r.source ∷ 0 ∷ (bytes32 r.place ++ (bytes32 r.count ++ (bytes32 r.root ++ (r.word ++ replicate 27 0))))

-- "a shorter one gives 17 and stays"
unfoldable pub laid : Fields → List ℕ → List ℕ
laid r lent = cond (leb reply_size (length lent)) (bytes_of r ++ drop reply_size lent) lent

unfoldable pub told : Fields → List ℕ → ℕ
told r lent = cond (leb reply_size (length lent)) r.number 17
