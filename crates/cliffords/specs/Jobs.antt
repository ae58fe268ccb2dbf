-- Document 02, request 10: what both jobs answer, "Refusals: 23 sequence too long, then 22 a number over 23", after 17.
use Rattle.std.specs.Prelude.{Bool, true, ◌&&◌, List, [], ◌∷◌, ◌++◌, ℕ, length, drop, leb, ltb}
use Rattle.stored.specs.Refusal.{Judged, refused, good, need, refusal, no_source, circuit_source}
use Rattle.jobs.specs.Reply.{Reply, made, reply_of}
use Rattle.cliffords.specs.Elements.{elements_most}
use Rattle.cliffords.specs.Words.{letters_most, codes_of}
use Rattle.cliffords.specs.Sequences.{closing}

-- "up to 4,096 numbers"
abbrev pub sequence_most : ℕ
sequence_most = 4096

-- no "number over 23"
abbrev pub is_element : ℕ → Bool
is_element e = ltb e elements_most

unfoldable pub all_elements : List ℕ → Bool
all_elements [] = true
all_elements (e ∷ seq) = is_element e && all_elements seq

-- the closing element of a sequence
unfoldable pub closing_judged : List ℕ → Judged ℕ
closing_judged seq = need (leb (length seq) sequence_most) (refusal 23 circuit_source 0) (need (all_elements seq) (refusal 22 circuit_source 0) (good (closing seq)))

unfoldable pub closing_reply : List ℕ → Reply
closing_reply seq = reply_of made (closing_judged seq)

-- the codes of an element's word
unfoldable pub spell_judged : ℕ → List ℕ → Judged (List ℕ)
spell_judged e output = need (leb letters_most (length output)) (refusal 17 no_source 0) (need (is_element e) (refusal 22 circuit_source 0) (good (codes_of e)))

unfoldable pub spell_reply : ℕ → List ℕ → Reply
spell_reply e output = reply_of (λ w. made (length w)) (spell_judged e output)

-- the codes at the front, all further bytes as they were, and all bytes on refusal
abbrev pub with_word : List ℕ → Judged (List ℕ) → List ℕ
with_word output (refused r) = output
with_word output (good w) = w ++ drop (length w) output

unfoldable pub spell_output : ℕ → List ℕ → List ℕ
spell_output e output = with_word output (spell_judged e output)
