-- Document 01, the program: "reads from standard input JB, B, then the lengths of start, circuit and end (B and each length 4 bytes,
-- little-endian), then the three. It prints one line".
use Rattle.std.specs.Prelude.{Bool, true, false, ◌&&◌, List, [], ◌∷◌, ◌++◌, ℕ, zero, suc, ◌+◌, ◌/◌, ◌%◌, length, take, drop, eqb, leb, ltb}
use Rattle.automata.specs.Members.{member, flat}
use Rattle.stored.specs.Refusal.{need, refusal, no_source}
use Rattle.stored.specs.Fields.{u32_at, mark_at}
use Rattle.verdict.specs.Verdict.{holds, fails, undecided}
use Rattle.jobs.specs.Reply.{Reply, refused, made, says, reply_of}
use Rattle.jobs.specs.Check.{judge_check, answer}

abbrev pub fixed_size : ℕ
fixed_size = 18

abbrev pub part_most : ℕ
part_most = 65536

-- the parts of the input, by the lengths that it states
abbrev pub start_part : List ℕ → List ℕ
start_part s = take (u32_at s 6) (drop fixed_size s)

abbrev pub circuit_part : List ℕ → List ℕ
circuit_part s = take (u32_at s 10) (drop (fixed_size + u32_at s 6) s)

abbrev pub end_part : List ℕ → List ℕ
end_part s = drop (fixed_size + u32_at s 6 + u32_at s 10) s

abbrev pub allowance_of : List ℕ → ℕ
allowance_of s = u32_at s 2

-- 18: "wrong JB mark, a length over 65,536, or input not 18 bytes plus the lengths"
unfoldable pub input_ok : List ℕ → Bool
input_ok s =
    leb fixed_size (length s)
    && (mark_at 74 66 s 0
    && (leb (u32_at s 6) part_most
    && (leb (u32_at s 10) part_most
    && (leb (u32_at s 14) part_most && eqb (length s) (fixed_size + u32_at s 6 + u32_at s 10 + u32_at s 14)))))

-- 18 comes before all else; the program's buffers are never short
unfoldable pub program_reply : List ℕ → Reply
program_reply s = reply_of (answer (allowance_of s)) (need (input_ok s) (refusal 18 no_source 0) (judge_check (start_part s) (circuit_part s) (end_part s)))

-- ---- the line
-- a number in decimal digits; 20 digits serve every number below 2^64
abbrev pub digits : ℕ → ℕ → List ℕ
digits zero n = []
digits (suc most) n = elim (ltb n 10) [ true ↦ (48 + n) ∷ [] | false ↦ digits most (n / 10) ++ ((48 + n % 10) ∷ []) ]

abbrev pub decimal : ℕ → List ℕ
decimal n = digits 20 n

-- "Single spaces between fields."
abbrev pub fields : List ℕ → List ℕ
fields ns = flat (λ n. 32 ∷ decimal n) ns

-- "`holds` count; `fails` place, root, the word's n+1 choices; `undecided` count; or `refused` number, source, place"; the program makes no set
abbrev pub words : Reply → List ℕ
words (refused r) = (114 ∷ 101 ∷ 102 ∷ 117 ∷ 115 ∷ 101 ∷ 100 ∷ []) ++ fields (r.number ∷ r.source ∷ r.place ∷ [])
words (made l) = []
words (says (holds c)) = (104 ∷ 111 ∷ 108 ∷ 100 ∷ 115 ∷ []) ++ fields (c ∷ [])
words (says (fails c (member r w))) = (102 ∷ 97 ∷ 105 ∷ 108 ∷ 115 ∷ []) ++ fields (c ∷ r ∷ w)
words (says (undecided c)) = (117 ∷ 110 ∷ 100 ∷ 101 ∷ 99 ∷ 105 ∷ 100 ∷ 101 ∷ 100 ∷ []) ++ fields (c ∷ [])

-- "It prints one line"
unfoldable pub line : Reply → List ℕ
line r = words r ++ (10 ∷ [])

unfoldable pub printed : List ℕ → List ℕ
printed s = line (program_reply s)
