-- Document 02, request 1: a text's bytes as tokens, each with "the line from 1" that its first byte stands on.
use Rattle.std.specs.Prelude.{Bool, true, false, cond, ◌&&◌, ◌||◌, not, List, [], ◌∷◌, map, ℕ, zero, suc, ◌+◌, ◌*◌, ◌-◌, length, get_or, take, eqb, leb}
use Rattle.qasm.specs.Token.{number, pi, plus, minus, times, over, opens, closes, g_x, g_y, g_z, g_h, g_s, g_sdg, g_t, g_tdg, g_cx, g_cz, single, double, u1, openqasm, version, semicolon, include, file, qreg, begins, ends, comma, Token, mark, gate, fixed, name, bad}

-- space, tab, CR, LF
unfoldable pub is_blank : ℕ → Bool
is_blank b = eqb b 32 || (eqb b 9 || (eqb b 13 || eqb b 10))

unfoldable pub is_digit : ℕ → Bool
is_digit b = leb 48 b && leb b 57

unfoldable pub is_small : ℕ → Bool
is_small b = leb 97 b && leb b 122

unfoldable pub is_letter : ℕ → Bool
is_letter b = is_small b || (leb 65 b && leb b 90)

-- what goes on a name: a letter, a digit or `_`
unfoldable pub goes_on : ℕ → Bool
goes_on b = is_letter b || (is_digit b || eqb b 95)

-- from a digit on, `.` too
unfoldable pub goes_on_digits : ℕ → Bool
goes_on_digits b = goes_on b || eqb b 46

-- a comment runs to LF or the end
unfoldable pub in_line : ℕ → Bool
in_line b = not (eqb b 10)

-- how many bytes at the front pass the test, up to the first that does not
unfoldable pub run_of : (ℕ → Bool) → List ℕ → ℕ
run_of f [] = 0
run_of f (b ∷ s) = cond (f b) (suc (run_of f s)) 0

unfoldable pub same_bytes : List ℕ → List ℕ → Bool
same_bytes [] [] = true
same_bytes [] (b ∷ s) = false
same_bytes (a ∷ r) [] = false
same_bytes (a ∷ r) (b ∷ s) = eqb a b && same_bytes r s

-- a word with a meaning of its own; the last ones are OpenQASM 2.0's other keywords, which this subset lacks
pub data Entry : Type 0 where
  entry : List ℕ → Token → Entry

unfoldable pub words : List Entry
words =
    entry (79 ∷ 80 ∷ 69 ∷ 78 ∷ 81 ∷ 65 ∷ 83 ∷ 77 ∷ []) (fixed openqasm)
    ∷ entry (105 ∷ 110 ∷ 99 ∷ 108 ∷ 117 ∷ 100 ∷ 101 ∷ []) (fixed include)
    ∷ entry (113 ∷ 114 ∷ 101 ∷ 103 ∷ []) (fixed qreg)
    ∷ entry (112 ∷ 105 ∷ []) (mark pi)
    ∷ entry (120 ∷ []) (gate (single g_x))
    ∷ entry (121 ∷ []) (gate (single g_y))
    ∷ entry (122 ∷ []) (gate (single g_z))
    ∷ entry (104 ∷ []) (gate (single g_h))
    ∷ entry (115 ∷ []) (gate (single g_s))
    ∷ entry (115 ∷ 100 ∷ 103 ∷ []) (gate (single g_sdg))
    ∷ entry (116 ∷ []) (gate (single g_t))
    ∷ entry (116 ∷ 100 ∷ 103 ∷ []) (gate (single g_tdg))
    ∷ entry (99 ∷ 120 ∷ []) (gate (double g_cx))
    ∷ entry (99 ∷ 122 ∷ []) (gate (double g_cz))
    ∷ entry (117 ∷ 49 ∷ []) (gate u1)
    ∷ entry (99 ∷ 114 ∷ 101 ∷ 103 ∷ []) bad
    ∷ entry (103 ∷ 97 ∷ 116 ∷ 101 ∷ []) bad
    ∷ entry (111 ∷ 112 ∷ 97 ∷ 113 ∷ 117 ∷ 101 ∷ []) bad
    ∷ entry (109 ∷ 101 ∷ 97 ∷ 115 ∷ 117 ∷ 114 ∷ 101 ∷ []) bad
    ∷ entry (114 ∷ 101 ∷ 115 ∷ 101 ∷ 116 ∷ []) bad
    ∷ entry (98 ∷ 97 ∷ 114 ∷ 114 ∷ 105 ∷ 101 ∷ 114 ∷ []) bad
    ∷ entry (105 ∷ 102 ∷ []) bad
    ∷ entry (115 ∷ 105 ∷ 110 ∷ []) bad
    ∷ entry (99 ∷ 111 ∷ 115 ∷ []) bad
    ∷ entry (116 ∷ 97 ∷ 110 ∷ []) bad
    ∷ entry (101 ∷ 120 ∷ 112 ∷ []) bad
    ∷ entry (108 ∷ 110 ∷ []) bad
    ∷ entry (115 ∷ 113 ∷ 114 ∷ 116 ∷ []) bad
    ∷ []

unfoldable pub looked_up : List ℕ → Token → List Entry → Token
looked_up w otherwise [] = otherwise
looked_up w otherwise (entry v t ∷ es) = cond (same_bytes w v) t (looked_up w otherwise es)

-- a name is [a-z][A-Za-z0-9_]*
unfoldable pub word_token : List ℕ → Token
word_token w = looked_up w (cond (is_small (get_or w 0 0)) (name w) bad) words

unfoldable pub all_digits : List ℕ → Bool
all_digits [] = true
all_digits (b ∷ s) = is_digit b && all_digits s

unfoldable pub value_from : ℕ → List ℕ → ℕ
value_from v [] = v
value_from v (b ∷ s) = value_from (10 * v + (b - 48)) s

-- "whole numbers of at most four digits": 0, or no zero in front
unfoldable pub is_number : List ℕ → Bool
is_number w = all_digits w && (leb (length w) 4 && (eqb (length w) 1 || not (eqb (get_or w 0 0) 48)))

unfoldable pub digits_token : List ℕ → Token
digits_token w = cond (is_number w) (mark (number (value_from 0 w))) (cond (same_bytes w (50 ∷ 46 ∷ 48 ∷ [])) (fixed version) bad)

-- the bytes of `qelib1.inc"`, after its first `"`
unfoldable pub included : List ℕ
included = 113 ∷ 101 ∷ 108 ∷ 105 ∷ 98 ∷ 49 ∷ 46 ∷ 105 ∷ 110 ∷ 99 ∷ 34 ∷ []

-- the ten symbols, by their byte: ( ) * + , − / ; [ ]
unfoldable pub symbol_token : ℕ → Token
symbol_token b =
    cond (eqb b 40) (mark opens) (cond (eqb b 41) (mark closes) (cond (eqb b 42) (mark times) (cond (eqb b 43) (mark plus)
    (cond (eqb b 44) (fixed comma) (cond (eqb b 45) (mark minus) (cond (eqb b 47) (mark over) (cond (eqb b 59) (fixed semicolon)
    (cond (eqb b 91) (fixed begins) (cond (eqb b 93) (fixed ends) bad)))))))))

-- what begins at a byte: nothing to read, or a token, and how many further bytes belong to it
pub data Piece : Type 0 where
  gap : ℕ → Piece
  piece : Token → ℕ → Piece

-- "with `//` comments"
unfoldable pub is_comment : ℕ → List ℕ → Bool
is_comment b s = eqb b 47 && eqb (get_or s 0 0) 47

unfoldable pub piece_at : ℕ → List ℕ → Piece
piece_at b s =
    cond (is_blank b) (gap 0)
    (cond (is_comment b s) (gap (run_of in_line s))
    (cond (is_letter b) (piece (word_token (b ∷ take (run_of goes_on s) s)) (run_of goes_on s))
    (cond (is_digit b) (piece (digits_token (b ∷ take (run_of goes_on_digits s) s)) (run_of goes_on_digits s))
    (cond (eqb b 34 && same_bytes (take (length included) s) included) (piece (fixed file) (length included))
    (piece (symbol_token b) 0)))))

-- a token and the line of its first byte
pub data Lexed : Type 0 where
  lexeme : Token → ℕ → Lexed

abbrev pub token : Lexed → Token
token (lexeme t l) = t

abbrev pub line : Lexed → ℕ
line (lexeme t l) = l

-- lines end at LF
unfoldable pub line_after : ℕ → ℕ → ℕ
line_after l b = cond (eqb b 10) (suc l) l

abbrev pub more : Piece → ℕ
more (gap k) = k
more (piece t k) = k

abbrev pub listed : Piece → ℕ → List Lexed → List Lexed
listed (gap k) l rest = rest
listed (piece t k) l rest = lexeme t l ∷ rest

-- the tokens from here on, where so many bytes still belong to what was begun before
unfoldable pub lexed_from : ℕ → ℕ → List ℕ → List Lexed
lexed_from l k [] = []
lexed_from l (suc k) (b ∷ s) = lexed_from (line_after l b) k s
lexed_from l zero (b ∷ s) = listed (piece_at b s) l (lexed_from (line_after l b) (more (piece_at b s)) s)

unfoldable pub lexed : List ℕ → List Lexed
lexed s = lexed_from 1 0 s

-- the line of the text's end
unfoldable pub end_line : ℕ → List ℕ → ℕ
end_line l [] = l
end_line l (b ∷ s) = end_line (line_after l b) s

-- the line of the token at a place, from 0, or of the text's end; past 4,294,967,295 lines it is told as that number
abbrev pub line_most : ℕ
line_most = 4294967295

unfoldable pub line_of : List ℕ → ℕ → ℕ
line_of s i = let l = get_or (map line (lexed s)) i (end_line 1 s) in cond (leb l line_most) l line_most
