-- Worked texts of document 02, request 1, computed: what each sentence says of one small text. Lines count from 1; the heading is the first. Assumes
-- nothing.
use mathlib.Core.Path.{◌≡◌, refl}
use mathlib.Core.List.{List, [], ◌∷◌, ◌++◌}
use mathlib.Core.Bool.{false}
use mathlib.Core.Option.{some}
use Prim.Native.Nat.{ℕ}
use Rattle.stored.specs.Refusal.{Judged, refused, good, refusal, circuit_source}
use Rattle.gates.specs.Gate.{phase, flip, H, Gate, plain, controlled}
use Rattle.qasm.specs.Lexed.{is_blank, is_digit, is_small, is_letter, goes_on, goes_on_digits, in_line, run_of, same_bytes, words, looked_up, word_token, all_digits, value_from, is_number, digits_token, included, symbol_token, is_comment, piece_at, line_after, lexed_from, lexed, end_line, line_of}
use Rattle.qasm.specs.Fraction.{fraction, gcd_in, gcd, inside, reduced, sum_sign}
use Rattle.qasm.specs.Reading.{Text, read_text}

-- `OPENQASM 2.0;include "qelib1.inc";qreg q[2];` and a line's end
heading : List ℕ
heading = 79 ∷ 80 ∷ 69 ∷ 78 ∷ 81 ∷ 65 ∷ 83 ∷ 77 ∷ 32 ∷ 50 ∷ 46 ∷ 48 ∷ 59 ∷ 105 ∷ 110 ∷ 99 ∷ 108 ∷ 117 ∷ 100 ∷ 101 ∷ 32 ∷ 34 ∷ 113 ∷ 101 ∷ 108 ∷ 105 ∷ 98 ∷ 49 ∷ 46 ∷ 105 ∷ 110 ∷ 99 ∷ 34 ∷ 59 ∷ 113 ∷ 114 ∷ 101 ∷ 103 ∷ 32 ∷ 113 ∷ 91 ∷ 50 ∷ 93 ∷ 59 ∷ 10 ∷ []

-- after that heading
after : List ℕ → Judged Text
after s = read_text (heading ++ s)

gates : List Gate → Judged Text
gates gs = good (record { size = 2; gates = gs })

nineteen : ℕ → Judged Text
nineteen l = refused (refusal 19 circuit_source l)

twenty : ℕ → Judged Text
twenty l = refused (refusal 20 circuit_source l)

-- `h q[0];cx q[0],q[1];`: q[0] is qubit 1, and the control comes first
bell : after (104 ∷ 32 ∷ 113 ∷ 91 ∷ 48 ∷ 93 ∷ 59 ∷ 99 ∷ 120 ∷ 32 ∷ 113 ∷ 91 ∷ 48 ∷ 93 ∷ 44 ∷ 113 ∷ 91 ∷ 49 ∷ 93 ∷ 59 ∷ []) ≡ gates (plain H 1 ∷ controlled 1 (flip 0) 2 ∷ [])
unfolding heading after gates nineteen twenty is_blank is_digit is_small is_letter goes_on goes_on_digits in_line run_of same_bytes words looked_up word_token all_digits value_from is_number digits_token included symbol_token is_comment piece_at line_after lexed_from lexed end_line line_of gcd_in gcd inside reduced sum_sign read_text
bell = refl

-- `x q[0];y q[1];z q[0];s q[0];sdg q[0];t q[0];tdg q[0];cz q[1],q[0];`: for cz the smaller qubit is the control
all-gates : after (120 ∷ 32 ∷ 113 ∷ 91 ∷ 48 ∷ 93 ∷ 59 ∷ 121 ∷ 32 ∷ 113 ∷ 91 ∷ 49 ∷ 93 ∷ 59 ∷ 122 ∷ 32 ∷ 113 ∷ 91 ∷ 48 ∷ 93 ∷ 59 ∷ 115 ∷ 32 ∷ 113 ∷ 91 ∷ 48 ∷ 93 ∷ 59 ∷ 115 ∷ 100 ∷ 103 ∷ 32 ∷ 113 ∷ 91 ∷ 48 ∷ 93 ∷ 59 ∷ 116 ∷ 32 ∷ 113 ∷ 91 ∷ 48 ∷ 93 ∷ 59 ∷ 116 ∷ 100 ∷ 103 ∷ 32 ∷ 113 ∷ 91 ∷ 48 ∷ 93 ∷ 59 ∷ 99 ∷ 122 ∷ 32 ∷ 113 ∷ 91 ∷ 49 ∷ 93 ∷ 44 ∷ 113 ∷ 91 ∷ 48 ∷ 93 ∷ 59 ∷ []) ≡ gates (plain (flip 0) 1 ∷ plain (flip 2) 2 ∷ plain (phase 4) 1 ∷ plain (phase 2) 1 ∷ plain (phase 6) 1 ∷ plain (phase 1) 1 ∷ plain (phase 7) 1 ∷ controlled 1 (phase 4) 2 ∷ [])
unfolding heading after gates nineteen twenty is_blank is_digit is_small is_letter goes_on goes_on_digits in_line run_of same_bytes words looked_up word_token all_digits value_from is_number digits_token included symbol_token is_comment piece_at line_after lexed_from lexed end_line line_of gcd_in gcd inside reduced sum_sign read_text
all-gates = refl

-- `u1(pi-pi/2-pi/4)q[0];`: pi/4, and 3 pi/4 from the right
from_the_left : after (117 ∷ 49 ∷ 40 ∷ 112 ∷ 105 ∷ 45 ∷ 112 ∷ 105 ∷ 47 ∷ 50 ∷ 45 ∷ 112 ∷ 105 ∷ 47 ∷ 52 ∷ 41 ∷ 113 ∷ 91 ∷ 48 ∷ 93 ∷ 59 ∷ []) ≡ gates (plain (phase 1) 1 ∷ [])
unfolding heading after gates nineteen twenty is_blank is_digit is_small is_letter goes_on goes_on_digits in_line run_of same_bytes words looked_up word_token all_digits value_from is_number digits_token included symbol_token is_comment piece_at line_after lexed_from lexed end_line line_of gcd_in gcd inside reduced sum_sign read_text
from_the_left = refl

-- `u1(pi/2/2)q[0];`: pi/4, and pi from the right
divided_from_the_left : after (117 ∷ 49 ∷ 40 ∷ 112 ∷ 105 ∷ 47 ∷ 50 ∷ 47 ∷ 50 ∷ 41 ∷ 113 ∷ 91 ∷ 48 ∷ 93 ∷ 59 ∷ []) ≡ gates (plain (phase 1) 1 ∷ [])
unfolding heading after gates nineteen twenty is_blank is_digit is_small is_letter goes_on goes_on_digits in_line run_of same_bytes words looked_up word_token all_digits value_from is_number digits_token included symbol_token is_comment piece_at line_after lexed_from lexed end_line line_of gcd_in gcd inside reduced sum_sign read_text
divided_from_the_left = refl

-- `u1(pi/4+pi/4*2)q[0];`: 3 pi/4: S, then T
tighter : after (117 ∷ 49 ∷ 40 ∷ 112 ∷ 105 ∷ 47 ∷ 52 ∷ 43 ∷ 112 ∷ 105 ∷ 47 ∷ 52 ∷ 42 ∷ 50 ∷ 41 ∷ 113 ∷ 91 ∷ 48 ∷ 93 ∷ 59 ∷ []) ≡ gates (plain (phase 2) 1 ∷ plain (phase 1) 1 ∷ [])
unfolding heading after gates nineteen twenty is_blank is_digit is_small is_letter goes_on goes_on_digits in_line run_of same_bytes words looked_up word_token all_digits value_from is_number digits_token included symbol_token is_comment piece_at line_after lexed_from lexed end_line line_of gcd_in gcd inside reduced sum_sign read_text
tighter = refl

-- `u1(5*pi/4)q[1];`: Z, then T
five : after (117 ∷ 49 ∷ 40 ∷ 53 ∷ 42 ∷ 112 ∷ 105 ∷ 47 ∷ 52 ∷ 41 ∷ 113 ∷ 91 ∷ 49 ∷ 93 ∷ 59 ∷ []) ≡ gates (plain (phase 4) 2 ∷ plain (phase 1) 2 ∷ [])
unfolding heading after gates nineteen twenty is_blank is_digit is_small is_letter goes_on goes_on_digits in_line run_of same_bytes words looked_up word_token all_digits value_from is_number digits_token included symbol_token is_comment piece_at line_after lexed_from lexed end_line line_of gcd_in gcd inside reduced sum_sign read_text
five = refl

-- `u1(-pi/4)q[0];`: 7 for −1
minus-first : after (117 ∷ 49 ∷ 40 ∷ 45 ∷ 112 ∷ 105 ∷ 47 ∷ 52 ∷ 41 ∷ 113 ∷ 91 ∷ 48 ∷ 93 ∷ 59 ∷ []) ≡ gates (plain (phase 7) 1 ∷ [])
unfolding heading after gates nineteen twenty is_blank is_digit is_small is_letter goes_on goes_on_digits in_line run_of same_bytes words looked_up word_token all_digits value_from is_number digits_token included symbol_token is_comment piece_at line_after lexed_from lexed end_line line_of gcd_in gcd inside reduced sum_sign read_text
minus-first = refl

-- `u1(-9*pi/4)q[0];u1(8*pi)q[0];`: 7 for −9, nothing for 32
under_eight : after (117 ∷ 49 ∷ 40 ∷ 45 ∷ 57 ∷ 42 ∷ 112 ∷ 105 ∷ 47 ∷ 52 ∷ 41 ∷ 113 ∷ 91 ∷ 48 ∷ 93 ∷ 59 ∷ 117 ∷ 49 ∷ 40 ∷ 56 ∷ 42 ∷ 112 ∷ 105 ∷ 41 ∷ 113 ∷ 91 ∷ 48 ∷ 93 ∷ 59 ∷ []) ≡ gates (plain (phase 7) 1 ∷ [])
unfolding heading after gates nineteen twenty is_blank is_digit is_small is_letter goes_on goes_on_digits in_line run_of same_bytes words looked_up word_token all_digits value_from is_number digits_token included symbol_token is_comment piece_at line_after lexed_from lexed end_line line_of gcd_in gcd inside reduced sum_sign read_text
under_eight = refl

-- `u1((((((((((((((((pi))))))))))))))))q[0];`: 16 brackets with u1's own
sixteen : after (117 ∷ 49 ∷ 40 ∷ 40 ∷ 40 ∷ 40 ∷ 40 ∷ 40 ∷ 40 ∷ 40 ∷ 40 ∷ 40 ∷ 40 ∷ 40 ∷ 40 ∷ 40 ∷ 40 ∷ 40 ∷ 112 ∷ 105 ∷ 41 ∷ 41 ∷ 41 ∷ 41 ∷ 41 ∷ 41 ∷ 41 ∷ 41 ∷ 41 ∷ 41 ∷ 41 ∷ 41 ∷ 41 ∷ 41 ∷ 41 ∷ 41 ∷ 113 ∷ 91 ∷ 48 ∷ 93 ∷ 59 ∷ []) ≡ gates (plain (phase 4) 1 ∷ [])
unfolding heading after gates nineteen twenty is_blank is_digit is_small is_letter goes_on goes_on_digits in_line run_of same_bytes words looked_up word_token all_digits value_from is_number digits_token included symbol_token is_comment piece_at line_after lexed_from lexed end_line line_of gcd_in gcd inside reduced sum_sign read_text
sixteen = refl

-- `u1(\n(((((((((((((((\n(pi)))))))))))))))))q[0];`: the 17th bracket is the fault
seventeen : after (117 ∷ 49 ∷ 40 ∷ 10 ∷ 40 ∷ 40 ∷ 40 ∷ 40 ∷ 40 ∷ 40 ∷ 40 ∷ 40 ∷ 40 ∷ 40 ∷ 40 ∷ 40 ∷ 40 ∷ 40 ∷ 40 ∷ 10 ∷ 40 ∷ 112 ∷ 105 ∷ 41 ∷ 41 ∷ 41 ∷ 41 ∷ 41 ∷ 41 ∷ 41 ∷ 41 ∷ 41 ∷ 41 ∷ 41 ∷ 41 ∷ 41 ∷ 41 ∷ 41 ∷ 41 ∷ 41 ∷ 113 ∷ 91 ∷ 48 ∷ 93 ∷ 59 ∷ []) ≡ nineteen 4
unfolding heading after gates nineteen twenty is_blank is_digit is_small is_letter goes_on goes_on_digits in_line run_of same_bytes words looked_up word_token all_digits value_from is_number digits_token included symbol_token is_comment piece_at line_after lexed_from lexed end_line line_of gcd_in gcd inside reduced sum_sign read_text
seventeen = refl

-- `u1(9999*pi/9999)q[0];`: four digits
four_digits : after (117 ∷ 49 ∷ 40 ∷ 57 ∷ 57 ∷ 57 ∷ 57 ∷ 42 ∷ 112 ∷ 105 ∷ 47 ∷ 57 ∷ 57 ∷ 57 ∷ 57 ∷ 41 ∷ 113 ∷ 91 ∷ 48 ∷ 93 ∷ 59 ∷ []) ≡ gates (plain (phase 4) 1 ∷ [])
unfolding heading after gates nineteen twenty is_blank is_digit is_small is_letter goes_on goes_on_digits in_line run_of same_bytes words looked_up word_token all_digits value_from is_number digits_token included symbol_token is_comment piece_at line_after lexed_from lexed end_line line_of gcd_in gcd inside reduced sum_sign read_text
four_digits = refl

-- `u1(\n10000*pi)q[0];`: and no more
five_digits : after (117 ∷ 49 ∷ 40 ∷ 10 ∷ 49 ∷ 48 ∷ 48 ∷ 48 ∷ 48 ∷ 42 ∷ 112 ∷ 105 ∷ 41 ∷ 113 ∷ 91 ∷ 48 ∷ 93 ∷ 59 ∷ []) ≡ nineteen 3
unfolding heading after gates nineteen twenty is_blank is_digit is_small is_letter goes_on goes_on_digits in_line run_of same_bytes words looked_up word_token all_digits value_from is_number digits_token included symbol_token is_comment piece_at line_after lexed_from lexed end_line line_of gcd_in gcd inside reduced sum_sign read_text
five_digits = refl

-- two quarters are a half
halved : reduced false 2 4 ≡ some (fraction false 1 2)
unfolding reduced gcd gcd_in inside
halved = refl

-- `u1(1000*1000*pi/1000/1000)q[0];`: 1,000,000 passes
largest : after (117 ∷ 49 ∷ 40 ∷ 49 ∷ 48 ∷ 48 ∷ 48 ∷ 42 ∷ 49 ∷ 48 ∷ 48 ∷ 48 ∷ 42 ∷ 112 ∷ 105 ∷ 47 ∷ 49 ∷ 48 ∷ 48 ∷ 48 ∷ 47 ∷ 49 ∷ 48 ∷ 48 ∷ 48 ∷ 41 ∷ 113 ∷ 91 ∷ 48 ∷ 93 ∷ 59 ∷ []) ≡ gates (plain (phase 4) 1 ∷ [])
unfolding heading after gates nineteen twenty is_blank is_digit is_small is_letter goes_on goes_on_digits in_line run_of same_bytes words looked_up word_token all_digits value_from is_number digits_token included symbol_token is_comment piece_at line_after lexed_from lexed end_line line_of gcd_in gcd inside reduced sum_sign read_text
largest = refl

-- `u1(101*9901*pi/101/9901)q[0];`: 1,000,001 does not
over-largest : after (117 ∷ 49 ∷ 40 ∷ 49 ∷ 48 ∷ 49 ∷ 42 ∷ 57 ∷ 57 ∷ 48 ∷ 49 ∷ 42 ∷ 112 ∷ 105 ∷ 47 ∷ 49 ∷ 48 ∷ 49 ∷ 47 ∷ 57 ∷ 57 ∷ 48 ∷ 49 ∷ 41 ∷ 113 ∷ 91 ∷ 48 ∷ 93 ∷ 59 ∷ []) ≡ twenty 2
unfolding heading after gates nineteen twenty is_blank is_digit is_small is_letter goes_on goes_on_digits in_line run_of same_bytes words looked_up word_token all_digits value_from is_number digits_token included symbol_token is_comment piece_at line_after lexed_from lexed end_line line_of gcd_in gcd inside reduced sum_sign read_text
over-largest = refl

-- `u1(2000*pi/2000*2000/2000)q[0];`: only reduced numbers count
reduced-first : after (117 ∷ 49 ∷ 40 ∷ 50 ∷ 48 ∷ 48 ∷ 48 ∷ 42 ∷ 112 ∷ 105 ∷ 47 ∷ 50 ∷ 48 ∷ 48 ∷ 48 ∷ 42 ∷ 50 ∷ 48 ∷ 48 ∷ 48 ∷ 47 ∷ 50 ∷ 48 ∷ 48 ∷ 48 ∷ 41 ∷ 113 ∷ 91 ∷ 48 ∷ 93 ∷ 59 ∷ []) ≡ gates (plain (phase 4) 1 ∷ [])
unfolding heading after gates nineteen twenty is_blank is_digit is_small is_letter goes_on goes_on_digits in_line run_of same_bytes words looked_up word_token all_digits value_from is_number digits_token included symbol_token is_comment piece_at line_after lexed_from lexed end_line line_of gcd_in gcd inside reduced sum_sign read_text
reduced-first = refl

-- `u1\n(\n1\n)q[0];`: the line of the opening bracket
bracket-line : after (117 ∷ 49 ∷ 10 ∷ 40 ∷ 10 ∷ 49 ∷ 10 ∷ 41 ∷ 113 ∷ 91 ∷ 48 ∷ 93 ∷ 59 ∷ []) ≡ twenty 3
unfolding heading after gates nineteen twenty is_blank is_digit is_small is_letter goes_on goes_on_digits in_line run_of same_bytes words looked_up word_token all_digits value_from is_number digits_token included symbol_token is_comment piece_at line_after lexed_from lexed end_line line_of gcd_in gcd inside reduced sum_sign read_text
bracket-line = refl

-- `u1(\n1+`: a fault inside the angle is 19
read_whole : after (117 ∷ 49 ∷ 40 ∷ 10 ∷ 49 ∷ 43 ∷ []) ≡ nineteen 3
unfolding heading after gates nineteen twenty is_blank is_digit is_small is_letter goes_on goes_on_digits in_line run_of same_bytes words looked_up word_token all_digits value_from is_number digits_token included symbol_token is_comment piece_at line_after lexed_from lexed end_line line_of gcd_in gcd inside reduced sum_sign read_text
read_whole = refl

-- `u1(1);`: after it, it comes too late
then-bad : after (117 ∷ 49 ∷ 40 ∷ 49 ∷ 41 ∷ 59 ∷ []) ≡ twenty 2
unfolding heading after gates nineteen twenty is_blank is_digit is_small is_letter goes_on goes_on_digits in_line run_of same_bytes words looked_up word_token all_digits value_from is_number digits_token included symbol_token is_comment piece_at line_after lexed_from lexed end_line line_of gcd_in gcd inside reduced sum_sign read_text
then-bad = refl

-- `u1(pi/0)q[0];`: a divisor that is zero
no_zero_divisor : after (117 ∷ 49 ∷ 40 ∷ 112 ∷ 105 ∷ 47 ∷ 48 ∷ 41 ∷ 113 ∷ 91 ∷ 48 ∷ 93 ∷ 59 ∷ []) ≡ twenty 2
unfolding heading after gates nineteen twenty is_blank is_digit is_small is_letter goes_on goes_on_digits in_line run_of same_bytes words looked_up word_token all_digits value_from is_number digits_token included symbol_token is_comment piece_at line_after lexed_from lexed end_line line_of gcd_in gcd inside reduced sum_sign read_text
no_zero_divisor = refl

-- `u1(pi/pi)q[0];`: a divisor that has s not 0
no_pi_divisor : after (117 ∷ 49 ∷ 40 ∷ 112 ∷ 105 ∷ 47 ∷ 112 ∷ 105 ∷ 41 ∷ 113 ∷ 91 ∷ 48 ∷ 93 ∷ 59 ∷ []) ≡ twenty 2
unfolding heading after gates nineteen twenty is_blank is_digit is_small is_letter goes_on goes_on_digits in_line run_of same_bytes words looked_up word_token all_digits value_from is_number digits_token included symbol_token is_comment piece_at line_after lexed_from lexed end_line line_of gcd_in gcd inside reduced sum_sign read_text
no_pi_divisor = refl

-- `u1(pi*pi)q[0];`: a product with both s not 0
no_pi_twice : after (117 ∷ 49 ∷ 40 ∷ 112 ∷ 105 ∷ 42 ∷ 112 ∷ 105 ∷ 41 ∷ 113 ∷ 91 ∷ 48 ∷ 93 ∷ 59 ∷ []) ≡ twenty 2
unfolding heading after gates nineteen twenty is_blank is_digit is_small is_letter goes_on goes_on_digits in_line run_of same_bytes words looked_up word_token all_digits value_from is_number digits_token included symbol_token is_comment piece_at line_after lexed_from lexed end_line line_of gcd_in gcd inside reduced sum_sign read_text
no_pi_twice = refl

-- `x q[\n2\n];`: an index outside the register
outside : after (120 ∷ 32 ∷ 113 ∷ 91 ∷ 10 ∷ 50 ∷ 10 ∷ 93 ∷ 59 ∷ []) ≡ nineteen 3
unfolding heading after gates nineteen twenty is_blank is_digit is_small is_letter goes_on goes_on_digits in_line run_of same_bytes words looked_up word_token all_digits value_from is_number digits_token included symbol_token is_comment piece_at line_after lexed_from lexed end_line line_of gcd_in gcd inside reduced sum_sign read_text
outside = refl

-- `cx q[1],q[\n1];`: cx on one qubit
one_qubit_twice : after (99 ∷ 120 ∷ 32 ∷ 113 ∷ 91 ∷ 49 ∷ 93 ∷ 44 ∷ 113 ∷ 91 ∷ 10 ∷ 49 ∷ 93 ∷ 59 ∷ []) ≡ nineteen 3
unfolding heading after gates nineteen twenty is_blank is_digit is_small is_letter goes_on goes_on_digits in_line run_of same_bytes words looked_up word_token all_digits value_from is_number digits_token included symbol_token is_comment piece_at line_after lexed_from lexed end_line line_of gcd_in gcd inside reduced sum_sign read_text
one_qubit_twice = refl

-- `u1(pi*\n-1)q[0];`: a minus only before a sum's first term
minus-inside : after (117 ∷ 49 ∷ 40 ∷ 112 ∷ 105 ∷ 42 ∷ 10 ∷ 45 ∷ 49 ∷ 41 ∷ 113 ∷ 91 ∷ 48 ∷ 93 ∷ 59 ∷ []) ≡ nineteen 3
unfolding heading after gates nineteen twenty is_blank is_digit is_small is_letter goes_on goes_on_digits in_line run_of same_bytes words looked_up word_token all_digits value_from is_number digits_token included symbol_token is_comment piece_at line_after lexed_from lexed end_line line_of gcd_in gcd inside reduced sum_sign read_text
minus-inside = refl

-- `u1(pi*(-1))q[0];`: a bracket holds a sum
minus_in_brackets : after (117 ∷ 49 ∷ 40 ∷ 112 ∷ 105 ∷ 42 ∷ 40 ∷ 45 ∷ 49 ∷ 41 ∷ 41 ∷ 113 ∷ 91 ∷ 48 ∷ 93 ∷ 59 ∷ []) ≡ gates (plain (phase 4) 1 ∷ [])
unfolding heading after gates nineteen twenty is_blank is_digit is_small is_letter goes_on goes_on_digits in_line run_of same_bytes words looked_up word_token all_digits value_from is_number digits_token included symbol_token is_comment piece_at line_after lexed_from lexed end_line line_of gcd_in gcd inside reduced sum_sign read_text
minus_in_brackets = refl

-- `// h q[0];\nh q[1]; // the end`: comments to the line's end
comment : after (47 ∷ 47 ∷ 32 ∷ 104 ∷ 32 ∷ 113 ∷ 91 ∷ 48 ∷ 93 ∷ 59 ∷ 10 ∷ 104 ∷ 32 ∷ 113 ∷ 91 ∷ 49 ∷ 93 ∷ 59 ∷ 32 ∷ 47 ∷ 47 ∷ 32 ∷ 116 ∷ 104 ∷ 101 ∷ 32 ∷ 101 ∷ 110 ∷ 100 ∷ []) ≡ gates (plain H 2 ∷ [])
unfolding heading after gates nineteen twenty is_blank is_digit is_small is_letter goes_on goes_on_digits in_line run_of same_bytes words looked_up word_token all_digits value_from is_number digits_token included symbol_token is_comment piece_at line_after lexed_from lexed end_line line_of gcd_in gcd inside reduced sum_sign read_text
comment = refl

-- `h q[0]\n`: the text's end, on the line after the last
unfinished : after (104 ∷ 32 ∷ 113 ∷ 91 ∷ 48 ∷ 93 ∷ 10 ∷ []) ≡ nineteen 3
unfolding heading after gates nineteen twenty is_blank is_digit is_small is_letter goes_on goes_on_digits in_line run_of same_bytes words looked_up word_token all_digits value_from is_number digits_token included symbol_token is_comment piece_at line_after lexed_from lexed end_line line_of gcd_in gcd inside reduced sum_sign read_text
unfinished = refl

-- with one qubit the fault is at `cx`
no_pair : read_text (79 ∷ 80 ∷ 69 ∷ 78 ∷ 81 ∷ 65 ∷ 83 ∷ 77 ∷ 32 ∷ 50 ∷ 46 ∷ 48 ∷ 59 ∷ 105 ∷ 110 ∷ 99 ∷ 108 ∷ 117 ∷ 100 ∷ 101 ∷ 32 ∷ 34 ∷ 113 ∷ 101 ∷ 108 ∷ 105 ∷ 98 ∷ 49 ∷ 46 ∷ 105 ∷ 110 ∷ 99 ∷ 34 ∷ 59 ∷ 113 ∷ 114 ∷ 101 ∷ 103 ∷ 32 ∷ 114 ∷ 91 ∷ 49 ∷ 93 ∷ 59 ∷ 10 ∷ 99 ∷ 120 ∷ 32 ∷ 114 ∷ 91 ∷ 48 ∷ 93 ∷ 44 ∷ 114 ∷ 91 ∷ 48 ∷ 93 ∷ 59 ∷ []) ≡ nineteen 2
unfolding heading after gates nineteen twenty is_blank is_digit is_small is_letter goes_on goes_on_digits in_line run_of same_bytes words looked_up word_token all_digits value_from is_number digits_token included symbol_token is_comment piece_at line_after lexed_from lexed end_line line_of gcd_in gcd inside reduced sum_sign read_text
no_pair = refl
