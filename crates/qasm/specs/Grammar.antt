-- Document 02, request 1: "the version line, one include of qelib1.inc, one `qreg` of 1 to 20 qubits, then gates .. on indexed qubits". A program is
-- what stands in such a text; the tokens that it is written as, and the gates that it means. There is no reader here.
use Rattle.std.specs.Prelude.{Bool, true, ◌&&◌, not, List, [], ◌∷◌, ◌++◌, map, ℕ, suc, min, max, get_or, eqb, leb, ltb}
use Rattle.std.proofs.Math.Option.{Option, some}
use Rattle.gates.specs.Gate.{Kind, phase, flip, H, Gate, plain, controlled}
use Rattle.qasm.specs.Token.{number, opens, closes, Single, g_x, g_y, g_z, g_h, g_s, g_sdg, g_t, g_tdg, Double, g_cx, g_cz, single, double, u1, openqasm, version, semicolon, include, file, qreg, begins, ends, comma, Token, mark, gate, fixed, name}
use Rattle.qasm.specs.Angle.{sum, Angle, write, on_some, turn_of, deepest}

-- a gate of one qubit; cx or cz, the control first; u1. Indices count from 0.
pub data Call : Type 0 where
  alone : Single → ℕ → Call
  both : Double → ℕ → ℕ → Call
  turn : Angle sum deepest → ℕ → Call

pub record Program : Type 0 where
  pub register : List ℕ
  pub qubits : ℕ
  pub calls : List Call

-- no "index outside the register", no "cx, cz on one qubit"
abbrev pub fits : ℕ → Call → Bool
fits n (alone g i) = ltb i n
fits n (both g a b) = ltb a n && (ltb b n && not (eqb a b))
fits n (turn a i) = ltb i n

abbrev pub all_fit : ℕ → List Call → Bool
all_fit n [] = true
all_fit n (c ∷ cs) = fits n c && all_fit n cs

-- "one `qreg` of 1 to 20 qubits"
abbrev pub is_size : ℕ → Bool
is_size n = leb 1 n && leb n 20

abbrev pub proper : Program → Bool
proper p = is_size p.qubits && all_fit p.qubits p.calls

-- ---- what it is written as
-- `OPENQASM 2.0; include "qelib1.inc"; qreg`
abbrev pub heading : List Token
heading = fixed openqasm ∷ fixed version ∷ fixed semicolon ∷ fixed include ∷ fixed file ∷ fixed semicolon ∷ fixed qreg ∷ []

-- `q[i]`
abbrev pub indexed : List ℕ → ℕ → List Token
indexed q i = name q ∷ fixed begins ∷ mark (number i) ∷ fixed ends ∷ []

abbrev pub write_call : List ℕ → Call → List Token
write_call q (alone g i) = gate (single g) ∷ (indexed q i ++ (fixed semicolon ∷ []))
write_call q (both g a b) = gate (double g) ∷ (indexed q a ++ (fixed comma ∷ (indexed q b ++ (fixed semicolon ∷ []))))
write_call q (turn a i) = gate u1 ∷ mark opens ∷ (write a ++ (mark closes ∷ (indexed q i ++ (fixed semicolon ∷ []))))

abbrev pub write_calls : List ℕ → List Call → List Token
write_calls q [] = []
write_calls q (c ∷ cs) = write_call q c ++ write_calls q cs

abbrev pub written : Program → List Token
written p = heading ++ (indexed p.register p.qubits ++ (fixed semicolon ∷ write_calls p.register p.calls))

-- ---- what it means
-- phase j is Z for j = 4, S 2, S† 6, T 1, T† 7; flip j is X for j = 0 and Y for j = 2
abbrev pub kind_of : Single → Kind
kind_of g_x = flip 0
kind_of g_y = flip 2
kind_of g_z = phase 4
kind_of g_h = H
kind_of g_s = phase 2
kind_of g_sdg = phase 6
kind_of g_t = phase 1
kind_of g_tdg = phase 7

-- "m modulo 8 becomes no gate, T, S, S T, Z, Z T, S†, T†"
abbrev pub phases_of : ℕ → List ℕ
phases_of m = get_or ([] ∷ (1 ∷ []) ∷ (2 ∷ []) ∷ (2 ∷ 1 ∷ []) ∷ (4 ∷ []) ∷ (4 ∷ 1 ∷ []) ∷ (6 ∷ []) ∷ (7 ∷ []) ∷ []) m []

-- "q[0] is qubit 1"
abbrev pub qubit_of : ℕ → ℕ
qubit_of i = suc i

-- for cz "the smaller qubit is the control"
abbrev pub pair_gate : Double → ℕ → ℕ → Gate
pair_gate g_cx a b = controlled a (flip 0) b
pair_gate g_cz a b = controlled (min a b) (phase 4) (max a b)

abbrev pub meaning : Call → Option (List Gate)
meaning (alone g i) = some (plain (kind_of g) (qubit_of i) ∷ [])
meaning (both g a b) = some (pair_gate g (qubit_of a) (qubit_of b) ∷ [])
meaning (turn a i) = on_some (turn_of a) (λ m. some (map (λ j. plain (phase j) (qubit_of i)) (phases_of m)))

abbrev pub meanings : List Call → Option (List Gate)
meanings [] = some []
meanings (c ∷ cs) = on_some (meaning c) (λ g. on_some (meanings cs) (λ gs. some (g ++ gs)))

abbrev pub gates_in : Program → Option (List Gate)
gates_in p = meanings p.calls
