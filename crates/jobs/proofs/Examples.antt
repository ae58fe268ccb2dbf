-- The starred examples of document 01: one table, one statement, computed. Those that speak of files go through bytes.
use mathlib.Core.Path.{◌≡◌, refl}
use mathlib.Core.Bool.{Bool, true, false}
use mathlib.Core.List.{List, [], ◌∷◌, ◌++◌, map}
use mathlib.Core.Option.{Option, none, some}
use Prim.Native.Nat.{ℕ}
use lib.IntN.{pos, negsuc}
use lib.ListN.{length}
use lib.Count.{count_trailing_zeros}
use Rattle.amplitude.specs.Amp.{Amp, amp, times√2}
use Rattle.amplitude.specs.Leaf.{Leaf, leaf, same}
use Rattle.automata.specs.Tree.{Tree, tree_of, leaves_of, same_t}
use Rattle.automata.specs.Sets.{tr, LF, rec, QSet, automaton_of, tree}
use Rattle.automata.specs.Members.{Member, member, members}
use Rattle.stored.specs.Refusal.{Judged}
use Rattle.stored.specs.Fields.{u16_at, u32_at, i32_at, mark_at, records_from, bytes32}
use Rattle.stored.specs.Form.{form_of, count_at, tr_at, lf_at, set_of}
use Rattle.stored.specs.Rules.{set_bounds, head_ok, version_ok, ranges_ok, counts_ok, length_ok, later_marks, marks_ok, levels_ok, tr_fault, trs_ok, lf_ok, lfs_ok, ordered, order_ok, clash_place}
use Rattle.stored.specs.Judge.{judge_set}
use Rattle.stored.specs.Pack.{file_of}
use Rattle.gates.specs.Gate.{phase, flip, H, Gate, plain, controlled}
use Rattle.gates.specs.Circuit.{gate_at, records_of, judge_gates, judge_circuit, judge_one}
use Rattle.gates.specs.Build.{built}
use Rattle.gates.specs.Refuse.{judge_gate, after_gates}
use Rattle.verdict.specs.Verdict.{verdict}
use Rattle.jobs.specs.OneGate.{new_set}
use Rattle.jobs.specs.Check.{judge_by, judge_check}
use Rattle.jobs.specs.Program.{input_ok, program_reply, line, printed}

-- ---- the sets of the examples
abbrev num : ℕ → Amp
num n = amp (pos n) (pos 0) (pos 0) (pos 0)

abbrev lf : ℕ → ℕ → Amp → LF
lf k s x = rec s 1 (leaf k x)

-- "n=1, k=0, TR 0 {0} to (1,2), leaves 1: (1,0,0,0), 2: zero, both {0}"
abbrev Z1with : ℕ → ℕ → QSet
Z1with a b = record { n = 1; k = 0; counts = 1 ∷ 2 ∷ []; inner = tr 0 1 1 2 ∷ []; leaves = lf 0 1 (num a) ∷ lf 0 2 (num b) ∷ [] }

abbrev pub Z1 : QSet
Z1 = Z1with 1 0

-- "n=2, k=0: TR 0 {0} to (1,2); 0 {1} to (2,1); 1 {0} to (3,4); 1 {1} to (4,3); 2 {0,1} to (4,4); leaves 3: (1,0,0,0), 4: zero, both {0}"
abbrev pub B2 : QSet
B2 = record {
  n = 2;
  k = 0;
  counts = 1 ∷ 2 ∷ 2 ∷ [];
  inner = tr 0 1 1 2 ∷ tr 0 2 2 1 ∷ tr 1 1 3 4 ∷ tr 1 2 4 3 ∷ tr 2 3 4 4 ∷ [];
  leaves = lf 0 3 (num 1) ∷ lf 0 4 (num 0) ∷ [];
}

-- "n=2, k=1: TR 0 {0} to (1,2); 0 {1} to (1,3); 1 {0} to (4,5); 1 {1} to (5,4); 2 {0} to (5,4); 2 {1} to (4,5); 3 {0} to (5,6); 3 {1} to (6,5);
-- leaves 4: (1,0,0,0), 5: zero, 6: (−1,0,0,0), all {0}"
abbrev pub E2 : QSet
E2 = record {
  n = 2;
  k = 1;
  counts = 1 ∷ 3 ∷ 3 ∷ [];
  inner = tr 0 1 1 2 ∷ tr 0 2 1 3 ∷ tr 1 1 4 5 ∷ tr 1 2 5 4 ∷ tr 2 1 5 4 ∷ tr 2 2 4 5 ∷ tr 3 1 5 6 ∷ tr 3 2 6 5 ∷ [];
  leaves = lf 1 4 (num 1) ∷ lf 1 5 (num 0) ∷ lf 1 6 (amp (negsuc 0) (pos 0) (pos 0) (pos 0)) ∷ [];
}

-- two transitions of state 0, with the masks given
abbrev twice : ℕ → ℕ → QSet
twice m m' = record { n = 1; k = 0; counts = 1 ∷ 2 ∷ []; inner = tr 0 m 1 2 ∷ tr 0 m' 2 1 ∷ []; leaves = lf 0 1 (num 1) ∷ lf 0 2 (num 0) ∷ [] }

-- ---- circuits and jobs as bytes
abbrev gt : ℕ → ℕ → ℕ → List ℕ
gt code target control = 71 ∷ 84 ∷ code ∷ target ∷ control ∷ 0 ∷ []

abbrev h_bytes : List ℕ
h_bytes = gt 4 1 0

abbrev bell_bytes : List ℕ
bell_bytes = gt 4 1 0 ++ gt 9 2 1

abbrev job : ℕ → QSet → List ℕ → QSet → List ℕ
job b Q c E =
    74 ∷ 66 ∷ (bytes32 b ++ (bytes32 (length (file_of Q)) ++ (bytes32 (length c) ++ (bytes32 (length (file_of E)) ++ (file_of Q ++ (c ++ file_of E))))))

-- ---- what a row shows
pub data Shown : Type 0 where
  amps : List Leaf → Shown
  nothing : Shown
  is : Bool → Shown
  these : List Member → Shown
  number : ℕ → Shown
  text : List ℕ → Shown

abbrev amps_of : (n : ℕ) → Option (Tree n) → Shown
amps_of n none = nothing
amps_of n (some x) = amps (leaves_of n x)

abbrev state : QSet → ℕ → List ℕ → Shown
state Q r w = amps_of Q.n (tree Q r w)

abbrev after : List Gate → QSet → QSet
after [] Q = Q
after (g ∷ gs) Q = after gs (built g Q)

abbrev tree_at : (n : ℕ) → QSet → ℕ → List ℕ → Option (Tree n)
tree_at n Q r w = tree_of (automaton_of Q) 1 n w r

abbrev same_states : (n : ℕ) → Option (Tree n) → Option (Tree n) → Bool
same_states n none y = false
same_states n (some x) none = false
same_states n (some x) (some y) = same_t n x y

-- 0 for what is taken, else the refusal's number
abbrev judged_number : {X : Type 0} → Judged X → ℕ
judged_number (Judged.refused r) = r.number
judged_number (Judged.good x) = 0

abbrev judged_place : {X : Type 0} → Judged X → ℕ
judged_place (Judged.refused r) = r.place
judged_place (Judged.good x) = 0

pub record Example : Type 0 where
  pub got : Shown
  pub want : Shown

abbrev shows : Shown → Shown → Example
shows got want = record { got = got; want = want }

abbrev of_file : QSet → ℕ
of_file Q = judged_number (judge_set set_bounds 1 (file_of Q))

abbrev one_gate : QSet → ℕ
one_gate Q = judged_number (new_set (file_of Q) h_bytes)

abbrev √2of1 : Amp
√2of1 = amp (pos 0) (pos 1) (pos 0) (negsuc 0)

abbrev hadamard : Gate
hadamard = plain H 1

abbrev pub table : List Example
table =
    -- Z1 has 80 bytes and is taken
    shows (number (length (file_of Z1))) (number 80)
    ∷ shows (number (of_file Z1)) (number 0)
    -- 1. √2 times (1,0,0,0); the first at k=0 and the second at k=1 are both 1
    ∷ shows (amps (leaf 0 (times√2 (num 1)) ∷ [])) (amps (leaf 0 √2of1 ∷ []))
    ∷ shows (is (same (leaf 0 (num 1)) (leaf 1 √2of1))) (is true)
    -- 2. H on Z1: leaves (1,0,0,0) twice, k=1
    ∷ shows (state (built hadamard Z1) 0 (0 ∷ 0 ∷ [])) (amps (leaf 1 (num 1) ∷ leaf 1 (num 1) ∷ []))
    ∷ shows (number (built hadamard Z1).k) (number 1)
    -- 3. H twice: (2,0,0,0) and zero, k=2, equal to Z1's tree
    ∷ shows (state (after (hadamard ∷ hadamard ∷ []) Z1) 0 (0 ∷ 0 ∷ [])) (amps (leaf 2 (num 2) ∷ leaf 2 (num 0) ∷ []))
    ∷ shows (is (same_states 1 (tree_at 1 (after (hadamard ∷ hadamard ∷ []) Z1) 0 (0 ∷ 0 ∷ [])) (tree Z1 0 (0 ∷ 0 ∷ [])))) (is true)
    -- 4. H then T: second leaf (0,1,0,0)
    ∷ shows (state (after (hadamard ∷ plain (phase 1) 1 ∷ []) Z1) 0 (0 ∷ 0 ∷ [])) (amps (leaf 1 (num 1) ∷ leaf 1 (amp (pos 0) (pos 1) (pos 0) (pos 0)) ∷ []))
    -- 5. B2 has 4 members: words 000, 010, 100, 110
    ∷ shows (these (members B2)) (these (member 0 (0 ∷ 0 ∷ 0 ∷ []) ∷ member 0 (0 ∷ 1 ∷ 0 ∷ []) ∷ member 0 (1 ∷ 0 ∷ 0 ∷ []) ∷ member 0 (1 ∷ 1 ∷ 0 ∷ []) ∷ []))
    -- 7. H on qubit 1 of B2, then CX, control 1, target 2: word 000 has (1,0,0,0) at 00 and 11, else zero, k=1
    ∷ shows (state (after (hadamard ∷ controlled 1 (flip 0) 2 ∷ []) B2) 0 (0 ∷ 0 ∷ 0 ∷ [])) (amps (leaf 1 (num 1) ∷ leaf 1 (num 0) ∷ leaf 1 (num 0) ∷ leaf 1 (num 1) ∷ []))
    -- "holds 4", "undecided 3", "undecided 0"
    ∷ shows (text (printed (job 4 B2 bell_bytes E2))) (text (104 ∷ 111 ∷ 108 ∷ 100 ∷ 115 ∷ 32 ∷ 52 ∷ 10 ∷ []))
    ∷ shows (text (printed (job 3 B2 bell_bytes E2))) (text (117 ∷ 110 ∷ 100 ∷ 101 ∷ 99 ∷ 105 ∷ 100 ∷ 101 ∷ 100 ∷ 32 ∷ 51 ∷ 10 ∷ []))
    ∷ shows (text (printed (job 0 B2 bell_bytes E2))) (text (117 ∷ 110 ∷ 100 ∷ 101 ∷ 99 ∷ 105 ∷ 100 ∷ 101 ∷ 100 ∷ 32 ∷ 48 ∷ 10 ∷ []))
    -- 8. without CX: "fails 1 0 0 0 0"
    ∷ shows (text (printed (job 4 B2 h_bytes E2))) (text (102 ∷ 97 ∷ 105 ∷ 108 ∷ 115 ∷ 32 ∷ 49 ∷ 32 ∷ 48 ∷ 32 ∷ 48 ∷ 32 ∷ 48 ∷ 32 ∷ 48 ∷ 10 ∷ []))
    -- 9. X then H on Z1, end set that of 2: "fails 1 0 0 0"
    ∷ shows (text (printed (job 1 Z1 (gt 1 1 0 ++ h_bytes) (built hadamard Z1)))) (text (102 ∷ 97 ∷ 105 ∷ 108 ∷ 115 ∷ 32 ∷ 49 ∷ 32 ∷ 48 ∷ 32 ∷ 48 ∷ 32 ∷ 48 ∷ 10 ∷ []))
    -- 10. a coefficient at the end of its range: H succeeds; with that leaf twice: 16
    ∷ shows (number (one_gate (Z1with 1073741824 0))) (number 0)
    ∷ shows (number (one_gate (Z1with 1073741824 1073741824))) (number 16)
    -- 12. masks 1 and 2 on one state pass; 1 and 3 give 10
    ∷ shows (number (of_file (twice 1 2))) (number 0)
    ∷ shows (number (of_file (twice 1 3))) (number 10)
    -- document 02, request 2: the later of the two, record 4 after HD, two LV and one TR
    ∷ shows (number (judged_place (judge_set set_bounds 1 (file_of (twice 1 3))))) (number 4)
    ∷ []

pub worked_examples : map (λ x. x.got) table ≡ map (λ x. x.want) table
unfolding file_of built judge_set form_of set_of u16_at u32_at i32_at mark_at records_from count_at tr_at lf_at head_ok version_ok ranges_ok counts_ok length_ok later_marks marks_ok levels_ok tr_fault trs_ok lf_ok lfs_ok ordered order_ok clash_place count_trailing_zeros gate_at records_of judge_gates judge_circuit judge_one judge_gate after_gates new_set judge_by judge_check input_ok program_reply line printed verdict
worked_examples = refl
