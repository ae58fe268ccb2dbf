-- Document 01, "Stored form": a set as bytes.
use Rattle.std.specs.Prelude.{List, ◌∷◌, ◌++◌, ℕ, length}
use Rattle.amplitude.specs.Amp.{Amp, amp}
use Rattle.amplitude.specs.Leaf.{numbers}
use Rattle.automata.specs.Sets.{TR, LF, rec, QSet, sum}
use Rattle.automata.specs.Members.{flat}
use Rattle.stored.specs.Fields.{bytes16, bytes32, unsigned32}

-- HD: version 1, n, k, zero, states, inner, leaves
abbrev pub hd_bytes : QSet → List ℕ
hd_bytes Q = 72 ∷ 68 ∷ 1 ∷ Q.n ∷ Q.k ∷ 0 ∷ (bytes16 (sum Q.counts) ++ (bytes16 (length Q.inner) ++ bytes16 (length Q.leaves)))

abbrev pub lv_bytes : ℕ → List ℕ
lv_bytes c = 76 ∷ 86 ∷ bytes16 c

abbrev pub tr_bytes : TR → List ℕ
tr_bytes (rec s m p) = 84 ∷ 82 ∷ (bytes16 s ++ (bytes32 m ++ (bytes16 p.0 ++ bytes16 p.1)))

abbrev pub amp_bytes : Amp → List ℕ
amp_bytes (amp a b c d) = bytes32 (unsigned32 a) ++ (bytes32 (unsigned32 b) ++ (bytes32 (unsigned32 c) ++ bytes32 (unsigned32 d)))

abbrev pub lf_bytes : LF → List ℕ
lf_bytes (rec s m x) = 76 ∷ 70 ∷ (bytes16 s ++ (bytes32 m ++ amp_bytes (numbers x)))

-- HD, the LV records, all TR, all LF
unfoldable pub file_of : QSet → List ℕ
file_of Q = hd_bytes Q ++ (flat lv_bytes Q.counts ++ (flat tr_bytes Q.inner ++ flat lf_bytes Q.leaves))
