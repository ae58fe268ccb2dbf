-- Document 01, "Amplitudes": (1/√2)^k times the four numbers. A leaf carries its k, and all of its uses go through the names below.
use Rattle.std.specs.Prelude.{Bool, ℕ, suc, ◌-◌, max}
use Rattle.amplitude.specs.Amp.{Amp, ◌⊕◌, ◌⊖◌, ω^, √2^, 0A, same_a, in_range_a}

-- "(1/√2)^k times (a + bω + cω² + dω³)"
pub data Leaf : Type 0 where
  leaf : ℕ → Amp → Leaf

-- "One k, 0 to 64"
abbrev pub k_most : ℕ
k_most = 64

abbrev pub k_of : Leaf → ℕ
k_of (leaf k x) = k

abbrev pub numbers : Leaf → Amp
numbers (leaf k x) = x

abbrev pub 0L : Leaf
0L = leaf 0 0A

-- A + B and A − B: the one with the smaller k is first multiplied by √2 once per unit of difference
abbrev pub plus : Leaf → Leaf → Leaf
plus (leaf k x) (leaf l y) = leaf (max k l) (√2^ (l - k) x ⊕ √2^ (k - l) y)

abbrev pub minus : Leaf → Leaf → Leaf
minus (leaf k x) (leaf l y) = leaf (max k l) (√2^ (l - k) x ⊖ √2^ (k - l) y)

-- times ω^j
abbrev pub turn : ℕ → Leaf → Leaf
turn j (leaf k x) = leaf k (ω^ j x)

-- divided by √2
abbrev pub over√2 : Leaf → Leaf
over√2 (leaf k x) = leaf (suc k) x

-- "Equal: at equal k, the same four numbers. Otherwise the one with smaller k is multiplied by √2 once per unit of difference .. first."
abbrev pub same : Leaf → Leaf → Bool
same (leaf k x) (leaf l y) = same_a (√2^ (l - k) x) (√2^ (k - l) y)

-- every coefficient of the leaf is in its range
abbrev pub in_range_l : Leaf → Bool
in_range_l (leaf k x) = in_range_a x
