-- Some word of so many choices: by its first choice, and exactly if there is one. So the search over marks is the search of the definitions.
-- Assumes nothing.
use mathlib.Core.Path.{◌≡◌, refl, sym, ap, ap₂, ◌∙◌}
use mathlib.Core.Bool.{Bool, true, false, ◌&&◌, ◌||◌}
use mathlib.Core.List.{List, [], ◌∷◌}
use Prim.Native.Nat.{ℕ, zero, suc, ◌+◌, ◌<◌, ◌≤◌}
use native.Mathlib.Omega.{arith}
use native.Mathlib.Numerals.{add-one}
use lib.ListN.{length, get_or, take, drop}
use lib.Seq.{drop-cons}
use Rattle.automata.specs.Tree.{Automaton}
use Rattle.automata.specs.Members.{choices}
use Rattle.automata.proofs.Lists.{up_to_mem, up_to_inv}
use Rattle.automata.proofs.Words.{Word}
use Rattle.verdict.specs.Search.{Pair, fits_one, found}
use Rattle.verdict.proofs.Searching.{matches, one_tells, one-is, found_tells, found-is}
use Rattle.meeting.proofs.AllLaws.{same_test}
use Rattle.matching.specs.Seeking.{word_from, any_word}

pub one_ext : (f g : ℕ → Bool) (ds : List ℕ) → ((d : ℕ) → f d ≡ g d) → fits_one f ds ≡ fits_one g ds
one_ext f g [] e = refl
one_ext f g (d ∷ ds) e = ap₂ ◌||◌ (e d) (one_ext f g ds e)

pub any_ext : (k : ℕ) (f g : List ℕ → Bool) → ((v : List ℕ) → f v ≡ g v) → any_word k f ≡ any_word k g
unfolding any_word
any_ext zero f g e = e []
any_ext (suc k) f g e = one_ext (λ d. any_word k (λ v. f (d ∷ v))) (λ d. any_word k (λ v. g (d ∷ v))) choices (λ d. any_ext k (λ v. f (d ∷ v)) (λ v. g (d ∷ v)) (λ v. e (d ∷ v)))

never : (ds : List ℕ) → fits_one (λ (d : ℕ). false) ds ≡ false
never [] = refl
never (d ∷ ds) = never ds

pub any_none : (k : ℕ) (f : List ℕ → Bool) → ((v : List ℕ) → f v ≡ false) → any_word k f ≡ false
unfolding any_word
any_none zero f e = e []
any_none (suc k) f e = one_ext (λ d. any_word k (λ v. f (d ∷ v))) (λ d. false) choices (λ d. any_none k (λ v. f (d ∷ v)) (λ v. e (d ∷ v))) ∙ never choices

-- ---- words that pass
any_tells : (n : ℕ) (f : List ℕ → Bool) → any_word (suc n) f ≡ true → (v : List ℕ) × Word n v × (f v ≡ true)
unfolding any_word
any_tells zero f h =
    let r = one_tells (λ d. f (d ∷ [])) choices h in
    (r.0 ∷ [], (up_to_inv 32 0 r.0 r.1).1, r.2)
any_tells (suc n) f h =
    let r = one_tells (λ d. any_word (suc n) (λ v. f (d ∷ v))) choices h in
    let t = any_tells n (λ v. f (r.0 ∷ v)) r.2 in
    (r.0 ∷ t.0, ((up_to_inv 32 0 r.0 r.1).1, t.1), t.2)

any_is : (n : ℕ) (f : List ℕ → Bool) (v : List ℕ) → Word n v → f v ≡ true → any_word (suc n) f ≡ true
unfolding any_word
any_is n f [] w h = absurd w
any_is zero f (d ∷ []) w h = one-is (λ c. f (c ∷ [])) choices d (up_to_mem 32 0 d (omega arith) (omega arith)) h
any_is zero f (d ∷ d' ∷ v) w h = absurd w
any_is (suc n) f (d ∷ v) w h =
    one-is (λ c. any_word (suc n) (λ u. f (c ∷ u))) choices d (up_to_mem 32 0 d (omega arith) (omega (arith, w.0))) (any_is n (λ u. f (d ∷ u)) v w.1 h)

and-true : (b : Bool) → b && true ≡ b
and-true true = refl
and-true false = refl

-- ---- one pair: some word of the end set is what the search of the definitions finds
pub word_found : (S E : Automaton ℕ) (n : ℕ) (w : List ℕ) (p : Pair) → Word n w → any_word (suc n) (λ v. matches S E 1 n w v p) ≡ found S E 1 n w (p ∷ [])
word_found S E n w p h =
    same_test (any_word (suc n) (λ v. matches S E 1 n w v p)) (found S E 1 n w (p ∷ []))
    (λ e. let t = any_tells n (λ v. matches S E 1 n w v p) e in found-is S E n 1 w t.0 (p ∷ []) h t.1 (and-true (matches S E 1 n w t.0 p) ∙ t.2))
    (λ e. let t = found_tells S E n 1 w (p ∷ []) e in any_is n (λ v. matches S E 1 n w v p) t.0 t.1 (sym (and-true (matches S E 1 n w t.0 p)) ∙ t.2))

-- ---- the image's word
pub word_is : (word : List ℕ) (m at : ℕ) → at + m < length word → word_from word at m ≡ take (suc m) (drop at word)
unfolding word_from
word_is word zero at h = let lt : at < length word = omega arith in rw (drop-cons word at 0 lt)
word_is word (suc m) at h =
    let lt : at < length word = omega arith in
    ap (λ (w : List ℕ). get_or word at 0 ∷ w) (word_is word m (at + 1) (omega arith) ∙ ap (λ (i : ℕ). take (suc m) (drop i word)) (add-one at))
    ∙ sym (ap (take (suc (suc m))) (drop-cons word at 0 lt))

pub word_of : (word : List ℕ) (m at : ℕ) → ((i : ℕ) → i ≤ at + m → get_or word i 0 < 32) → Word m (word_from word at m)
unfolding word_from
word_of word zero at h = h at (omega arith)
word_of word (suc m) at h = (h at (omega arith), word_of word m (at + 1) (λ i le. h i (omega arith)))
