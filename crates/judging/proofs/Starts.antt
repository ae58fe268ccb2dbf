-- A relation that has the pair of two roots, and no other pair, leads to a word exactly if the pair's trees are equal by it; so over the end's
-- roots. Assumes nothing.
use mathlib.Core.Path.{◌≡◌, refl, sym, ap, ◌∙◌}
use mathlib.Core.Bool.{Bool, true, false, ◌&&◌, false≢true}
use mathlib.Core.List.{List, [], ◌∷◌}
use mathlib.Core.Logic.{inl, inr, ⊎_elim}
use Prim.Native.Nat.{ℕ, suc, ◌+◌, ◌*◌, ◌<◌, ◌≤◌}
use native.Mathlib.Decide.{dec_lt}
use native.Mathlib.Numerals.{add-one}
use native.Mathlib.Omega.{arith}
use lib.ListN.{length, take}
use Rattle.automata.specs.Tree.{Automaton}
use Rattle.verdict.specs.Search.{found as pair_found}
use Rattle.verdict.proofs.Searching.{matches}
use Rattle.meeting.specs.declared.Level.{Level}
use Rattle.meeting.specs.Met.{is_met, Meeting, Emptied}
use Rattle.meeting.specs.All.{all_met}
use Rattle.meeting.proofs.MetLaws.{On, met_more, met_none}
use Rattle.matching.specs.Seeking.{word_from, twins, sought}
use Rattle.matching.proofs.Words.{any_ext, word_found, word_is, word_of}
use Rattle.relating.specs.Found.{found}
use Rattle.relating.specs.Planes.{Room}
use Rattle.relating.specs.Roots.{Rooted, Whole, Begun}
use Rattle.relating.proofs.Relations.{found-more}
use Rattle.relating.proofs.Begins.{Beginning, starts, goes_on}
use Rattle.batching.specs.Batch.{Joined}
use Rattle.batching.proofs.Wholes.{joined-found, added-keeps}
use Rattle.judging.specs.Judge.{Apt, Rise, Started}

and-true : (b : Bool) → b && true ≡ b
and-true true = refl
and-true false = refl

-- the relation has one pair
pair_exact : (S E : Automaton ℕ) (word : List ℕ) (n : ℕ) → Whole word n → {wide : ℕ} {met mid met' : List ℕ} {l : Level} {r e : ℕ} → l.stop ≤ wide * 32 → On l r e
    → Emptied wide met l.from l.to mid → Meeting wide mid r e met' → sought S E word 0 n wide met' l ≡ pair_found S E 1 n (take (n + 1) word) ((r, e) ∷ [])
pair_exact S E word n w {wide} {met} {mid} {met'} {l} {r} {e} narrow on empty m =
    any_ext (suc n) (λ v. all_met (twins S E word 0 n v) wide met' l) (λ v. matches S E 1 n (word_from word 0 n) v (r, e)) (λ v. one-pair (twins S E word 0 n v))
    ∙ word_found S E n (word_from word 0 n) (r, e) (word_of word n 0 (λ i le. w.small i (omega arith)))
    ∙ ap (λ (v : List ℕ). pair_found S E 1 n v ((r, e) ∷ [])) (word_is word n 0 (omega (arith, w.letters)) ∙ ap (λ (k : ℕ). take k word) (sym (add-one n)))
  where
    one-pair : (g : ℕ → ℕ → Bool) → all_met g wide met' l ≡ g r e
    one-pair g = met_more g narrow on m ∙ ap (λ (b : Bool). g r e && b) (met_none g l narrow empty) ∙ and-true (g r e)

-- ---- one end root
pub root_room : {plane wide may root p size spare : ℕ} {l : Level} → Rooted plane wide may root l → p * plane + plane ≤ size → plane ≤ spare → Room plane size p wide l spare
root_room t h k = record { high = h; levels = omega (arith, t.after, t.before); long = t.long; fits = omega (arith, t.long) }

module _ {wide plane : ℕ} {may stack : List ℕ} {p root : ℕ} {l : Level} where
  -- no end root was tried yet
  rise-none : (from : ℕ) → Rise wide plane may stack p root l from from stack p
  rise-none from = record { keeps = λ S E word at m h. h; each = λ S E word n w a e lo hi h. absurd (omega arith) }

  -- a pair that could not match
  pub rise_unmarked : (e : ℕ) → l.start ≤ e → e < l.stop → is_met wide may root e ≡ false → Rise wide plane may stack p root l e (e + 1) stack p
  rise_unmarked e lo hi f = record {
    keeps = λ S E word at m h. h;
    each = λ S E word n w a x lo' hi' h.
        let same : x ≡ e = omega arith in
        absurd (false≢true (a.each e lo hi f ∙ ap (λ (x : ℕ). pair_found S E 1 n (take (n + 1) word) ((root, x) ∷ [])) (sym same) ∙ h));
  }

on : {plane wide size root : ℕ} {l : Level} {e : ℕ} → Rooted plane wide size root l → l.start ≤ e → e < l.stop → On l root e
on t lo hi = record { after = t.after; before = t.before; end_after = lo; end_before = hi }

module _ {wide plane : ℕ} {stack : List ℕ} {p root : ℕ} {l : Level} (e : ℕ) {met mid met' stack' : List ℕ} {r size : ℕ} (t : Rooted plane wide size root l) (lo : l.start ≤ e) (hi : e < l.stop)
    (empty : Emptied wide met l.from l.to mid) (m : Meeting wide mid root e met') (w : Joined plane wide stack p met' l stack' r) where
  pub begun-joined : Begun wide plane stack p root e l stack' r
  begun-joined = record {
    least = w.added.least;
    most = w.added.most;
    is = λ S E word n k h.
        ⊎_elim inl (λ f. inr (sym (pair_exact S E word n k t.narrow (on t lo hi) empty m) ∙ f)) (found-more S E word 0 n t.narrow t.long w.added h);
  }

  pub rise-joined : {may : List ℕ} → Rise wide plane may stack p root l e (e + 1) stack' r
  rise-joined = record {
    keeps = λ S E word at m h. added-keeps t.narrow t.long S E word at m w.added h;
    each = λ S E word n k a x lo' hi' h.
        let same : x ≡ e = omega arith in
        joined-found t.narrow t.long S E word 0 n w
        (pair_exact S E word n k t.narrow (on t lo hi) empty m ∙ ap (λ (x : ℕ). pair_found S E 1 n (take (n + 1) word) ((root, x) ∷ [])) (sym same) ∙ h);
  }

-- ---- root after root
rise_on : {wide plane : ℕ} {may stack mid stack' : List ℕ} {p r r' root : ℕ} {l : Level} {from e : ℕ} → Rise wide plane may stack p root l from e mid r → Rise wide plane may mid r root l e (e + 1) stack' r'
    → Rise wide plane may stack p root l from (e + 1) stack' r'
rise_on {wide} {plane} {may} {stack} {mid} {stack'} {p} {r} {r'} {root} {l} {from} {e} a b = record {
  keeps = λ S E word at m h. b.keeps S E word at m (a.keeps S E word at m h);
  each = λ S E word n k apt x lo hi h. go S E word n k apt x lo hi h (dec_lt x e);
}
  where
    go : (S E : Automaton ℕ) (word : List ℕ) (n : ℕ) → Whole word n → Apt S E word n wide may root l → (x : ℕ) → from ≤ x → x < e + 1
        → pair_found S E 1 n (take (n + 1) word) ((root, x) ∷ []) ≡ true → Dec (x < e) → found S E word 0 n wide plane stack' r' l ≡ true
    go S E word n k apt x lo hi h (yes lt) = b.keeps S E word 0 n (a.each S E word n k apt x lo lt h)
    go S E word n k apt x lo hi h (no ge) = b.each S E word n k apt x (omega arith) hi h

-- the end roots from `from` up to below e were tried
pub record Starting (wide plane room : ℕ) (may entry : List ℕ) (root : ℕ) (l : Level) (from : ℕ) (stack : List ℕ) (e p : ℕ) : Type 0 where
  pub beginning : Beginning plane room wide entry root l stack p
  pub rise : Rise wide plane may entry 0 root l from e stack p
  pub still : e ≡ from → p ≡ 0
  pub least : from ≤ e

module _ {wide plane room : ℕ} {may entry : List ℕ} {root : ℕ} {l : Level} {from : ℕ} where
  pub starting : Starting wide plane room may entry root l from entry from 0
  starting = record { beginning = starts entry; rise = rise-none from; still = λ e. refl; least = omega arith }

  pub starting_on : {stack stack' : List ℕ} {e p r : ℕ} → Starting wide plane room may entry root l from stack e p → e < l.stop → p < room → length stack' ≡ length stack
      → Begun wide plane stack p root e l stack' r → Rise wide plane may stack p root l e (e + 1) stack' r → Starting wide plane room may entry root l from stack' (e + 1) r
  starting_on t lt less same b w = record {
    beginning = goes_on t.beginning less lt same b;
    rise = rise_on t.rise w;
    still = λ h. absurd (omega (arith, t.least));
    least = omega (arith, t.least);
  }

  pub started : {stack : List ℕ} {e p : ℕ} → Starting wide plane room may entry root l from stack e p → (e < l.stop → p < room → ⊥) → Started wide plane room may entry root l from e stack p
  started {e = e} {p = p} t stop = record { few = t.beginning.few; sound = t.beginning.sound; rise = t.rise; moves = λ lt some. go lt some (dec_lt from e) }
    where
      go : from < l.stop → 0 < room → Dec (from < e) → from < e
      go lt some (yes h) = h
      go lt some (no h) =
          let same : e ≡ from = omega (arith, t.least) in
          absurd (stop (omega arith) (omega (arith, t.still same)))
