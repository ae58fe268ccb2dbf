-- The tally of all members is the check's verdict by the image, and its reply is that verdict's. Assumes nothing.
use mathlib.Core.Path.{◌≡◌, refl, sym, ap, ap₂, ◌∙◌, subst}
use mathlib.Core.Bool.{Bool, true, false, false≢true}
use mathlib.Core.List.{List, [], ◌∷◌, ◌++◌, map, Memᴰ}
use mathlib.Core.Option.{Option, none, some}
use Prim.Native.Nat.{ℕ, zero, suc, ◌+◌, ◌-◌, ◌<◌, ◌≤◌}
use native.Mathlib.Numerals.{add-one}
use native.Mathlib.Omega.{arith}
use lib.IntN.{ℤ}
use lib.ListN.{length, get_or, take, replicate, length-append, length-replicate}
use Rattle.automata.specs.Choice.{choices_most}
use Rattle.automata.specs.Tree.{Tree, tree_of}
use Rattle.automata.specs.Sets.{automaton_of}
use Rattle.automata.specs.Members.{Member, member, flat, up_to, runs}
use Rattle.automata.proofs.Words.{Word, is_some}
use Rattle.automata.proofs.MemberLaws.{IsMember, is_member_lem}
use Rattle.verdict.specs.Verdict.{fails, is_state, examine}
use Rattle.imagewise.specs.Image.{ends_in, image_verdict}
use Rattle.jobs.specs.Reply.{says, in_places, word_places}
use Rattle.replies.specs.Replied.{reply_from, fields_of}
use Rattle.replies.proofs.Makers.{is-holds, is-fails, is-undecided}
use Rattle.matching.specs.Seeking.{Lent}
use Rattle.matching.proofs.Exact.{roots-are, state_exact}
use Rattle.walking.specs.declared.Tally.{Tally}
use Rattle.walking.specs.declared.Kind.TheVariants.{Going, Failed, Undecided}
use Rattle.walking.specs.Tallied.{tick_of, tallied, Halted, reply_by, reply_of}
use Rattle.walking.specs.Walk.{passes_in, filled, root_of, Both}
use Rattle.walking.proofs.TallyLaws.{tally_halted, tick_used, tick_passed, tick_missed}
use Rattle.walking.proofs.Placed.{fill_zeros, placed, read_back}
use Rattle.walking.proofs.Rooms.{zeros_small, few-levels, lent}
use Rattle.walking.proofs.Listed.{in_zeros, all_listed}

-- a check that goes on, after p members that passed
abbrev pub going : ℕ → Tally
going p = record { kind = Going; count = p; root = 0; word = replicate word_places 0 }

-- ---- the tally is the verdict, where the tests agree
module _ (passes test : Member → Bool) where
  -- the member's word stands in its places, and both tests say the same
  abbrev pub Agree : Member → Type 0
  Agree (member r w) = (filled (replicate word_places 0) 0 w ≡ in_places w) × (test (in_zeros (member r w)) ≡ passes (member r w))

  ended : (b : ℕ) (t : Tally) (ms : List Member) → (t.kind ≡ Going → ⊥) → fields_of (reply_of (tallied test b t ms)) ≡ fields_of (reply_of t)
  unfolding Halted
  ended b t ms h = ap (λ (u : Tally). fields_of (reply_of u)) (tally_halted test b t ms h)

  first_tick : (b : ℕ) (t u : Tally) (m : Member) (ms : List Member) → u ≡ tick_of test b t m → tallied test b t (m ∷ ms) ≡ tallied test b u ms
  unfolding tallied
  first_tick b t u m ms e = ap (λ (x : Tally). tallied test b x ms) (sym e)

  pub tally_exact : (ms : List Member) (p b : ℕ) → ((m : Member) → Memᴰ m ms → Agree m)
      → fields_of (reply_of (tallied test (p + b) (going p) (map in_zeros ms))) ≡ reply_from (says (examine passes p b ms))
  unfolding tallied reply_by
  tally_exact [] p b h = is-holds p
  tally_exact (member r w ∷ ms) p zero h =
      ap (λ (t : Tally). fields_of (reply_of t)) (first_tick (p + 0) (going p) _ (in_zeros (member r w)) (map in_zeros ms) (tick_used test (p + 0) (going p) r (filled (replicate word_places 0) 0 w) refl (omega arith)))
      ∙ ended (p + 0) (record { kind = Undecided; count = p; root = 0; word = replicate word_places 0 }) (map in_zeros ms) (λ e. let z : ◌≡◌ {A = ℕ} 0 1 = cc in omega arith)
      ∙ is-undecided p
  tally_exact (member r w ∷ ms) p (suc b) h =
      go (passes (member r w)) refl (tally_exact ms (suc p) b (λ m k. h m (Memᴰ.tail k)))
    where
      good : Agree (member r w)
      good = h (member r w) (Memᴰ.head refl)

      go : (x : Bool) → passes (member r w) ≡ x → fields_of (reply_of (tallied test (suc p + b) (going (suc p)) (map in_zeros ms))) ≡ reply_from (says (examine passes (suc p) b ms))
          → fields_of (reply_of (tallied test (p + suc b) (going p) (in_zeros (member r w) ∷ map in_zeros ms))) ≡ reply_from (says (elim x [ true ↦ examine passes (suc p) b ms | false ↦ fails (suc p) (member r w) ]))
      go true e ih =
          let total : p + suc b ≡ suc p + b = omega arith in
          ap (λ (t : Tally). fields_of (reply_of t)) (first_tick (p + suc b) (going p) (going (p + 1)) (in_zeros (member r w)) (map in_zeros ms) (tick_passed test (p + suc b) (going p) r (filled (replicate word_places 0) 0 w) refl (omega arith) (good.1 ∙ e)))
          ∙ ap₂ (λ (k q : ℕ). fields_of (reply_of (tallied test k (going q) (map in_zeros ms)))) total (add-one p)
          ∙ ih
      go false e ih =
          ap (λ (t : Tally). fields_of (reply_of t)) (first_tick (p + suc b) (going p) _ (in_zeros (member r w)) (map in_zeros ms) (tick_missed test (p + suc b) (going p) r (filled (replicate word_places 0) 0 w) refl (omega arith) (good.1 ∙ e)))
          ∙ ended (p + suc b) (record { kind = Failed; count = p + 1; root = r; word = filled (replicate word_places 0) 0 w }) (map in_zeros ms) (λ f. let z : ◌≡◌ {A = ℕ} 0 1 = cc in omega arith)
          ∙ is-fails (p + 1) r w good.0
          ∙ ap (λ (k : ℕ). reply_from (says (fails k (member r w)))) (add-one p)

-- ---- a word of the definitions
pub word_long : (n : ℕ) (w : List ℕ) → Word n w → length w ≡ n + 1
word_long zero [] h = absurd h
word_long zero (c ∷ []) h = refl
word_long zero (c ∷ d ∷ w) h = absurd h
word_long (suc n) [] h = absurd h
word_long (suc n) (c ∷ w) h = omega (arith, word_long n w h.1)

word_small : (n : ℕ) (w : List ℕ) (k : ℕ) → Word n w → (i : ℕ) → get_or (w ++ replicate k 0) i 0 < choices_most
word_small zero [] k h i = absurd h
word_small zero (c ∷ []) k h zero = h
word_small zero (c ∷ []) k h (suc i) = zeros_small k i
word_small zero (c ∷ d ∷ w) k h i = absurd h
word_small (suc n) [] k h i = absurd h
word_small (suc n) (c ∷ w) k h zero = h.0
word_small (suc n) (c ∷ w) k h (suc i) = word_small n w k h.1 i

-- ---- both tables
module _ {rows masks : List ℕ} {coefs : List ℤ} {counts first end_rows end_masks : List ℕ} {end_coefs : List ℤ} {end_counts end_first : List ℕ} {wide hints cells n : ℕ}
    (g : Both rows masks coefs counts first end_rows end_masks end_coefs end_counts end_first wide hints cells n) where
  abbrev test : Member → Bool
  test = passes_in rows masks coefs first end_rows end_masks end_coefs end_counts end_first n

  module _ (r : ℕ) (w : List ℕ) (is : IsMember g.image.set r w) where
    is-long : length w ≡ n + 1
    is-long = word_long g.image.set.n w is.word ∙ ap (λ (k : ℕ). k + 1) (sym g.image.qubits)

    fits : length w ≤ word_places
    fits = omega (arith, is-long, few-levels g)

    places_long : length (filled (replicate word_places 0) 0 w) ≡ word_places
    places_long =
        let whole : length w + (word_places - length w) ≡ word_places = omega (arith, fits) in
        ap length (fill_zeros w fits) ∙ length-append w (replicate (word_places - length w) 0) ∙ ap (λ (k : ℕ). length w + k) (length-replicate (word_places - length w) 0) ∙ whole

    places_small : (i : ℕ) → get_or (filled (replicate word_places 0) 0 w) i 0 < choices_most
    places_small i = subst (λ (u : List ℕ). get_or u i 0 < choices_most) (sym (fill_zeros w fits)) (word_small g.image.set.n w (word_places - length w) is.word i)

    abbrev lent_word : Lent rows masks coefs counts first end_rows end_masks end_coefs end_counts end_first (filled (replicate word_places 0) 0 w) wide hints n
    lent_word = lent g (filled (replicate word_places 0) 0 w) places_long places_small g.hinted

    back : take (n + 1) (filled (replicate word_places 0) 0 w) ≡ w
    back = read_back w (n + 1) is-long (omega (arith, few-levels g))

    abbrev Says : ℕ → Type 0
    Says k = is_some (tree_of (automaton_of g.image.set) 1 k w r) ≡ true → test (in_zeros (member r w)) ≡ elim (tree_of (automaton_of g.image.set) 1 k w r) [ none ↦ false | some x ↦ is_state g.ends.set k x ]

    says-ends : Says g.ends.set.n
    says-ends = go (tree_of (automaton_of g.image.set) 1 g.ends.set.n w r) refl
      where
        go : (o : Option (Tree g.ends.set.n)) → tree_of (automaton_of g.image.set) 1 g.ends.set.n w r ≡ o → is_some o ≡ true
            → test (in_zeros (member r w)) ≡ elim o [ none ↦ false | some x ↦ is_state g.ends.set g.ends.set.n x ]
        go none e h = absurd (false≢true h)
        go (some x) e h =
            state_exact lent_word r (omega (arith, is.root, roots-are g.image)) x
            (ap (λ (u : List ℕ). tree_of (automaton_of g.image.set) 1 g.ends.set.n u r) back ∙ e)

    pub agrees : Agree (ends_in g.image.set g.ends.set) test (member r w)
    agrees = (placed w fits, subst Says (sym g.ends.qubits ∙ g.image.qubits) says-ends is.has_tree)

  all_agree : (m : Member) → Memᴰ m (runs g.image.set) → Agree (ends_in g.image.set g.ends.set) test m
  all_agree (member r w) k = agrees r w (is_member_lem g.image.set r w k)

  -- the reply of the walk over all roots
  pub walked : (b : ℕ) → fields_of (reply_of (tallied test b (going 0) (flat (root_of rows masks coefs first n) (up_to 0 (get_or counts 0 0))))) ≡ reply_from (says (image_verdict g.image.set g.ends.set b))
  walked b =
      let z : b ≡ 0 + b = omega arith in
      ap₂ (λ (k : ℕ) (ms : List Member). fields_of (reply_of (tallied test k (going 0) ms))) z (all_listed g.image)
      ∙ tally_exact (ends_in g.image.set g.ends.set) test (runs g.image.set) 0 b all_agree
