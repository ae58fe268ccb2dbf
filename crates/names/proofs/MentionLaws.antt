-- A key that was found leaves all as it was; a new one stands at the end, where its bucket's chain now begins and goes on as before.
-- Assumes nothing.
use mathlib.Core.Path.{◌≡◌, refl, sym, ap, ◌∙◌}
use mathlib.Core.Bool.{Bool, true, false}
use mathlib.Core.List.{List}
use Prim.Native.Nat.{ℕ, suc, ◌+◌, ◌<◌}
use native.Mathlib.Omega.{arith}
use native.Mathlib.Decide.{dec_lt}
use native.Mathlib.Numerals.{add-one}
use lib.Dec.{eqb}
use lib.ListN.{length, get_or, set, take, length-set}
use lib.Seq.{length-take-le, get_or-take, get_or-set_same, get_or-set_other, take-suc-set}
use borrow.Author.Tests.{eqb-true, eqb-false}
use Rattle.std.specs.Prelude.{Option, Some}
use Rattle.gates.specs.Numbering.{is_in}
use Rattle.gates.proofs.NumberingLaws.{place_lt}
use Rattle.names.specs.Chain.{bucket_of, last_with, Chained}
use Rattle.names.specs.Found.{found_in, Numbered}
use Rattle.names.proofs.PlaceLaws.{out_absent, first-place, found_at}
use Rattle.names.proofs.ChainLaws.{bucket_below, last_here, last_before, last_set}

module _ {keys link heads : List ℕ} {count : ℕ} (ch : Chained keys link heads count) (key : ℕ) where
  -- the key was there
  pub known : {r : Option ℕ} (p : ℕ) → r ≡ found_in key (take count keys) → r ≡ Some p
      → Numbered keys link heads count key keys link heads (record { place = p; count = count })
  known p answer e =
      let f = found_at key (take count keys) answer p e in
      record {
        all = rw f.0;
        number = f.1;
        within = omega (arith, f.1, place_lt eqb key (take count keys) f.0, length-take-le count keys ch.named);
        no_less = omega arith;
        no_more = omega arith;
        chained = ch;
        keys-long = refl;
        link_long = refl;
        heads_long = refl;
      }

  -- the key is put at the end
  module _ (room : count < length keys) (space : count < length link) (out : is_in eqb key (take count keys) ≡ false) where
    abbrev b : ℕ
    b = bucket_of (length heads) key

    abbrev keys' : List ℕ
    keys' = set keys count key

    abbrev link' : List ℕ
    link' = set link count (get_or heads b 0)

    abbrev heads' : List ℕ
    heads' = set heads b (count + 1)

    at-end : get_or keys' count 0 ≡ key
    at-end = get_or-set_same keys count key 0 room

    as_before : (j : ℕ) → j < count → get_or keys' j 0 ≡ get_or keys j 0
    as_before j l = get_or-set_other keys count j key 0 (λ q. omega arith)

    nowhere : (i : ℕ) → i < count → get_or keys' i 0 ≡ key → ⊥
    nowhere i l q =
        out_absent key (take count keys) out i (omega (arith, length-take-le count keys ch.named))
        (get_or-take count keys i 0 l ∙ sym (as_before i l) ∙ q)

    all_apart : (i j : ℕ) → i < j → j < count + 1 → get_or keys' i 0 ≡ get_or keys' j 0 → ⊥
    all_apart i j k l q = at (dec_lt j count)
      where
        at : Dec (j < count) → ⊥
        at (yes h) = ch.apart i j k h (sym (as_before i (omega arith)) ∙ q ∙ as_before j h)
        at (no h) =
            let end : j ≡ count = omega arith in
            nowhere i (omega arith) (q ∙ ap (λ (n : ℕ). get_or keys' n 0) end ∙ at-end)

    starts-there : (c : ℕ) → c < length heads → get_or heads' c 0 ≡ last_with (length heads) c keys' (count + 1)
    starts-there c l = at (eqb b c) refl ∙ ap (last_with (length heads) c keys') (sym (add-one count))
      where
        at : (t : Bool) → eqb b c ≡ t → get_or heads' c 0 ≡ last_with (length heads) c keys' (suc count)
        at true t =
            let e : b ≡ c = eqb-true b c t in
            ap (λ (n : ℕ). get_or heads' n 0) (sym e) ∙ get_or-set_same heads b (count + 1) 0 (bucket_below (length heads) key ch.buckets) ∙ add-one count
            ∙ sym (last_here (length heads) c keys' count (ap (bucket_of (length heads)) at-end ∙ e))
        at false t =
            get_or-set_other heads b c (count + 1) 0 (λ q. eqb-false b c t (sym q)) ∙ ch.starts c l
            ∙ sym (last_set (length heads) c keys count key count (omega arith))
            ∙ sym (last_before (length heads) c keys' count (λ q. eqb-false b c t (ap (bucket_of (length heads)) (sym at-end) ∙ q)))

    goes_on : (j : ℕ) → j < count + 1 → get_or link' j 0 ≡ last_with (length heads) (bucket_of (length heads) (get_or keys' j 0)) keys' j
    goes_on j l = at (dec_lt j count)
      where
        at : Dec (j < count) → get_or link' j 0 ≡ last_with (length heads) (bucket_of (length heads) (get_or keys' j 0)) keys' j
        at (yes h) =
            rw (as_before j h)
            (get_or-set_other link count j (get_or heads b 0) 0 (λ q. omega arith) ∙ ch.goes j h ∙ sym (last_set (length heads) _ keys count key j (omega arith)))
        at (no h) =
            let end : j ≡ count = omega arith in
            rw (end, at-end)
            (get_or-set_same link count (get_or heads b 0) 0 space ∙ ch.starts b (bucket_below (length heads) key ch.buckets)
            ∙ sym (last_set (length heads) b keys count key count (omega arith)))

    pub new : Numbered keys link heads count key keys' link' heads' (record { place = count; count = count + 1 })
    new =
        let long : length (take (count + 1) keys') ≡ count + 1 = length-take-le (count + 1) keys' (omega (arith, length-set keys count key)) in
        let seen : (j : ℕ) → j < count + 1 → get_or (take (count + 1) keys') j 0 ≡ get_or keys' j 0 = λ j l. get_or-take (count + 1) keys' j 0 l in
        record {
          all = rw (out, add-one count) (take-suc-set keys count key room);
          number = sym (first-place key (take (count + 1) keys') count (omega arith) (seen count (omega arith) ∙ at-end)
              (λ j l q. nowhere j l (sym (seen j (omega arith)) ∙ q)));
          within = omega arith;
          no_less = omega arith;
          no_more = omega arith;
          chained = record {
            starts = rw (length-set heads b (count + 1)) starts-there;
            goes = rw (length-set heads b (count + 1)) goes_on;
            apart = all_apart;
            named = omega (arith, length-set keys count key);
            linked = omega (arith, length-set link count (get_or heads b 0));
            buckets = omega (arith, length-set heads b (count + 1), ch.buckets);
          };
          keys-long = length-set keys count key;
          link_long = length-set link count (get_or heads b 0);
          heads_long = length-set heads b (count + 1);
        }
