-- A walk along the chain of a key's bucket meets every place where the key can stand, so that the first place met with the key, or the chain's
-- end, is the answer. Assumes nothing.
use mathlib.Core.Path.{◌≡◌, sym, ap, ◌∙◌}
use mathlib.Core.List.{List}
use Prim.Native.Nat.{ℕ, ◌-◌, ◌<◌, ◌≤◌}
use native.Mathlib.Omega.{arith}
use native.Mathlib.Decide.{dec_lt}
use lib.ListN.{length, get_or, take}
use lib.Seq.{length-take-le, get_or-take}
use Rattle.std.specs.Prelude.{Some, None}
use Rattle.names.specs.Chain.{bucket_of, last_with, Chained}
use Rattle.names.specs.Found.{found_in}
use Rattle.names.proofs.PlaceLaws.{absent_out, stands_in, first-place}
use Rattle.names.proofs.ChainLaws.{bucket_below, last_within, last_has, last_covers}

-- what is so on the way: `next` is on the chain, and the key is nowhere from there on
pub record Walking (size : ℕ) (keys : List ℕ) (count key next : ℕ) : Type 0 where
  pub inside : next ≤ count
  pub on_chain : (next ≡ 0 → ⊥) → bucket_of size (get_or keys (next - 1) 0) ≡ bucket_of size key
  pub ahead : (j : ℕ) → j < count → get_or keys j 0 ≡ key → j < next

module _ {keys link heads : List ℕ} {count : ℕ} (ch : Chained keys link heads count) where
  -- a key that is nowhere from n on is looked for from the bucket's last place below n on
  on : (key n next : ℕ) → n ≤ count → next ≡ last_with (length heads) (bucket_of (length heads) key) keys n
      → ((j : ℕ) → j < count → get_or keys j 0 ≡ key → j < n) → Walking (length heads) keys count key next
  on key n next h e ahead =
      let size = length heads in
      let b = bucket_of size key in
      rw e
      record {
        inside = omega (arith, last_within size b keys n);
        on_chain = last_has size b keys n;
        ahead = λ j l q. last_covers size b keys n j (ahead j l q) (ap (bucket_of size) q);
      }

  pub walk_start : (key : ℕ) → Walking (length heads) keys count key (get_or heads (bucket_of (length heads) key) 0)
  walk_start key = on key count _ (omega arith) (ch.starts (bucket_of (length heads) key) (bucket_below (length heads) key ch.buckets)) (λ j l q. l)

  module _ {key next : ℕ} (w : Walking (length heads) keys count key next) (more : next ≡ 0 → ⊥) where
    link_is : get_or link (next - 1) 0 ≡ last_with (length heads) (bucket_of (length heads) key) keys (next - 1)
    link_is =
        ch.goes (next - 1) (omega (arith, w.inside))
        ∙ ap (λ (b : ℕ). last_with (length heads) b keys (next - 1)) (w.on_chain more)

    pub walk_down : get_or link (next - 1) 0 < next
    walk_down = omega (arith, link_is, last_within (length heads) (bucket_of (length heads) key) keys (next - 1))

    pub walk_on : (get_or keys (next - 1) 0 ≡ key → ⊥) → Walking (length heads) keys count key (get_or link (next - 1) 0)
    walk_on other = on key (next - 1) _ (omega (arith, w.inside)) link_is (λ j l q. below j (w.ahead j l q) q (dec_lt j (next - 1)))
      where
        below : (j : ℕ) → j < next → get_or keys j 0 ≡ key → Dec (j < next - 1) → j < next - 1
        below j l q (yes k) = k
        below j l q (no k) =
            let same : next - 1 ≡ j = omega arith in
            absurd (other (ap (λ (i : ℕ). get_or keys i 0) same ∙ q))

    pub walk_hit : get_or keys (next - 1) 0 ≡ key → Some (next - 1) ≡ found_in key (take count keys)
    unfolding found_in
    walk_hit e =
        let here : next - 1 < count = omega (arith, w.inside) in
        let long : next - 1 < length (take count keys) = omega (arith, length-take-le count keys ch.named) in
        let is : get_or (take count keys) (next - 1) 0 ≡ key = get_or-take count keys (next - 1) 0 here ∙ e in
        let first : (j : ℕ) → j < next - 1 → get_or (take count keys) j 0 ≡ key → ⊥ =
        λ j l q. ch.apart j (next - 1) l here (sym (get_or-take count keys j 0 (omega arith)) ∙ q ∙ sym e) in
        rw (stands_in key (take count keys) (next - 1) long is, first-place key (take count keys) (next - 1) long is first)

  pub walk_end : {key next : ℕ} → Walking (length heads) keys count key next → next ≡ 0 → None ≡ found_in key (take count keys)
  unfolding found_in
  walk_end {key} {next} w e = rw (absent_out key (take count keys) none)
    where
      none : (j : ℕ) → j < length (take count keys) → get_or (take count keys) j 0 ≡ key → ⊥
      none j l q =
          let here : j < count = omega (arith, length-take-le count keys ch.named) in
          let below : j < next = w.ahead j here (sym (get_or-take count keys j 0 here) ∙ q) in
          omega arith
