-- Pairs marked by a test, one after the other: what some leave and what others leave come together. Assumes nothing.
use mathlib.Core.Path.{◌≡◌, refl, sym, ◌∙◌}
use mathlib.Core.Bool.{Bool, true, false, false≢true}
use mathlib.Core.List.{List}
use Prim.Native.Nat.{ℕ, ◌+◌, ◌<◌, ◌≤◌}
use native.Mathlib.Decide.{dec_lt}
use native.Mathlib.Omega.{arith}
use Rattle.std.proofs.Common.{Bor, ◌⊎◌, inl, inr}
use Rattle.meeting.specs.declared.Level.{Level}
use Rattle.meeting.specs.Met.{is_met, There, Meeting}
use Rattle.meeting.specs.Where.{Grows, Refused, MetWhere}
use Rattle.meeting.proofs.MetLaws.{On}

pub grows_none : (wide : ℕ) (met : List ℕ) → Grows wide met met
grows_none wide met = record { each = λ s e h. h }

pub grows_on : {wide : ℕ} {met mid met' : List ℕ} → Grows wide met mid → Grows wide mid met' → Grows wide met met'
grows_on f g = record { each = λ s e h. g.each s e (f.each s e h) }

pub meeting_grows : {wide : ℕ} {met met' : List ℕ} {s e : ℕ} → Meeting wide met s e met' → Grows wide met met'
meeting_grows m = record { each = m.grows }

module _ (post : Bor (List ℕ) → ℕ → ℕ → Bool → Type 0) (wide : ℕ) where
  -- no pair at all
  pub where_none : (met : List ℕ) (l : Level) → ((s e : ℕ) → On l s e → ⊥) → MetWhere post wide met l met
  where_none met l h = record { grows = grows_none wide met; each = λ s e a b a' b' un. absurd (h s e (record { after = a; before = b; end_after = a'; end_before = b' })) }

  -- fewer pairs
  pub where_of : {met met' : List ℕ} {l : Level} (m : Level) → ((s e : ℕ) → On m s e → On l s e) → MetWhere post wide met l met' → MetWhere post wide met m met'
  where_of m h w = record {
    grows = w.grows;
    each = λ s e a b a' b' un.
        let on = h s e (record { after = a; before = b; end_after = a'; end_before = b' }) in
        w.each s e on.after on.before on.end_after on.end_before un;
  }

  -- some pairs, and then others
  pub where_on : {met mid met' : List ℕ} {l k : Level} (m : Level) → ((s e : ℕ) → On m s e → On l s e ⊎ On k s e) → MetWhere post wide met l mid → MetWhere post wide mid k met' → MetWhere post wide met m met'
  where_on {met} {mid} {met'} {l} {k} m split w v = record {
    grows = grows_on w.grows v.grows;
    each = λ s e a b a' b' un. go s e (split s e (record { after = a; before = b; end_after = a'; end_before = b' })) un (is_met wide mid s e) refl;
  }
    where
      go : (s e : ℕ) → On l s e ⊎ On k s e → is_met wide met' s e ≡ false → (b : Bool) → is_met wide mid s e ≡ b → Refused post wide met s e
      go s e (inl on) un true is = absurd (false≢true (sym un ∙ v.grows.each s e is))
      go s e (inl on) un false is = w.each s e on.after on.before on.end_after on.end_before is
      go s e (inr on) un b is =
          let r = v.each s e on.after on.before on.end_after on.end_before un in
          record { marks = r.marks; grown = grows_on w.grows r.grown; said = r.said }

  -- ---- image state s with end states from `start` up to below e, and then e
  one_more : (s start e q f : ℕ) → On (record { from = s; to = s + 1; start = start; stop = e + 1 }) q f
      → On (record { from = s; to = s + 1; start = start; stop = e }) q f ⊎ On (record { from = s; to = s + 1; start = e; stop = e + 1 }) q f
  one_more s start e q f on = go (dec_lt f e)
    where
      go : Dec (f < e) → On (record { from = s; to = s + 1; start = start; stop = e }) q f ⊎ On (record { from = s; to = s + 1; start = e; stop = e + 1 }) q f
      go (yes l) = inl (record { after = on.after; before = on.before; end_after = on.end_after; end_before = l })
      go (no l) = inr (record { after = on.after; before = on.before; end_after = omega arith; end_before = on.end_before })

  module _ {met mid : List ℕ} (s start e : ℕ) where
    pub pair_met : {met' : List ℕ} → MetWhere post wide met (record { from = s; to = s + 1; start = start; stop = e }) mid → Meeting wide mid s e met' → MetWhere post wide met (record { from = s; to = s + 1; start = start; stop = e + 1 }) met'
    pair_met w m = where_on _ (one_more s start e) w (record {
      grows = meeting_grows m;
      each = λ q f a b a' b' un.
          let same : q ≡ s = omega arith in
          let same' : f ≡ e = omega arith in
          absurd (false≢true (sym (rw (same, same') at un) ∙ m.here));
    })

    pub pair_refused : MetWhere post wide met (record { from = s; to = s + 1; start = start; stop = e }) mid → (p : Bor (List ℕ)) → p.now ≡ mid → post p s e false
        → MetWhere post wide met (record { from = s; to = s + 1; start = start; stop = e + 1 }) mid
    pair_refused w p is h = where_on _ (one_more s start e) w (record {
      grows = grows_none wide mid;
      each = λ q f a b a' b' un.
          let same : q ≡ s = omega arith in
          let same' : f ≡ e = omega arith in
          rw (same, same') (record { marks = p; grown = rw is (grows_none wide mid); said = h });
    })

  -- ---- the image states from `from` up to below s, and then s
  pub state_more : {met mid met' : List ℕ} (from s start stop : ℕ) → MetWhere post wide met (record { from = from; to = s; start = start; stop = stop }) mid
      → MetWhere post wide mid (record { from = s; to = s + 1; start = start; stop = stop }) met' → MetWhere post wide met (record { from = from; to = s + 1; start = start; stop = stop }) met'
  state_more from s start stop w v = where_on _ split w v
    where
      split : (q f : ℕ) → On (record { from = from; to = s + 1; start = start; stop = stop }) q f
          → On (record { from = from; to = s; start = start; stop = stop }) q f ⊎ On (record { from = s; to = s + 1; start = start; stop = stop }) q f
      split q f on = go (dec_lt q s)
        where
          go : Dec (q < s) → On (record { from = from; to = s; start = start; stop = stop }) q f ⊎ On (record { from = s; to = s + 1; start = start; stop = stop }) q f
          go (yes l) = inl (record { after = on.after; before = l; end_after = on.end_after; end_before = on.end_before })
          go (no l) = inr (record { after = omega arith; before = on.before; end_after = on.end_after; end_before = on.end_before })
