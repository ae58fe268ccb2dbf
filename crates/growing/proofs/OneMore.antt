-- A row that is put after the others is one record more, and two keys mentioned one after the other are those of one record: so the slices then
-- hold the level grown by that record, or that level has too many rows or keys. Assumes nothing.
use mathlib.Core.Path.{◌≡◌, sym, ap, ap₂, ◌∙◌}
use mathlib.Core.Logic.{inl, inr}
use mathlib.Core.List.{List, [], ◌∷◌, ◌++◌}
use Prim.Native.Nat.{ℕ, ◌+◌, ◌<◌, ◌≤◌}
use native.Mathlib.Omega.{arith}
use lib.Dec.{eqb}
use lib.ListN.{length, take, length-append}
use lib.Seq.{length-take-le}
use Rattle.std.specs.Prelude.{Some, None}
use Rattle.automata.specs.Sets.{TR, rec, tr}
use Rattle.gates.specs.Numbering.{mention, place}
use Rattle.stored.specs.Fields.{records_from}
use Rattle.stored.proofs.Reading.{records-count}
use Rattle.tables.specs.Table.{tr_row, tr_rows}
use Rattle.tables.specs.Unpack.{Put}
use Rattle.tables.proofs.Listed.{same-records, records_append}
use Rattle.stepwise.specs.Grow.{Level, grow}
use Rattle.names.specs.declared.Mentioned.{Mentioned}
use Rattle.names.specs.Found.{Numbered}
use Rattle.growing.specs.declared.NewLevel.{NewLevel}
use Rattle.growing.specs.declared.Progress.{Progress}
use Rattle.growing.specs.declared.Most.{Most}
use Rattle.growing.specs.Growing.{level_in, Over, Growing, Kept, Grew}

rows-count : (rows masks : List ℕ) (count : ℕ) → length (tr_rows rows masks 0 count) ≡ count
unfolding tr_rows
rows-count rows masks count = records-count (tr_row rows masks) 0 1 count

pub row_more : {rows masks rows' masks' : List ℕ} {i : ℕ} {t : TR} → Put rows masks rows' masks' i t → tr_rows rows' masks' 0 (i + 1) ≡ tr_rows rows masks 0 i ++ (t ∷ [])
unfolding tr_rows records_from
row_more {rows} {masks} {rows'} {masks'} {i} {t} p =
    let z : 0 + i ≡ i = omega arith in
    sym (records_append (tr_row rows' masks') 0 1 i)
    ∙ ap₂ (λ (ts : List TR) (u : TR). ts ++ (u ∷ []))
    (same-records (tr_row rows' masks') (tr_row rows masks) 0 0 1 1 i (λ j lt. p.others _ (λ e. omega arith)))
    (ap (tr_row rows' masks') z ∙ p.here)

-- a level that is given up, and one that is within bounds
pub gave_up : {v : NewLevel} {most : Most} {G : Level ℕ} → Over most G → Grew v None most G
gave_up h = record { held = λ e. cc; growing = λ e. cc; over = λ e. h }

pub grew-some : {v : NewLevel} {most : Most} {G : Level ℕ} → level_in v ≡ G → Growing v → Grew v (Some tt) most G
grew-some e g = record { held = λ s. e; growing = λ s. g; over = λ s. cc }

module _ {v : NewLevel} (g : Growing v) (s m l r : ℕ) where
  abbrev next : Level ℕ
  next = grow eqb v.most.base s m l r (level_in v)

  pub rows-over : v.done.rows ≡ v.most.rows → Over v.most next
  unfolding grow
  rows-over e = inl (simp (length-append, rows-count) (omega arith))

  module _ {keys₁ link₁ heads₁ keys₂ link₂ heads₂ : List ℕ} {a b : Mentioned}
      (left : Numbered v.keys.now v.link.now v.heads.now v.done.keys l keys₁ link₁ heads₁ a) (right : Numbered keys₁ link₁ heads₁ a.count r keys₂ link₂ heads₂ b) where
    both : take b.count keys₂ ≡ mention eqb (mention eqb (take v.done.keys v.keys.now) l) r
    both = right.all ∙ ap (λ (ks : List ℕ). mention eqb ks r) left.all

    pub keys-over : v.most.keys < b.count → Over v.most next
    unfolding grow
    keys-over h = inr (omega (arith, ap length both, length-take-le b.count keys₂ right.chained.named))

    -- the level after the row is put
    module _ {w : NewLevel} (put : Put v.rows.now v.masks.now w.rows.now w.masks.now v.done.rows (tr s m (v.most.base + a.place) (v.most.base + b.place)))
        (kept : Kept v w) (keys : w.keys.now ≡ keys₂) (link : w.link.now ≡ link₂) (heads : w.heads.now ≡ heads₂) (done : w.done ≡ record { rows = v.done.rows + 1; keys = b.count }) where
      rows-done : w.done.rows ≡ v.done.rows + 1
      rows-done = ap (λ (p : Progress). p.rows) done

      keys-done : w.done.keys ≡ b.count
      keys-done = ap (λ (p : Progress). p.keys) done

      holds_more : level_in w ≡ next
      unfolding grow
      holds_more =
          let x : a.place ≡ place eqb l (mention eqb (take v.done.keys v.keys.now) l) = left.number ∙ ap (place eqb l) left.all in
          let y : b.place ≡ place eqb r (mention eqb (mention eqb (take v.done.keys v.keys.now) l) r) = right.number ∙ ap (place eqb r) both in
          ap₂ (λ (ts : List TR) (ks : List ℕ). record { records = ts; keys = ks })
          (ap (tr_rows w.rows.now w.masks.now 0) rows-done ∙ row_more put ∙ ap₂ (λ (i j : ℕ). tr_rows v.rows.now v.masks.now 0 v.done.rows ++ (rec s m (v.most.base + i, v.most.base + j) ∷ [])) x y)
          (ap₂ (λ (n : ℕ) (ks : List ℕ). take n ks) keys-done keys ∙ both)

      pub grew_more : (v.done.rows ≡ v.most.rows → ⊥) → b.count ≤ v.most.keys → Grew w (Some tt) v.most next
      grew_more free few =
          let most = kept.same_most in
          let rows_same : w.most.rows ≡ v.most.rows = ap (λ (x : Most). x.rows) most in
          let keys_same : w.most.keys ≡ v.most.keys = ap (λ (x : Most). x.keys) most in
          let base_same : w.most.base ≡ v.most.base = ap (λ (x : Most). x.base) most in
          grew-some holds_more (record {
            chained = rw (keys, link, heads, keys-done) right.chained;
            rows_few = omega (arith, g.rows_few, free, rows-done);
            keys_few = omega (arith, keys-done);
            wide = omega (arith, g.wide, kept.rows_long);
            long = omega (arith, g.long, kept.masks_long);
            room = omega (arith, g.room, kept.keys_long);
            links = omega (arith, g.links, kept.link_long);
            small = omega (arith, g.small);
          })
