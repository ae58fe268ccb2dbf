-- Fields one after the other: those of a list and one more are those of the list with that number at its end, so a loop that puts field after
-- field puts all of them. Assumes nothing.
use mathlib.Core.Path.{◌≡◌, refl, sym, ap, ◌∙◌}
use mathlib.Core.List.{List, [], ◌∷◌, ◌++◌, append_assoc, append-nil}
use Prim.Native.Nat.{ℕ, ◌+◌, ◌-◌, ◌*◌, ◌≤◌, ◌<◌}
use native.Mathlib.Numerals.{add-one}
use native.Mathlib.Omega.{arith}
use lib.ListN.{length, get_or, take, drop}
use lib.Seq.{take-suc, take_all}
use borrow.Rule.Slice.PartMut.{put_mid}
use Rattle.lines.specs.Numeral.{field, field_list}
use Rattle.lines.specs.Put.{Put}
use Rattle.lines.proofs.Decimal.{few8}
use Rattle.lines.proofs.Putting.{put-long, put_less, put_as, put_on}

pub fields_snoc : (ns : List ℕ) (n : ℕ) → field_list ns ++ field n ≡ field_list (ns ++ (n ∷ []))
fields_snoc [] n = sym (append-nil (field n))
fields_snoc (m ∷ ns) n = append_assoc (field m) (field_list ns) (field n) ∙ ap (λ (l : List ℕ). field m ++ l) (fields_snoc ns n)

pub grouped : (a b c d : List ℕ) → ((a ++ b) ++ c) ++ d ≡ a ++ (b ++ (c ++ d))
grouped a b c d = simp append_assoc

-- i fields are put
pub record Listing (ns entry out : List ℕ) (i at : ℕ) : Type 0 where
  pub within : i ≤ length ns
  pub room : 4 * length ns + 7 ≤ length entry
  pub long : length out ≡ length entry
  pub put : Put (field_list (take i ns)) (4 * i) entry out at

pub list_begin : (ns entry : List ℕ) → 4 * length ns + 7 ≤ length entry → Listing ns entry entry 0 0
list_begin ns entry h = record { within = omega arith; room = h; long = refl; put = record { count = refl; few = omega arith; front = refl } }

module _ {ns entry out : List ℕ} {i at : ℕ} (p : Listing ns entry out i at) where
  pub list_next : {ys : List ℕ} {r : ℕ} → i < length ns → get_or ns i 0 < 256
      → Put (field (get_or ns i 0)) 11 (take (length out - at) (drop at out)) ys r
      → Listing ns entry (put_mid at (length out - at) out ys) (i + 1) (at + r)
  list_next {ys} {r} h small q =
      let room = p.room in
      let one = put_less q 4 (omega (arith, q.count, few8 (get_or ns i 0) small)) in
      let next : field_list (take i ns) ++ field (get_or ns i 0) ≡ field_list (take (i + 1) ns) =
      fields_snoc (take i ns) (get_or ns i 0) ∙ rw (add-one) (ap field_list (sym (take-suc ns i 0 h))) in
      let more = put_as (put_on p.put (omega arith) one) next in
      let both = put_less more (4 * (i + 1)) (omega (arith, more.few)) in
      record { within = omega arith; room = room; long = put-long both (omega arith); put = both }

  pub list_all : length ns ≤ i → Put (field_list ns) (4 * length ns) entry out at
  list_all h =
      let w = p.within in
      put_less (put_as p.put (ap field_list (take_all i ns h))) (4 * length ns) (omega (arith, p.put.few))
