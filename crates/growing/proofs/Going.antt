-- A level that grows by parts: what is left to do, from the level held, comes to the whole; and once a part is over its bounds so is the whole, as
-- what is left only grows it. Assumes nothing.
use mathlib.Core.Path.{◌≡◌, refl, sym, ap, ◌∙◌, subst}
use Prim.Native.Nat.{ℕ}
use Rattle.std.specs.Prelude.{Some, None}
use Rattle.stepwise.specs.Grow.{Level}
use Rattle.growing.specs.declared.NewLevel.{NewLevel}
use Rattle.growing.specs.declared.Most.{Most}
use Rattle.growing.specs.Growing.{level_in, Over, Growing, Kept, Grew}
use Rattle.growing.proofs.OneMore.{gave_up, grew-some}

-- `rest` is what is left to do
pub record Going (v : NewLevel) (rest : Level ℕ → Level ℕ) (whole : Level ℕ) : Type 0 where
  pub held : rest (level_in v) ≡ whole
  pub growing : Growing v

module _ {v : NewLevel} {rest : Level ℕ → Level ℕ} {whole : Level ℕ} (g : Going v rest whole) (most : Most) where
  -- one part is done, and `next` is left
  module _ {w : NewLevel} (one next : Level ℕ → Level ℕ) (split : (G : Level ℕ) → rest G ≡ next (one G)) where
    pub going_on : Grew w (Some tt) most (one (level_in v)) → Going w next whole
    going_on d = record { held = ap next (d.held refl) ∙ sym (split (level_in v)) ∙ g.held; growing = d.growing refl }

    pub gone_over : ((G : Level ℕ) → Over most G → Over most (next G)) → Grew w None most (one (level_in v)) → Grew w None most whole
    gone_over more d = gave_up (subst (Over most) (sym (split (level_in v)) ∙ g.held) (more _ (d.over refl)))

  -- nothing is left
  pub going_last : ((G : Level ℕ) → rest G ≡ G) → Grew v (Some tt) most whole
  going_last none = grew-some (sym (none _) ∙ g.held) g.growing

-- ---- references and lengths stay
pub kept-all : {v : NewLevel} → Kept v v
kept-all = record { rows_same = refl; masks_same = refl; keys_same = refl; link_same = refl; heads_same = refl; rows_long = refl; masks_long = refl; keys_long = refl; link_long = refl; heads_long = refl; same_most = refl }

pub kept_on : {v w x : NewLevel} → Kept v w → Kept w x → Kept v x
kept_on k l =
    record {
      rows_same = l.rows_same ∙ k.rows_same;
      masks_same = l.masks_same ∙ k.masks_same;
      keys_same = l.keys_same ∙ k.keys_same;
      link_same = l.link_same ∙ k.link_same;
      heads_same = l.heads_same ∙ k.heads_same;
      rows_long = l.rows_long ∙ k.rows_long;
      masks_long = l.masks_long ∙ k.masks_long;
      keys_long = l.keys_long ∙ k.keys_long;
      link_long = l.link_long ∙ k.link_long;
      heads_long = l.heads_long ∙ k.heads_long;
      same_most = l.same_most ∙ k.same_most;
    }
