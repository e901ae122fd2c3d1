-- The lines of a ranking and the hits that they show.
use Rattle.std.proofs.Common.{ℕ, zero, suc, ◌≡◌, refl, List, [], ◌∷◌, Option, Some}
use Rattle.std.specs.Prelude.{slice_get}
use Rattle.ri_base.specs.declared.hit.Hit.{Hit}
use Rattle.ranked_output.specs.Marks.{mark_of}
use Rattle.ranked_output.specs.Texts.{Line, line_of, lines_behind}

-- the hit above a place
abbrev pub hit_above : Option Hit → List Hit → ℕ → Option Hit
hit_above o hits zero = o
hit_above o hits (suc i) = slice_get hits i

-- each line shows the hit at its place
pub record Shows (scale : ℕ) (o : Option Hit) (hits : List Hit) (i : ℕ) (l : Line) : Type 0 where
  pub hit : Hit
  pub at : slice_get hits i ≡ Some hit
  pub line : l ≡ line_of scale (mark_of scale (hit_above o hits i) hit) hit

pub shown_at : (scale : ℕ) (o : Option Hit) (hits : List Hit) (i : ℕ) (l : Line)
    → slice_get (lines_behind scale o hits) i ≡ Some l → Shows scale o hits i l
shown_at scale o [] i l e = cc
shown_at scale o (hit ∷ hits) zero l e = record { hit = hit; at = refl; line = cc }
shown_at scale o (hit ∷ hits) (suc zero) l e =
    let s = shown_at scale (Some hit) hits zero l e in record { hit = s.hit; at = s.at; line = s.line }
shown_at scale o (hit ∷ hits) (suc (suc i)) l e =
    let s = shown_at scale (Some hit) hits (suc i) l e in record { hit = s.hit; at = s.at; line = s.line }

-- and each hit is shown by the line at its place
pub line_at : (scale : ℕ) (o : Option Hit) (hits : List Hit) (i : ℕ) (hit : Hit) → slice_get hits i ≡ Some hit →
    slice_get (lines_behind scale o hits) i ≡ Some (line_of scale (mark_of scale (hit_above o hits i) hit) hit)
line_at scale o [] i hit e = cc
line_at scale o (x ∷ hits) zero hit e = cc
line_at scale o (x ∷ hits) (suc zero) hit e = line_at scale (Some x) hits zero hit e
line_at scale o (x ∷ hits) (suc (suc i)) hit e = line_at scale (Some x) hits (suc i) hit e
