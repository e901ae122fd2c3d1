-- The marks of a ranking's lines. A line is told apart from the line above it only as far as digits of a logarithm can tell
-- them apart: this is the project's own.
use Rattle.std.specs.Prelude.{ℕ, ◌+◌, ◌*◌, ◌^◌, ◌<◌, nat_lt, Bool, true, false, ◌==◌, ◌&&◌, if◌then◌else◌, List, [], ◌∷◌, Option, None, Some}
use Rattle.ri_base.specs.declared.fraction.Fraction.{Fraction}
use Rattle.ri_base.specs.declared.hit.Hit.{Hit}
use Rattle.ranked_output.specs.declared.marks.Mark.{Mark}
use Rattle.ranked_output.specs.declared.marks.Mark.TheVariants.{First, Below, Same, Near}

-- the range of a query's scale
pub record IsScale (scale : ℕ) : Type 0 where
  pub some : 0 < scale
  pub small : scale < 2 ^ 60

-- leaf by leaf the same number, however each fraction is written
abbrev pub are_same : List Fraction → List Fraction → Bool
are_same [] [] = true
are_same (x ∷ xs) (y ∷ ys) = (x.p * y.q == y.p * x.q) && are_same xs ys
are_same xs ys = false

-- the mark of a hit behind the hit of the line above: a key that is greater by more than twice the scale is one of a truly
-- smaller belief
abbrev pub mark_of : ℕ → Option Hit → Hit → Mark
mark_of scale None hit = First
mark_of scale (Some above) hit =
    if are_same above.fractions hit.fractions then Same
    else if nat_lt (above.key + 2 * scale) hit.key then Below
    else Near
