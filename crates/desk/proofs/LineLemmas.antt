-- Lines without labels are result lines.
use Rattle.std.proofs.Common.{◌≡◌, ◌+◌, ◌++◌, ℕ, List, [], ◌∷◌, None, ap, refl}
use Rattle.ranked_output.specs.Texts.{Line, line_text, lines_text, text_from}
use Rattle.desk.specs.Shown.{shown_from, shown_text}

from-rank : (rank : ℕ) (lines : List Line) → shown_from None rank lines ≡ text_from rank lines
from-rank rank [] = refl
from-rank rank (l ∷ ls) = ap (λ text. line_text rank l ++ text) (from-rank (rank + 1) ls)

pub without_labels : (lines : List Line) → shown_text None lines ≡ lines_text lines
without_labels lines = from-rank 1 lines
