-- What `prior` writes of the lines of its input: a line for each that is refused.
use Rattle.std.specs.Prelude.{List, [], ◌∷◌, ◌++◌, Option, None, Some}
use Rattle.command_pieces.specs.Written.{Plain}
use Rattle.prior_lines.specs.declared.line.RowLine.{RowLine}
use Rattle.prior_lines.specs.declared.line.RowLine.TheVariants as row
use Rattle.refusals.specs.Lines.{refusal_piece}
use Rattle.refusals.specs.declared.refusal.Refusal.{Refusal}
use Rattle.refusals.specs.declared.refusal.Refusal.TheVariants as refusal

-- why a line is refused, where it is
abbrev pub row_refusal : RowLine → Option Refusal
row_refusal row.Accepted = None
row_refusal (row.BadRow place) = Some (refusal.BadRow place)
row_refusal (row.LineTooLong place) = Some (refusal.LineTooLong place)
row_refusal (row.RepeatedRow docno) = Some (refusal.RepeatedRow docno)
row_refusal row.RepeatedRest = Some refusal.RepeatedRest
row_refusal (row.TooManyRows place) = Some (refusal.TooManyRows place)

abbrev pub refusal_pieces : Option Refusal → List Plain
refusal_pieces None = []
refusal_pieces (Some why) = refusal_piece why ∷ []

abbrev pub row_piece : RowLine → List Plain
row_piece line = refusal_pieces (row_refusal line)

-- of all lines, one behind the other
unfoldable pub row_pieces : List RowLine → List Plain
row_pieces [] = []
row_pieces (line ∷ lines) = row_piece line ++ row_pieces lines
