-- What `delete` does with the lines of its input, one behind the other.
use Rattle.std.specs.Prelude.{ℕ, Bool, List, [], ◌∷◌, ◌++◌, codes, fold, map, if◌then◌else◌}
use Rattle.std.specs.Set.{is_member}
use Rattle.std.specs.Str.{bytes_eq}
use Rattle.ri_base.specs.Documents.{Document}
use Rattle.command_pieces.specs.Pieces.{pieces_in_turn}
use Rattle.command_pieces.specs.Written.{Plain, told_piece}
use Rattle.docno_lines.specs.declared.docno.DocnoLine.{DocnoLine}
use Rattle.docno_lines.specs.declared.docno.DocnoLine.TheVariants.{BadEvent, Docno, LineTooLong}
use Rattle.refusals.specs.Lines.{refusal_piece}
use Rattle.refusals.specs.declared.refusal.Refusal.TheVariants as refusal
use Rattle.repository.specs.Stands.{Collection}
use Rattle.repository.specs.Steps.{without_docno}

-- a live document has this docno
abbrev pub is_there : Collection → List ℕ → Bool
is_there c docno = is_member bytes_eq (map (λ (d : Document). d.docno) c.live) docno

-- deleted DOCNO
abbrev pub deleted_text : List ℕ → List ℕ
deleted_text docno = codes "deleted " ++ docno ++ 10 ∷ []

-- what is written of a line
unfoldable pub line_piece : Collection → DocnoLine → Plain
line_piece c (Docno docno) = if is_there c docno then told_piece (deleted_text docno) else refusal_piece (refusal.NoSuchDoc docno)
line_piece c (BadEvent place) = refusal_piece (refusal.BadEvent place)
line_piece c (LineTooLong place) = refusal_piece (refusal.LineTooLong place)

-- the collection behind a line
unfoldable pub behind_line : Collection → DocnoLine → Collection
behind_line c (Docno docno) = if is_there c docno then without_docno c docno else c
behind_line c (BadEvent place) = c
behind_line c (LineTooLong place) = c

-- what is written of lines, one behind the other
unfoldable pub line_pieces : Collection → List DocnoLine → List Plain
line_pieces c lines = pieces_in_turn behind_line (λ c line. line_piece c line ∷ []) c lines

unfoldable pub behind_lines : Collection → List DocnoLine → Collection
behind_lines c lines = fold behind_line c lines
