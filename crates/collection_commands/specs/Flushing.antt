-- The end of a command that changes a collection: the files stand for it, and what is live is told.
use Rattle.std.specs.Prelude.{ℕ, List, [], ◌∷◌, ◌++◌, codes, length}
use Rattle.std.specs.Fmt.{decimal}
use Rattle.command_pieces.specs.Pieces.{Piece}
use Rattle.command_pieces.specs.Written.{Plain, told_piece, unflushed, with_flush}
use Rattle.docno_lines.specs.Docnos.{docnos_at}
use Rattle.repository.specs.Stands.{Collection}
use Rattle.collection_commands.specs.Deletions.{behind_lines, line_pieces}

-- flushed LIVE
abbrev pub flushed_text : ℕ → List ℕ
flushed_text live = codes "flushed " ++ decimal live ++ 10 ∷ []

abbrev pub flushed_piece : Collection → Plain
flushed_piece c = told_piece (flushed_text (length c.live))

-- the piece at which the files come to stand for a collection
abbrev pub flush_pieces : Collection → List (Piece Collection)
flush_pieces c = with_flush c (flushed_piece c) ∷ []

-- these pieces, none of which is a flush point, and then a flush of this collection
abbrev pub then_flushed : List Plain → Collection → List (Piece Collection)
then_flushed pieces c = unflushed pieces ++ flush_pieces c

-- all that `delete` does with an input
abbrev pub delete_pieces : Collection → List ℕ → List (Piece Collection)
delete_pieces c bytes = then_flushed (line_pieces c (docnos_at 0 bytes)) (behind_lines c (docnos_at 0 bytes))
