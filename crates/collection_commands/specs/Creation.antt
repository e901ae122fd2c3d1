-- What `create` does: where there is no manifest, the files come to stand for a collection in which nothing is.
use Rattle.std.specs.Prelude.{◌≡◌, List, [], ◌∷◌, Option, None, Some, codes}
use Rattle.store_ends.specs.Files.{Files}
use Rattle.command_pieces.specs.Pieces.{Piece}
use Rattle.command_pieces.specs.Written.{told_piece, with_flush}
use Rattle.repository.specs.RealLimits.{StandsFor}
use Rattle.repository.specs.Stands.{Collection, empty_collection}

-- the files are as they were, or they stand for a collection that was made
abbrev pub IsMade : Option Files → Option Collection → Option Files → Type 0
IsMade before None told = told ≡ before
IsMade before (Some c) told = StandsFor c told

abbrev pub create_pieces : List (Piece (Option Collection))
create_pieces = with_flush (Some empty_collection) (told_piece (codes "created\n")) ∷ []
