-- What a command of clap with plain options takes.
use Rattle.std.specs.Prelude.{◌≡◌, Bool, true, false, List, [], ◌∷◌}
use Rattle.clap.specs.Words.{App, Kinds, Text, fault_of, found_of, matches_of, rows_of}
use Rattle.clap.specs.declared.parser.matches.ArgMatches.{ArgMatches}

abbrev pub is_none_of : Kinds → Bool
is_none_of [] = true
is_none_of (k ∷ ks) = false

-- the command takes the words
unfoldable pub is_taken : App → List Text → Bool
is_taken app words = is_none_of (fault_of app words)

-- it takes them, and m has what they give
pub record IsTakenBy (app : App) (words : List Text) (m : ArgMatches) : Type 0 where
  pub takes : is_taken app words ≡ true
  pub rows : rows_of (found_of m) ≡ matches_of app words
