-- The distinct names of a document's fields.
use Rattle.std.specs.Prelude.{◌≢◌, ℕ, List}
use Rattle.std.specs.List.{All, AllPairs, Contains}
use Rattle.ri_base.specs.Collection.{names_of}
use Rattle.ri_base.specs.Documents.{Field}

-- each name of a field, once
pub record AreNames (names : List (List ℕ)) (fields : List Field) : Type 0 where
  pub distinct : AllPairs (λ a b. a ≢ b) names
  pub only : All (Contains (names_of fields)) names
  pub all : All (Contains names) (names_of fields)
