-- What an expression asks a part of the collection for: terms of which it wants the places, and names of which it wants the fields.
use Rattle.std.specs.Prelude.{ℕ, List, [], ◌∷◌, ◌++◌}
use Rattle.std.specs.List.{All, AllPairs, Contains}
use Rattle.ri_base.specs.Expression.{ExprTree, ExprTrees, word, ordered, unordered, syn, any, band, in_field, none, more}
use Rattle.ri_base.specs.Vocabulary.{IsTermBefore}

-- what is asked for at each term and at each name of fields, in the order in which they stand
unfoldable mutual
  pub asked_by : (List ℕ → List (List ℕ)) → (List ℕ → List (List ℕ)) → ExprTree → List (List ℕ)
  asked_by of_term of_name (word t) = of_term t
  asked_by of_term of_name (ordered n xs) = all_asked_by of_term of_name xs
  asked_by of_term of_name (unordered n xs) = all_asked_by of_term of_name xs
  asked_by of_term of_name (syn xs) = all_asked_by of_term of_name xs
  asked_by of_term of_name (any f) = of_name f
  asked_by of_term of_name (band xs) = all_asked_by of_term of_name xs
  asked_by of_term of_name (in_field x f) = asked_by of_term of_name x

  pub all_asked_by : (List ℕ → List (List ℕ)) → (List ℕ → List (List ℕ)) → ExprTrees → List (List ℕ)
  all_asked_by of_term of_name none = []
  all_asked_by of_term of_name (more x xs) = asked_by of_term of_name x ++ all_asked_by of_term of_name xs

-- one text and no text
abbrev pub itself : List ℕ → List (List ℕ)
itself t = t ∷ []

abbrev pub nothing : List ℕ → List (List ℕ)
nothing t = []

-- the terms, each as often as it stands
abbrev pub words : ExprTree → List (List ℕ)
words x = asked_by itself nothing x

abbrev pub all_words : ExprTrees → List (List ℕ)
all_words xs = all_asked_by itself nothing xs

-- the names of which all fields are extents; a name that restricts an expression isn't one
abbrev pub names : ExprTree → List (List ℕ)
names x = asked_by nothing itself x

abbrev pub all_names : ExprTrees → List (List ℕ)
all_names xs = all_asked_by nothing itself xs

-- the same terms, each once, in rising order of bytes
pub record AreDistinct (all : List (List ℕ)) (terms : List (List ℕ)) : Type 0 where
  pub rising : AllPairs IsTermBefore terms
  pub only : All (Contains all) terms
  pub each : All (Contains terms) all
