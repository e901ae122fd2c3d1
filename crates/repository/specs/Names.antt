-- The names of a repository's files, beside those of its segments.
use Rattle.std.specs.Prelude.{ℕ, List, ◌++◌, codes}
use Rattle.disk_index.specs.Names.{hex}

-- the file that lists the others
unfoldable pub manifest_name : List ℕ
manifest_name = codes "manifest"

-- the file of the prior with this number: `pri-` and 16 digits
unfoldable pub prior_name : ℕ → List ℕ
prior_name n = codes "pri-" ++ hex 16 n
