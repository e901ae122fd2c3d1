-- The places of a list that marks leave, and the marks that a deletion makes.
use Rattle.std.specs.Prelude.{ℕ, Bool, true, false, ◌||◌, List, [], ◌∷◌, Option, Some, None}
use Rattle.std.specs.Str.{bytes_eq}

-- each of a list in its place, and nothing where it is marked
abbrev pub cells : {A : Type 0} → List A → List Bool → List (Option A)
cells [] marks = []
cells (x ∷ xs) [] = []
cells (x ∷ xs) (true ∷ marks) = None ∷ cells xs marks
cells (x ∷ xs) (false ∷ marks) = Some x ∷ cells xs marks

-- the marks of documents with these docnos, once each document with this docno is marked too
abbrev pub marks_with : List ℕ → List (List ℕ) → List Bool → List Bool
marks_with docno [] marks = marks
marks_with docno (d ∷ ds) [] = []
marks_with docno (d ∷ ds) (mark ∷ marks) = (mark || bytes_eq docno d) ∷ marks_with docno ds marks
