-- The bytes that are written of a field.
use Rattle.std.specs.Prelude.{ℕ, List, ◌∷◌, length}

-- a text behind its length
abbrev pub spelled_text : List ℕ → List ℕ
spelled_text x = length x ∷ x
