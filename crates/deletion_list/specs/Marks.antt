-- Marked ids as contracts see them: a list that says of each id below its length whether it is marked.
use Rattle.std.specs.Prelude.{ℕ, suc, Bool, true, false, List, [], ◌∷◌}

-- how many ids are marked
abbrev pub marked_count : List Bool → ℕ
marked_count [] = 0
marked_count (true ∷ marks) = suc (marked_count marks)
marked_count (false ∷ marks) = marked_count marks
