-- The files of a folder of the system.
use Rattle.std.specs.Prelude.{ℕ, ◌≡◌, List, [], ◌∷◌, take, Contains}

-- The name of a file that lies in the folder itself: it isn't empty, doesn't begin with a dot as `.` and `..` do, is no path
-- (`/` is byte 47), and has no byte 0.
pub record IsFileName (name : List ℕ) : Type 0 where
  pub some : name ≡ [] → ⊥
  pub shown : take 1 name ≡ 46 ∷ [] → ⊥
  pub no_path : Contains name 47 → ⊥
  pub no_end : Contains name 0 → ⊥
