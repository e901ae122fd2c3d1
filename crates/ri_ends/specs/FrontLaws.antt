-- What the front of a source tells.
use Rattle.std.specs.Prelude.{ℕ, ◌≡◌, List, Option, Some, None, take, is_some, refl}
use Rattle.std.specs.Option.{option_map}
use Rattle.ri_ends.specs.Front.{behind_front}

-- It tells what it has left where it tells its layers.
pub front_told : (n : ℕ) (left : Option (List ℕ)) (layers : Option (List (List ℕ × ℕ))) → is_some left ≡ is_some layers → is_some (option_map (take n) left) ≡ is_some (behind_front n left layers)
front_told n None layers told = refl
front_told n (Some bytes) None told = told
front_told n (Some bytes) (Some others) told = refl
