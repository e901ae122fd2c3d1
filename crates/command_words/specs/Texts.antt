-- Words are texts: UTF-8.
use Rattle.std.specs.Prelude.{ℕ, Bool, List}
use Rattle.std.specs.List.{list_all}
use Rattle.std.specs.Str.{is_utf8}

abbrev pub are_texts : List (List ℕ) → Bool
are_texts words = list_all is_utf8 words
