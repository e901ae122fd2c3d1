-- The form of a line, as it stands in a text.
use Rattle.std.specs.Prelude.{◌≡◌, ◌<◌, ℕ, List, [], ◌∷◌, ◌++◌, length}

-- no byte is a LF
abbrev pub HasNoFeed : List ℕ → Type 0
HasNoFeed bytes = (before behind : List ℕ) → bytes ≡ before ++ 10 ∷ behind → ⊥

-- the last byte is no CR
abbrev pub HasNoReturn : List ℕ → Type 0
HasNoReturn bytes = (before : List ℕ) → bytes ≡ before ++ 13 ∷ [] → ⊥

-- These bytes are a text and a CR, or a text that ends in no CR.
pub data IsWritten : List ℕ → List ℕ → Type 0 where
  with_return : (text raw : List ℕ) → raw ≡ text ++ 13 ∷ [] → IsWritten text raw
  without : (text raw : List ℕ) → raw ≡ text → HasNoReturn raw → IsWritten text raw

-- A line with this text stands at the front of these bytes, and these stand behind it. It ends with a LF, or the bytes end.
pub data IsLine : List ℕ → List ℕ → List ℕ → Type 0 where
  ended : (text bytes rest raw : List ℕ) → bytes ≡ raw ++ 10 ∷ rest → IsWritten text raw → HasNoFeed raw → IsLine text bytes rest
  last : (text bytes rest : List ℕ) → 0 < length bytes → rest ≡ [] → IsWritten text bytes → HasNoFeed bytes → IsLine text bytes rest
