-- Postings that rise, each within its document.
use Rattle.std.specs.Prelude.{ℕ, ◌≡◌, ◌<◌, ◌≤◌, ◌+◌, List, [], ◌∷◌}
use Rattle.ri_base.specs.declared.places.Place.{Place}

-- not below this document and place, and within its document, of which there are n with so many tokens
pub record Follows (n : ℕ) (tokens : ℕ → ℕ) (id at : ℕ) (p : Place) : Type 0 where
  pub low : id ≤ p.id
  pub from : p.id ≡ id → at ≤ p.at
  pub inside : p.id < n
  pub within : p.at < tokens p.id

abbrev pub Rise : ℕ → (ℕ → ℕ) → ℕ → ℕ → List Place → Type 0
Rise n tokens id at [] = Unit {0}
Rise n tokens id at (p ∷ ps) = Follows n tokens id at p × Rise n tokens p.id (p.at + 1) ps
