-- The plugs that tell the priors of a collection.
use Rattle.std.specs.Prelude.{◌≡◌, ◌<◌, ℕ, [], List, length, slice_index_or}
use Rattle.belief_nodes.specs.Priors as nodes
use Rattle.belief_nodes.specs.Priors.{no_prior}
use Rattle.repository.specs.Stands.{Prior}
use Rattle.desk.specs.Priors.{kept_prior, length_prior}

-- a plug has just the rows and the rest of a stored prior
pub record IsPlugOf (p : Prior) (plug : nodes.Prior) : Type 0 where
  pub rows : plug.rows ≡ (kept_prior p.table).rows
  pub steps : plug.steps ≡ []
  pub rest : plug.rest ≡ (kept_prior p.table).rest

-- Nine plugs: one for each prior of the collection by its number, and the last for the lengths. The others are never asked.
pub record ArePlugs (ps : List Prior) (plugs : List nodes.Prior) : Type 0 where
  pub nine : length plugs ≡ 9
  pub stored : (i : ℕ) (p : Prior) → i < length ps → p ≡ slice_index_or ps i p → IsPlugOf p (slice_index_or plugs i no_prior)
  pub last : slice_index_or plugs 8 no_prior ≡ length_prior
