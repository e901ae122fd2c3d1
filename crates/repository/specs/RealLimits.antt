-- What files stand for within the limits of every repository.
use Rattle.std.specs.Prelude.{◌≡◌, Option}
use Rattle.ri_base.specs.declared.limits.TheConstants.{MAX_HELD_TOKENS, MAX_PART_DOCS}
use Rattle.store_ends.specs.Files.{Files}
use Rattle.disk_index.specs.declared.limits.TheConstants.{MAX_HELD_DOCS}
use Rattle.holdings.specs.declared.limits.Limits.{Limits}
use Rattle.repository.specs.Stands.{Collection, Stands}

pub record AreReal (limits : Limits) : Type 0 where
  pub part_docs : limits.part_docs ≡ MAX_PART_DOCS
  pub held_docs : limits.held_docs ≡ MAX_HELD_DOCS
  pub held_tokens : limits.held_tokens ≡ MAX_HELD_TOKENS

-- The files stand for this collection.
abbrev pub StandsFor : Collection → Option Files → Type 0
StandsFor c told = (limits : Limits) → AreReal limits → Stands limits told c
