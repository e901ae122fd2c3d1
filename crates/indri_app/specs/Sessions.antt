-- A session over files that stand for a collection.
use Rattle.std.specs.Prelude.{ℕ, [], List, None, Option}
use Rattle.store_ends.specs.Files.{Files}
use Rattle.smoothing.specs.declared.rule.RuleKind.{RuleKind}
use Rattle.belief_nodes.specs.Priors.{Prior}
use Rattle.command_pieces.specs.Pieces.{Piece, Writes}
use Rattle.holdings.specs.declared.limits.Limits.{Limits}
use Rattle.repository.specs.RealLimits.{AreReal, StandsFor}
use Rattle.repository.specs.Stands.{Collection}
use Rattle.script_reader.specs.Items.{items}
use Rattle.desk.specs.Backed.{IsDeskBacked, Keeps}
use Rattle.desk.specs.Plugs.{ArePlugs}
use Rattle.desk.specs.Queries.{priors_in}
use Rattle.desk.specs.State.{State, collection_of}
use Rattle.indri_app.specs.Items.{pieces_of, state_behind_all}

-- the state in which it begins: nothing is open
abbrev pub begun : Limits → RuleKind → Collection → State
begun limits kind c = record {
  live = c.live;
  documents = c.documents;
  tokens = c.tokens;
  priors = c.priors;
  queries = [];
  merge = None;
  limits = limits;
  kind = kind;
}

-- all that it does with a script
abbrev pub session_pieces : Limits → RuleKind → Collection → List ℕ → List (Piece Collection)
session_pieces limits kind c bytes = pieces_of (begun limits kind c) (items bytes)

-- the collection behind it
abbrev pub session_collection : Limits → RuleKind → Collection → List ℕ → Collection
session_collection limits kind c bytes = collection_of (state_behind_all (begun limits kind c) (items bytes))

-- A desk is backed by the files, which stand for the collection of the last flush point, and the plugs tell its priors.
pub record IsUnderWay (told : Option Files) (d : Keeps) (plugs : List Prior) (kept : Collection) : Type 0 where
  pub backed : IsDeskBacked told d
  pub real : AreReal d.repository.held.limits
  pub stands : StandsFor kept told
  pub plugs_are : ArePlugs (priors_in told d.repository.priors) plugs

-- some text was written
abbrev pub Grows : Option (List ℕ) → Option (List ℕ) → Type 0
Grows before now = (text : List ℕ) × Writes before now text
