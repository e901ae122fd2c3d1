-- What a desk reads as, together with the files of its store, and when it is backed by them. No list of documents is kept beside
-- the files.
use Rattle.std.specs.Prelude.{◌≡◌, Bool, true, List, Option, IfSome, length, map}
use Rattle.std.specs.List.{All}
use Rattle.std.specs.Option.{option_map}
use Rattle.store_ends.specs.Files.{Files}
use Rattle.smoothing.specs.declared.rule.RuleKind.{RuleKind}
use Rattle.disk_index.specs.Cache.{Cached}
use Rattle.disk_index.specs.Snapshots.{AreIntact, documents_held}
use Rattle.holdings.specs.MarkedParts.{tokens_held}
use Rattle.holdings.specs.Parts.{all_parts, live}
use Rattle.counts.specs.Kept.{AreSums, Kept}
use Rattle.merge_job.specs.Merge.{Merging, size_of}
use Rattle.repository.specs.Merges.{IsMerging, dead_documents, dead_tokens}
use Rattle.repository.specs.States as repositories
use Rattle.repository.specs.States.{IsBacked, part_numbers}
use Rattle.session_events.specs.declared.event.Event.{Event}
use Rattle.desk.specs.Queries.{AreListed, IsCacheKept, IsQueryBacked, priors_in, query_of}
use Rattle.desk.specs.State.{Merge, State}
use Rattle.desk.specs.Step.{step}
use Rattle.desk.specs.Told.{Shows, Told}
use Rattle.desk.specs.declared.query.OpenQuery.{OpenQuery}
use Rattle.desk.specs.declared.reply.Reply.{Reply}

-- what a desk keeps
pub record Keeps : Type 0 where
  pub repository : repositories.State
  pub kind : RuleKind
  pub queries : List OpenQuery
  pub counts : List Kept
  pub cache : Cached
  pub usable : Bool

-- the same, usable or not
abbrev pub with_usable : Keeps → Bool → Keeps
with_usable d usable = record { repository = d.repository; kind = d.kind; queries = d.queries; counts = d.counts; cache = d.cache; usable = usable }

-- ---- what it reads as, whatever the files are

abbrev pub merge_of : Merging → Merge
merge_of m = record {
  size = size_of m;
  credit = length m.copied;
  dead_documents = dead_documents m.snapshot;
  dead_tokens = dead_tokens m.snapshot;
}

abbrev pub state_of : Option Files → Keeps → State
state_of told d = record {
  live = live told d.repository.held.parts;
  documents = documents_held (all_parts d.repository.held.parts);
  tokens = tokens_held (all_parts d.repository.held.parts);
  priors = priors_in told d.repository.priors;
  queries = map (query_of told) d.queries;
  merge = option_map merge_of d.repository.merge;
  limits = d.repository.held.limits;
  kind = d.kind;
}

-- ---- when it is backed

-- the snapshot of the open merge is backed, by files that are listed
pub record IsMergeBacked (told : Option Files) (s : repositories.State) (m : Merging) : Type 0 where
  pub merging : IsMerging told s m
  pub listed : AreListed s (part_numbers m.snapshot)

-- Nothing else ties what a desk keeps to the files.
pub record IsDeskBacked (told : Option Files) (d : Keeps) : Type 0 where
  pub repository : IsBacked told d.repository
  pub queries : All (IsQueryBacked told d.repository d.kind) d.queries
  pub merge : IfSome d.repository.merge (IsMergeBacked told d.repository)
  pub counts : AreSums (live told d.repository.held.parts) d.repository.held.generation d.counts
  pub cache : IsCacheKept told d.repository d.cache

-- Each file is read as it was put, of the parts of its repository, of those of the snapshots of its open queries, and of those of the
-- snapshot of its merge.
pub record IsDeskIntact (told : Option Files) (d : Keeps) : Type 0 where
  pub parts : AreIntact told d.repository.held.parts.closed
  pub queries : All (λ q. AreIntact told q.search.snapshot) d.queries
  pub merge : IfSome d.repository.merge (λ m. AreIntact told m.snapshot)

abbrev pub IsUsable : Keeps → Type 0
IsUsable d = (d.usable ≡ true) × (d.repository.usable ≡ true)

-- ---- what an event does

-- The desk reads as what a step makes of a state, the reply shows what is told, and the desk is backed again.
pub record StepsTo (to : State × Told) (after : Option Files) (new : Keeps) (reply : Reply) : Type 0 where
  pub state : state_of after new ≡ to.0
  pub shows : Shows to.1 reply
  pub backed : IsDeskBacked after new

-- The event was one step of the state that the desk reads as.
abbrev pub Steps : Event → Option Files → Option Files → Keeps → Keeps → Reply → Type 0
Steps e before after old new reply = StepsTo (step (state_of before old) e) after new reply
