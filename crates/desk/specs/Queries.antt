-- What an open query reads as, together with the files of the store, and when it is backed by them.
use Rattle.std.specs.Prelude.{◌≡◌, ℕ, true, List, [], Option, None, Some, Result, Ok, Err, Contains, map}
use Rattle.store_ends.specs.Files.{Files}
use Rattle.smoothing.specs.declared.rule.RuleKind.{RuleKind}
use Rattle.query_check.specs.Answers.{whole_checked}
use Rattle.belief_nodes.specs.Network.{network_tree}
use Rattle.manifest.specs.Priors.{PriorTable, prior_file}
use Rattle.manifest.specs.declared.manifest.PriorEntry.{PriorEntry}
use Rattle.disk_index.specs.Cache.{Cached, IsCacheBacked, KeptBlock}
use Rattle.disk_index.specs.Snapshots.{AreBacked}
use Rattle.ranker.specs.Ranking.{query_network}
use Rattle.ranker.specs.Searches.{IsTaken, searched}
use Rattle.repository.specs.Names.{prior_name}
use Rattle.repository.specs.Numbers.{is_among}
use Rattle.repository.specs.Stands.{Prior}
use Rattle.repository.specs.States.{State, listed_numbers, part_numbers}
use Rattle.desk.specs.Priors.{priors_with}
use Rattle.desk.specs.State.{Query}
use Rattle.desk.specs.declared.query.OpenQuery.{OpenQuery}

-- ---- what it reads as, whatever the files are

-- the rows of a prior are those of its file; none where it has no file that is read
abbrev pub no_rows : PriorTable
no_rows = record { rest = None; rows = [] }

abbrev pub read_table : Result PriorTable ℕ → PriorTable
read_table (Ok table) = table
read_table (Err place) = no_rows

abbrev pub table_of : Option (List ℕ) → PriorTable
table_of None = no_rows
table_of (Some bytes) = read_table (prior_file bytes)

abbrev pub table_in : Option Files → ℕ → PriorTable
table_in None n = no_rows
table_in (Some files) n = table_of (files (prior_name n)).read

abbrev pub priors_in : Option Files → List PriorEntry → List Prior
priors_in told entries = map (λ e. record { name = e.name; table = table_in told e.number }) entries

-- the live documents of an open query are those of its snapshot
abbrev pub query_of : Option Files → OpenQuery → Query
query_of told q = record { name = q.name; live = searched told q.search; query = whole_checked q.search.checked; k = q.search.most; credit = q.search.at.credit }

-- ---- when it is backed

-- these numbers are among those that the manifest lists, so their files stay until a sweep
abbrev pub AreListed : State → List ℕ → Type 0
AreListed s ns = (n : ℕ) → is_among n ns ≡ true → is_among n (listed_numbers s) ≡ true

-- The snapshot of an open query is backed, by files that are listed. What its search has taken so far, and the statistics, are those
-- of its documents as they read now, with the priors as they read now.
pub record IsQueryBacked (told : Option Files) (s : State) (kind : RuleKind) (q : OpenQuery) : Type 0 where
  pub snapshot : AreBacked told q.search.snapshot
  pub listed : AreListed s (part_numbers q.search.snapshot)
  pub taken : IsTaken kind (priors_with (priors_in told s.priors)) told q.search
  pub network : network_tree q.search.network ≡ query_network (whole_checked q.search.checked) (searched told q.search)

-- each block of the cache is that of its file, which is listed
pub record IsCacheKept (told : Option Files) (s : State) (cache : Cached) : Type 0 where
  pub backed : IsCacheBacked told cache
  pub listed : (b : KeptBlock) → Contains cache.kept b → is_among b.0.number (listed_numbers s) ≡ true
