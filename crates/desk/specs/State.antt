-- The state of a desk: what a session sees, as lists of documents.
use Rattle.std.specs.Prelude.{ℕ, ◌+◌, ◌-◌, Bool, List, [], ◌∷◌, Option, None, Some, length, min, if◌then◌else◌}
use Rattle.std.specs.Str.{bytes_eq}
use Rattle.ri_base.specs.Collection.{token_count}
use Rattle.ri_base.specs.Documents.{Document}
use Rattle.smoothing.specs.declared.rule.RuleKind.{RuleKind}
use Rattle.query_check.specs.Check.{CheckedTree}
use Rattle.holdings.specs.declared.limits.Limits.{Limits}
use Rattle.repository.specs.Stands.{Collection, Prior}

-- an open query, with the live documents of its opening
pub record Query : Type 0 where
  pub name : List ℕ
  pub live : List Document
  pub query : CheckedTree
  pub k : ℕ
  pub credit : ℕ

-- an open merge, with the dead of its start
pub record Merge : Type 0 where
  pub size : ℕ
  pub credit : ℕ
  pub dead_documents : ℕ
  pub dead_tokens : ℕ

-- The live documents, how many documents and tokens are held, the priors, what is open, and what no event changes: the limits and
-- the rule.
pub record State : Type 0 where
  pub live : List Document
  pub documents : ℕ
  pub tokens : ℕ
  pub priors : List Prior
  pub queries : List Query
  pub merge : Option Merge
  pub limits : Limits
  pub kind : RuleKind

-- what files may stand for
abbrev pub collection_of : State → Collection
collection_of s = record { live = s.live; documents = s.documents; tokens = s.tokens; priors = s.priors }

-- ---- the open queries by their names

abbrev pub has_name : List ℕ → Query → Bool
has_name name q = bytes_eq q.name name

abbrev pub named : List ℕ → List Query → Option Query
named name [] = None
named name (q ∷ qs) = if has_name name q then Some q else named name qs

-- with more credit, but no more than there were live documents at its opening
abbrev pub advanced : ℕ → Query → Query
advanced docs q = record { name = q.name; live = q.live; query = q.query; k = q.k; credit = min (q.credit + docs) (length q.live) }

-- that query with more credit
abbrev pub stepped : List ℕ → ℕ → List Query → List Query
stepped name docs [] = []
stepped name docs (q ∷ qs) = if has_name name q then advanced docs q ∷ qs else q ∷ stepped name docs qs

-- without that query
abbrev pub closed : List ℕ → List Query → List Query
closed name [] = []
closed name (q ∷ qs) = if has_name name q then qs else q ∷ closed name qs

-- ---- states with something changed

abbrev pub with_live : State → List Document → ℕ → ℕ → State
with_live s live documents tokens = record {
  live = live;
  documents = documents;
  tokens = tokens;
  priors = s.priors;
  queries = s.queries;
  merge = s.merge;
  limits = s.limits;
  kind = s.kind;
}

abbrev pub with_queries : State → List Query → State
with_queries s queries = record {
  live = s.live;
  documents = s.documents;
  tokens = s.tokens;
  priors = s.priors;
  queries = queries;
  merge = s.merge;
  limits = s.limits;
  kind = s.kind;
}

abbrev pub with_merge : State → Option Merge → State
with_merge s merge = record {
  live = s.live;
  documents = s.documents;
  tokens = s.tokens;
  priors = s.priors;
  queries = s.queries;
  merge = merge;
  limits = s.limits;
  kind = s.kind;
}

-- a merge of all live documents; dead is what is held and not live
abbrev pub opened_merge : State → Merge
opened_merge s = record { size = length s.live; credit = 0; dead_documents = s.documents - length s.live; dead_tokens = s.tokens - token_count s.live }

abbrev pub turned_merge : Merge → ℕ → Merge
turned_merge m docs = record { size = m.size; credit = m.credit + docs; dead_documents = m.dead_documents; dead_tokens = m.dead_tokens }

-- behind the last turn of a merge the dead of its start are no longer held
abbrev pub merged : State → Merge → State
merged s m = with_merge (with_live s s.live (s.documents - m.dead_documents) (s.tokens - m.dead_tokens)) None

abbrev pub opened : State → List ℕ → CheckedTree → ℕ → Query
opened s name query k = record { name = name; live = s.live; query = query; k = k; credit = 0 }
