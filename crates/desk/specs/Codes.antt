-- How the values of what a desk keeps are told apart: by the codes of its parts.
use Rattle.std.specs.Prelude.{Bool, List, refl}
use Rattle.std.specs.Coded.{Coded, code_by, coded×, coded_bool, coded_list}
use Rattle.smoothing.specs.contracts.rule.RuleKind as kinds
use Rattle.smoothing.specs.declared.rule.RuleKind.{RuleKind}
use Rattle.disk_index.specs.Cache.{Cached}
use Rattle.disk_index.specs.contracts.cache.BlockCache as caches
use Rattle.counts.specs.Kept.{Kept}
use Rattle.counts.specs.contracts.leaf.Counts as counts
use Rattle.repository.specs.States.{State}
use Rattle.repository.specs.contracts.repository.Repository as repositories
use Rattle.desk.specs.Backed.{Keeps}
use Rattle.desk.specs.contracts.query.OpenQuery as queries
use Rattle.desk.specs.declared.query.OpenQuery.{OpenQuery}

-- what a desk keeps is stored as the tuple of its parts
abbrev pub keeps_code : Coded Keeps
keeps_code = code_by (State × (RuleKind × (List OpenQuery × (List Kept × (Cached × Bool)))))
    (coded× repositories.the_row.coded (coded× kinds.the_row.coded (coded× (coded_list queries.the_row.coded) (coded× counts.the_row.coded (coded× caches.the_row.coded coded_bool)))))
    (λ d. (d.repository, (d.kind, (d.queries, (d.counts, (d.cache, d.usable))))))
    (λ p. record { repository = p.0; kind = p.1.0; queries = p.1.1.0; counts = p.1.1.1.0; cache = p.1.1.1.1.0; usable = p.1.1.1.1.1 }) (λ d. refl)
