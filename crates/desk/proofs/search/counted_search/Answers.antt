use Rattle.std.proofs.Common.{IfOk, List, Option, subst, sym}
use Rattle.store_ends.specs.Files.{Files}
use Rattle.smoothing.specs.declared.rule.RuleKind.{RuleKind}
use Rattle.belief_nodes.specs.Priors.{Prior}
use Rattle.disk_index.specs.Cache.{IsCacheBacked}
use Rattle.disk_index.specs.Snapshots.{AreBacked, AreIntact}
use Rattle.disk_index.proofs.AmongLemmas.{AreIntact-backed}
use Rattle.disk_index.proofs.BackedLemmas.{IsCacheBacked-among}
use Rattle.counts.proofs.ReadingLemmas.{cache-among, reads-then}
use Rattle.ranker.specs.Searches.{IsTaken}
use Rattle.desk.proofs.search.counted_search.Goals as goal

pub returns-clause-taken : goal.returns-clause-taken
returns-clause-taken g c = λ backed cached.
    let told = g.T.Store.files c.args.store.now in
    let counted = c.in_ok-stats.ensures.reads in
    let taken = subst (λ (f : Option Files). AreBacked f c.args.snapshot → IsCacheBacked f c.all_stats.new.cache → IfOk c.new_search.result (λ s. (kind : RuleKind) (priors : List Prior) → IsTaken kind priors f s)) counted.quiet.same_files c.new_search.ensures.taken in
    taken backed (IsCacheBacked-among told c.args.snapshot c.args.cache.now c.all_stats.new.cache backed counted.cache cached)

pub returns-clause-honest : goal.returns-clause-honest
returns-clause-honest g c = λ intact cached.
    let counted = c.in_ok-stats.ensures.reads in
    let stored = subst (λ (f : Option Files). AreIntact f c.args.snapshot) (sym counted.quiet.same_files) intact in
    c.new_search.ensures.honest stored (cache-among _ _ _ _ _ _ _ c.args.snapshot _ _ _ _ counted (AreIntact-backed (g.T.Store.files c.args.store.now) c.args.snapshot intact) cached)

pub returns-clause-reads : goal.returns-clause-reads
returns-clause-reads g c = reads-then _ _ _ _ _ _ _ _ _ _ _ _ _ _ c.in_ok-stats.ensures.reads c.new_search.ensures.reads
