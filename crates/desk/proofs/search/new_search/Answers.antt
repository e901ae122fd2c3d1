use Rattle.std.proofs.Common.{ap, map, subst, List}
use Rattle.std.proofs.lemmas.Result.{err_from_is_err_and}
use Rattle.query_check.specs.Leaves.{leaf_tree}
use Rattle.query_check.specs.declared.leaf_kind.LeafKind.{LeafKind}
use Rattle.belief_nodes.specs.Network.{NetworkTree}
use Rattle.disk_index.specs.Parts.{reads}
use Rattle.disk_index.specs.Snapshots.{Marked}
use Rattle.range_bounds.specs.Tables.{AreTablesOf}
use Rattle.desk.proofs.TableLemmas.{are-told, chosen-backed, chosen-intact, chosen-kept}
use Rattle.desk.proofs.search.new_search.Goals as goal

pub returns-clause-taken : goal.returns-clause-taken
returns-clause-taken g c = λ backed cached.
    let told = g.T.Store.files c.args.store.now in
    let parts = c.args.snapshot in
    let chosen = c.passable-parts.result.now in
    let leaves = map leaf_tree c.args.checked.leaves.items in
    let tables = c.in_ok-tables.tables.items in
    let made = c.in_ok-search.ensures in
    let found = c.in_ok-tables.ensures.exact (chosen-backed told parts chosen c.passable-parts.ensures backed) cached in
    let all : AreTablesOf leaves (map (λ (m : Marked). reads told m.source) chosen) tables =
    subst (λ (ls : List LeafKind). AreTablesOf (map leaf_tree ls) (map (λ (m : Marked). reads told m.source) chosen) tables) c.deref.ensures.value found in
    λ kind priors. made.taken kind priors told (are-told told leaves c.in_ok-search.search parts chosen tables c.passable-parts.ensures made.snapshot (ap (λ (n : NetworkTree). n.leaves) made.network) made.tables all)

pub returns-clause-reads : goal.returns-clause-reads
returns-clause-reads g c = record { quiet = c.tables.ensures.quiet; later = c.tables.ensures.later; cache = chosen-kept (g.T.Store.files c.args.store.now) c.args.snapshot c.passable-parts.result.now c.args.cache.now c.tables.new.cache c.passable-parts.ensures c.tables.ensures.cache }

pub returns-in_err-tables-clause-reads : goal.returns-in_err-tables-clause-reads
returns-in_err-tables-clause-reads g c = record { quiet = c.tables.ensures.quiet; later = c.tables.ensures.later; cache = chosen-kept (g.T.Store.files c.args.store.now) c.args.snapshot c.passable-parts.result.now c.args.cache.now c.tables.new.cache c.passable-parts.ensures c.tables.ensures.cache }

pub returns-in_err-search-clause-reads : goal.returns-in_err-search-clause-reads
returns-in_err-search-clause-reads g c = record { quiet = c.tables.ensures.quiet; later = c.tables.ensures.later; cache = chosen-kept (g.T.Store.files c.args.store.now) c.args.snapshot c.passable-parts.result.now c.args.cache.now c.tables.new.cache c.passable-parts.ensures c.tables.ensures.cache }

pub returns-in_err-tables-clause-honest : goal.returns-in_err-tables-clause-honest
returns-in_err-tables-clause-honest g c = λ intact cached.
    let told = g.T.Store.files c.args.store.now in
    let p = err_from_is_err_and c.from_residual.result c.from_residual.ensures.1 in
    rw (p.1, p.2) (c.in_err-tables.ensures.honest (chosen-intact told c.args.snapshot c.passable-parts.result.now c.passable-parts.ensures intact) cached)
