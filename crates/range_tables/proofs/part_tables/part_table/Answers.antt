use Rattle.std.proofs.Common.{◌≡◌, IfOk, List, map, ap, subst}
use Rattle.ri_base.specs.Documents.{Document}
use Rattle.query_check.specs.Leaves.{leaf_tree}
use Rattle.disk_index.specs.Parts.{reads, source_of}
use Rattle.range_bounds.specs.Tables.{IsTableOf}
use Rattle.disk_index.proofs.AmongLemmas.{docs-of, intact-of, sound-of}
use Rattle.range_tables.proofs.part_tables.part_table.Goals as goal

pub returns-clause-exact : goal.returns-clause-exact
returns-clause-exact g c = λ part cached.
    let told = g.T.Store.files c.args.store.now in
    let here = g.T.Store.files c.new-reader.result.store.now in
    let source = source_of c.args.part.now in
    let own = source_of c.new-reader.result.part.now in
    let same_told : here ≡ told = ap g.T.Store.files c.new-reader.ensures.store in
    let same_part : own ≡ source = ap source_of c.new-reader.ensures.part in
    let docs : reads here own ≡ reads told source = docs-of told here source own same_told same_part in
    let there = sound-of told here source own c.args.cache.now c.new-reader.result.cache.now same_told same_part c.new-reader.ensures.cache part cached in
    subst (λ (ds : List Document). IfOk c.table_of.result (IsTableOf (map leaf_tree c.args.leaves.now) ds)) docs (c.table_of.ensures.exact there)

pub returns-clause-honest : goal.returns-clause-honest
returns-clause-honest g c = λ part cached.
    c.table_of.ensures.honest (intact-of (g.T.Store.files c.args.store.now) (g.T.Store.files c.new-reader.result.store.now) (source_of c.args.part.now) (source_of c.new-reader.result.part.now) c.args.cache.now c.new-reader.result.cache.now
    (ap g.T.Store.files c.new-reader.ensures.store) (ap source_of c.new-reader.ensures.part) c.new-reader.ensures.cache part cached)
