use Rattle.std.proofs.Common.{◌≡◌, IfOk, List, ap, subst}
use Rattle.std.proofs.lemmas.Result.{IfOk-weaker}
use Rattle.ri_base.specs.Collection.{document_at}
use Rattle.ri_base.specs.Documents.{Document}
use Rattle.ri_base.specs.Expression.{expr_tree}
use Rattle.extent_lists.specs.Extents.{Ext}
use Rattle.extent_lists.specs.Listing.{IsListing}
use Rattle.extent_evaluation.specs.Listed.{extent_list}
use Rattle.disk_index.specs.Parts.{reads, source_of}
use Rattle.disk_index.proofs.AmongLemmas.{docs-of, intact-of, sound-of, within-of}
use Rattle.desk.proofs.scanning.extents_of.Goals as goal

pub extents-requires : goal.extents-requires
extents-requires g c =
    within-of (g.T.Store.files c.args.store.now) (g.T.Store.files c.new-reader.result.store.now) (source_of c.args.part.now) (source_of c.new-reader.result.part.now)
    (ap g.T.Store.files c.new-reader.ensures.store) (ap source_of c.new-reader.ensures.part) c.args.id c.requires

pub returns-clause-honest : goal.returns-clause-honest
returns-clause-honest g c = λ part cached.
    c.extents.ensures.honest (intact-of (g.T.Store.files c.args.store.now) (g.T.Store.files c.new-reader.result.store.now) (source_of c.args.part.now) (source_of c.new-reader.result.part.now) c.args.cache.now c.new-reader.result.cache.now
    (ap g.T.Store.files c.new-reader.ensures.store) (ap source_of c.new-reader.ensures.part) c.new-reader.ensures.cache part cached)

pub returns-clause-exact : goal.returns-clause-exact
returns-clause-exact g c = λ part cached.
    let told = g.T.Store.files c.args.store.now in
    let here = g.T.Store.files c.new-reader.result.store.now in
    let source = source_of c.args.part.now in
    let own = source_of c.new-reader.result.part.now in
    let same_told : here ≡ told = ap g.T.Store.files c.new-reader.ensures.store in
    let same_part : own ≡ source = ap source_of c.new-reader.ensures.part in
    let x = expr_tree c.args.expr.now in
    let d = document_at (reads here own) c.args.id in
    subst (λ (ds : List Document). IfOk c.extents.result (λ found. found ≡ extent_list x (document_at ds c.args.id))) (docs-of told here source own same_told same_part)
    (IfOk-weaker c.extents.result (IsListing (Ext x d)) (λ found. found ≡ extent_list x d) (c.extents_have_one_list.ensures.only_one x d)
    (c.extents.ensures.exact (sound-of told here source own c.args.cache.now c.new-reader.result.cache.now same_told same_part c.new-reader.ensures.cache part cached)))
