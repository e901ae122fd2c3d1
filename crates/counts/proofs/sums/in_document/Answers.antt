use Rattle.std.proofs.Common.{◌≡◌, IfOk, List, Option, option_copied, ap, subst}
use Rattle.std.proofs.lemmas.Result.{IfOk-weaker}
use Rattle.ri_base.specs.Collection.{document_at}
use Rattle.ri_base.specs.Documents.{Document}
use Rattle.ri_base.specs.Expression.{EachWord, expr_tree}
use Rattle.store_ends.specs.Files.{Files}
use Rattle.disk_index.specs.Cache.{Cached}
use Rattle.disk_index.specs.Parts.{IsReadableOf, Source, source_of}
use Rattle.counts.specs.Sums.{occurrences}
use Rattle.disk_index.proofs.AmongLemmas.{docs-of, intact-of, sound-of, within-of}
use Rattle.counts.proofs.sums.in_document.Goals as goal

pub occurrences-requires : goal.occurrences-requires
occurrences-requires g c =
    within-of (g.T.Store.files c.args.store.now) (g.T.Store.files c.new-reader.result.store.now) (source_of c.args.part.now) (source_of c.new-reader.result.part.now)
    (ap g.T.Store.files c.new-reader.ensures.store) (ap source_of c.new-reader.ensures.part) c.args.id c.requires

pub returns-clause-honest : goal.returns-clause-honest
returns-clause-honest g c = λ part cached.
    c.occurrences.ensures.honest (intact-of (g.T.Store.files c.args.store.now) (g.T.Store.files c.new-reader.result.store.now) (source_of c.args.part.now) (source_of c.new-reader.result.part.now) c.args.cache.now c.new-reader.result.cache.now
    (ap g.T.Store.files c.new-reader.ensures.store) (ap source_of c.new-reader.ensures.part) c.new-reader.ensures.cache part cached)

pub returns-clause-exact : goal.returns-clause-exact
returns-clause-exact g c = λ part cached.
    let told = g.T.Store.files c.args.store.now in
    let here = g.T.Store.files c.new-reader.result.store.now in
    let source = source_of c.args.part.now in
    let own = source_of c.new-reader.result.part.now in
    subst (λ (ds : List Document). IfOk c.occurrences.result (λ n. n ≡ occurrences (expr_tree c.args.expr.now) (option_copied c.args.context) (document_at ds c.args.id)))
    (docs-of told here source own (ap g.T.Store.files c.new-reader.ensures.store) (ap source_of c.new-reader.ensures.part))
    (c.occurrences.ensures.exact (sound-of told here source own c.args.cache.now c.new-reader.result.cache.now
    (ap g.T.Store.files c.new-reader.ensures.store) (ap source_of c.new-reader.ensures.part) c.new-reader.ensures.cache part cached))

pub returns-clause-told : goal.returns-clause-told
returns-clause-told g c =
    IfOk-weaker c.occurrences.result _ _ (λ n each.
    subst (λ (f : Option Files). EachWord (λ t. IsReadableOf f c.args.cache.now (source_of c.args.part.now) t c.args.id) (expr_tree c.args.expr.now)) (ap g.T.Store.files c.new-reader.ensures.store)
    (subst (λ (p : Source). EachWord (λ t. IsReadableOf (g.T.Store.files c.new-reader.result.store.now) c.args.cache.now p t c.args.id) (expr_tree c.args.expr.now)) (ap source_of c.new-reader.ensures.part)
    (subst (λ (k : Cached). EachWord (λ t. IsReadableOf (g.T.Store.files c.new-reader.result.store.now) k (source_of c.new-reader.result.part.now) t c.args.id) (expr_tree c.args.expr.now)) c.new-reader.ensures.cache each))) c.occurrences.ensures.told
