use Rattle.std.proofs.Common.{◌≡◌, IfOk, List, ap, subst, ◌∙◌}
use Rattle.ri_base.specs.Collection.{document_at}
use Rattle.ri_base.specs.Documents.{Document}
use Rattle.query_check.specs.Answers.{whole_checked}
use Rattle.disk_index.specs.Parts.{source_of}
use Rattle.disk_index.proofs.AmongLemmas.{docs-of, intact-of, sound-of, within-of}
use Rattle.result_explanation.specs.Explanation.{IsExplanation}
use Rattle.desk.proofs.explained.explain_in.Goals as goal

pub explain-requires-clause-id : goal.explain-requires-clause-id
explain-requires-clause-id g c =
    within-of (g.T.Store.files c.args.store.now) (g.T.Store.files c.new-reader.result.store.now) c.args.marked.now.source (source_of c.new-reader.result.part.now)
    (ap g.T.Store.files c.new-reader.ensures.store) (ap source_of c.new-reader.ensures.part ∙ c.part.ensures.part) c.args.id c.requires.id

pub returns-clause-honest : goal.returns-clause-honest
returns-clause-honest g c = λ part cached.
    c.explain.ensures.honest (intact-of (g.T.Store.files c.args.store.now) (g.T.Store.files c.new-reader.result.store.now) c.args.marked.now.source (source_of c.new-reader.result.part.now) c.args.cache.now c.new-reader.result.cache.now
    (ap g.T.Store.files c.new-reader.ensures.store) (ap source_of c.new-reader.ensures.part ∙ c.part.ensures.part) c.new-reader.ensures.cache part cached)

pub returns-clause-exact : goal.returns-clause-exact
returns-clause-exact g c = λ part cached.
    let told = g.T.Store.files c.args.store.now in
    let here = g.T.Store.files c.new-reader.result.store.now in
    let m = c.args.marked.now in
    let own = source_of c.new-reader.result.part.now in
    let same_told : here ≡ told = ap g.T.Store.files c.new-reader.ensures.store in
    let same_part : own ≡ m.source = ap source_of c.new-reader.ensures.part ∙ c.part.ensures.part in
    subst (λ (ds : List Document). IfOk c.explain.result (IsExplanation c.args.names.now (whole_checked c.args.checked.now) c.args.stats.now (document_at ds c.args.id) c.args.rank c.args.hit)) (docs-of told here m.source own same_told same_part)
    (c.explain.ensures.exact (sound-of told here m.source own c.args.cache.now c.new-reader.result.cache.now same_told same_part c.new-reader.ensures.cache part cached))
