use Rattle.std.proofs.Common.{◌≡◌, ◌<◌, IfOk, subst, sym}
use Rattle.ri_base.specs.Collection.{document_at}
use Rattle.query_check.specs.Answers.{whole_checked}
use Rattle.disk_index.specs.Parts.{reads, size}
use Rattle.disk_index.specs.Snapshots.{Marked}
use Rattle.disk_index.proofs.AmongLemmas.{backed-at, intact-at}
use Rattle.counts.proofs.ReadingLemmas.{reads-among}
use Rattle.result_explanation.specs.Explanation.{IsExplanation}
use Rattle.desk.specs.Places.{part_at}
use Rattle.desk.proofs.ExplainedLemmas.{part-is}
use Rattle.desk.proofs.explained.explain_at.Goals as goal

pub explain_in-requires-clause-id : goal.explain_in-requires-clause-id
explain_in-requires-clause-id g c =
    let m = c.index-parts-number.result in
    let at : part_at c.args.parts.now c.args.place.0 ≡ m = part-is c.args.parts.now c.args.place.0 m c.requires.place.part c.index-parts-number.is in
    subst (λ (p : Marked). c.args.place.1 < size p.source) at c.requires.place.id

pub returns-clause-honest : goal.returns-clause-honest
returns-clause-honest g c = λ intact cached.
    let parts = c.args.parts.now in
    let m = c.index-parts-number.result in
    c.explain_in.ensures.honest (intact-at parts c.args.place.0 m c.requires.place.part c.index-parts-number.is (g.T.Store.files c.args.store.now) intact) cached

pub returns-clause-reads : goal.returns-clause-reads
returns-clause-reads g c = reads-among _ _ _ _ _ _ _ c.args.parts.now c.args.place.0 c.index-parts-number.result _ _ _ _ c.requires.place.part c.index-parts-number.is c.explain_in.ensures.reads

pub returns-clause-exact : goal.returns-clause-exact
returns-clause-exact g c = λ backed cached.
    let told = g.T.Store.files c.args.store.now in
    let parts = c.args.parts.now in
    let m = c.index-parts-number.result in
    let at : part_at parts c.args.place.0 ≡ m = part-is parts c.args.place.0 m c.requires.place.part c.index-parts-number.is in
    subst (λ (p : Marked). IfOk c.explain_in.result (IsExplanation c.args.names.now (whole_checked c.args.checked.now) c.args.stats.now (document_at (reads told p.source) c.args.place.1) c.args.rank c.args.hit)) (sym at)
    (c.explain_in.ensures.exact (backed-at parts c.args.place.0 m c.requires.place.part c.index-parts-number.is told backed) cached)
