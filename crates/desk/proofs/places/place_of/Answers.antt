use Rattle.std.proofs.Common.{◌≡◌, Some, ap, sym, ◌∙◌}
use Rattle.ri_base.specs.Collection.{document_at}
use Rattle.disk_index.specs.Parts.{reads}
use Rattle.disk_index.specs.Snapshots.{Marked}
use Rattle.desk.specs.Places.{part_at}
use Rattle.desk.proofs.ExplainedLemmas.{part-is}
use Rattle.desk.proofs.PlaceLemmas.{part-found, part-passed}
use Rattle.desk.proofs.places.place_of.Goals as goal

pub returns-in-Some-clause-document : goal.returns-in-Some-clause-document
returns-in-Some-clause-document c = λ told.
    let parts = c.args.parts.now in
    let number = c.loop-number.number in
    let m = c.index-parts-number.result in
    let id = c.in-Some.id in
    let at : part_at parts number ≡ m = part-is parts number m c.loop-number-test.true c.index-parts-number.is in
    c.loop-number.invariant told ∙ part-found c.args.docno.now told parts number m (document_at (reads told m.source) id) c.loop-number-test.true c.index-parts-number.is (c.in-Some.ensures.document told)
    ∙ sym (ap (λ (p : Marked). Some (document_at (reads told p.source) id)) at)

pub loop-number-preserved : goal.loop-number-preserved
loop-number-preserved c = λ told.
    c.loop-number.invariant told
    ∙ part-passed c.args.docno.now told c.args.parts.now c.loop-number.number c.index-parts-number.result c.loop-number-test.true c.index-parts-number.is (c.in_default.ensures.document told)
