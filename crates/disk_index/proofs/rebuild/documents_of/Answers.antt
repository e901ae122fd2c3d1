use Rattle.std.proofs.Common.{sym, ◌∙◌, arith}
use Rattle.disk_index.proofs.RebuildLemmas.{docs-end, docs-step, docs-stop, rows-many, rows-size}
use Rattle.disk_index.proofs.rebuild.documents_of.Goals as goal

pub document_of-requires-clause-size : goal.document_of-requires-clause-size
document_of-requires-clause-size c =
    rows-size c.args.outlines.now c.args.rows.now c.loop-i.i c.index-outlines-i.result c.index-rows-i.result c.requires.shape (omega arith) c.index-outlines-i.is c.index-rows-i.is

pub returns-in-None : goal.returns-in-None
returns-in-None c =
    sym (docs-stop c.args.dictionary.now c.args.outlines.now c.args.rows.now c.loop-i.i c.loop-i.docs _ c.index-outlines-i.result c.index-rows-i.result (omega arith)
    (omega (arith, rows-many c.args.outlines.now c.args.rows.now c.requires.shape)) c.index-outlines-i.is c.index-rows-i.is c.loop-i.invariant (sym c.in_ok-doc.ensures ∙ c.in-None.is))

pub loop-i-preserved : goal.loop-i-preserved
loop-i-preserved c =
    let more = docs-step c.args.dictionary.now c.args.outlines.now c.args.rows.now c.loop-i.i c.loop-i.docs _ c.index-outlines-i.result c.index-rows-i.result (omega arith)
    (omega (arith, rows-many c.args.outlines.now c.args.rows.now c.requires.shape)) c.index-outlines-i.is c.index-rows-i.is c.loop-i.invariant c.in-Some.doc (sym c.in_ok-doc.ensures ∙ c.in-Some.is) in
    rw c.in_ok-push-in-Some.ensures.ok more

pub returns : goal.returns
returns c = sym (docs-end c.args.dictionary.now c.args.outlines.now c.args.rows.now c.loop-i.i c.loop-i.docs _ (omega arith) c.loop-i.invariant)
