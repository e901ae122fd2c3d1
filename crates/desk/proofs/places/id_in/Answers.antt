use Rattle.std.proofs.Common.{◌≡◌, ◌<◌, false, true, get_or, length, ap, refl, sym, ◌∙◌, arith}
use Rattle.std.specs.Str.{bytes_eq}
use Rattle.ri_base.specs.Collection.{document_at}
use Rattle.disk_index.specs.Parts.{Source, reads, size, source_of}
use Rattle.disk_index.proofs.RebuiltLemmas.{reads-length}
use Rattle.desk.proofs.PlaceLemmas.{found-at, passed-at, told-equal}
use Rattle.desk.proofs.places.id_in.Goals.{else-not-is_marked-via-then-not-is_marked+else-eq, else-not-is_marked-via-else-not-is_marked}
use Rattle.desk.proofs.places.id_in.Goals as goal

pub loop-id-init : goal.loop-id-init
loop-id-init c = λ told. refl

pub returns-then-eq-clause-document : goal.returns-then-eq-clause-document
returns-then-eq-clause-document c = λ told.
    let m = c.args.marked.now in
    let docs = reads told m.source in
    let id = c.loop-id.id in
    let part : source_of c.part-part.result.now ≡ m.source = c.part-part.ensures.part in
    let inside : id < length docs = omega (arith, c.loop-id-test.true, c.docs-id-end.ensures.size, ap size part, reads-length told m.source) in
    let long : length m.marks ≡ length docs = c.part-part.ensures.whole ∙ sym (reads-length told m.source) in
    let named : c.docno.result.now ≡ (document_at docs id).docno = c.docno.ensures told ∙ ap (λ (p : Source). (document_at (reads told p) id).docno) part in
    let alive : get_or m.marks id false ≡ false = sym c.is_marked.ensures ∙ c.if-not-is_marked.true in
    let same : bytes_eq c.args.docno.now (document_at docs id).docno ≡ true = told-equal c.as_bytes.result.now c.as_bytes-then-not-is_marked.result.now c.args.docno.now (document_at docs id).docno c.eq.result true c.eq.ensures c.as_bytes.ensures.bytes (c.as_bytes-then-not-is_marked.ensures.bytes ∙ named) c.if-eq.true in
    c.loop-id.invariant told ∙ found-at c.args.docno.now docs m.marks id inside long alive same

pub loop-id-preserved : goal.loop-id-preserved
loop-id-preserved c = λ told.
    let m = c.args.marked.now in
    let docs = reads told m.source in
    let id = c.loop-id.id in
    let part : source_of c.part-part.result.now ≡ m.source = c.part-part.ensures.part in
    let inside : id < length docs = omega (arith, c.loop-id-test.true, c.docs-id-end.ensures.size, ap size part, reads-length told m.source) in
    let long : length m.marks ≡ length docs = c.part-part.ensures.whole ∙ sym (reads-length told m.source) in
    let other : get_or m.marks id false ≡ false → bytes_eq c.args.docno.now (document_at docs id).docno ≡ false = elim c.else-not-is_marked.branch [
      | else-not-is_marked-via-then-not-is_marked+else-eq w ↦ λ alive.
          told-equal w.as_bytes.result.now w.as_bytes-then-not-is_marked.result.now c.args.docno.now (document_at docs id).docno w.eq.result false w.eq.ensures w.as_bytes.ensures.bytes (w.as_bytes-then-not-is_marked.ensures.bytes ∙ (w.docno.ensures told ∙ ap (λ (p : Source). (document_at (reads told p) id).docno) part)) w.if-eq.false
      | else-not-is_marked-via-else-not-is_marked w ↦ λ alive. absurd (let both : true ≡ false = sym w.if-not-is_marked.false ∙ c.is_marked.ensures ∙ alive in cc)
    ] in
    c.loop-id.invariant told ∙ passed-at c.args.docno.now docs m.marks id inside long other
