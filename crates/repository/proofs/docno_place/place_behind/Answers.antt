use Rattle.std.proofs.Common.{◌≡◌, List, Ok, ap, ◌∙◌}
use Rattle.std.proofs.lemmas.Result.{err_from_is_err_and}
use Rattle.seg_codec.specs.Documents.{documents}
use Rattle.seg_codec.specs.declared.documents.Entry.{Entry}
use Rattle.repository.specs.Places.{document_place}
use Rattle.repository.proofs.PartLemmas.{one-read, unbroken}
use Rattle.repository.proofs.PlaceLemmas.{headed-outside}
use Rattle.repository.proofs.docno_place.place_behind.Goals as goal

pub returns-in_err-bytes-clause-outside : goal.returns-in_err-bytes-clause-outside
returns-in_err-bytes-clause-outside g c = λ f docs es told head is.
    let p = err_from_is_err_and c.from_residual.result c.from_residual.ensures.1 in
    rw (p.1, p.2) (headed-outside f _ docs c.args.header.now _ head (c.in_err-bytes.ensures.fault f told))

pub returns-in_err-documents-clause-outside : goal.returns-in_err-documents-clause-outside
returns-in_err-documents-clause-outside g c = λ f docs es told head is.
    let p = err_from_is_err_and c.from_residual-in_err-documents.result c.from_residual-in_err-documents.ensures.1 in
    let here : documents c.args.header.now c.deref.result.now ≡ Ok es = ap (documents c.args.header.now) (c.deref.ensures.value ∙ c.in_ok-bytes.ensures.bytes f told) ∙ is in
    rw (p.1, p.2) (unbroken _ _ _ _ _ es c.in_err-documents.ensures.exact here)

pub returns-clause-place : goal.returns-clause-place
returns-clause-place g c = λ f es told is.
    let here : documents c.args.header.now c.deref.result.now ≡ Ok es = ap (documents c.args.header.now) (c.deref.ensures.value ∙ c.in_ok-bytes.ensures.bytes f told) ∙ is in
    let same : c.in_ok-documents.documents ≡ es = one-read _ _ es c.in_ok-documents.ensures.exact here in
    c.place_within.ensures ∙ ap (λ (es : List Entry). document_place es c.args.id) same
