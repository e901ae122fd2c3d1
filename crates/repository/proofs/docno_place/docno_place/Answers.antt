use Rattle.std.proofs.Common.{◌≡◌, ℕ, List, Ok, refl, ap, subst, sym, ◌∙◌}
use Rattle.std.specs.Prelude.{IfOk}
use Rattle.std.proofs.lemmas.Result.{err_from_is_err_and}
use Rattle.seg_codec.specs.Documents.{documents}
use Rattle.seg_codec.specs.declared.documents.Entry.{Entry}
use Rattle.seg_codec.specs.declared.header.Header.{Header}
use Rattle.disk_index.specs.Blocks.{file_of}
use Rattle.disk_index.specs.Opening.{documents_in, header_in}
use Rattle.disk_index.specs.Parts.{outlines_of}
use Rattle.repository.specs.Places.{document_place}
use Rattle.repository.proofs.docno_place.docno_place.Goals as goal

pub returns-in_err-header-clause-outside : goal.returns-in_err-header-clause-outside
returns-in_err-header-clause-outside g c = λ f m told opened.
    let o = opened.opened f refl in
    let p = err_from_is_err_and c.from_residual.result c.from_residual.ensures.1 in
    rw (p.1, p.2) (c.in_err-header.ensures.outside f o.head told o.header_is)

pub returns-clause-place : goal.returns-clause-place
returns-clause-place g c = λ f m told opened.
    let o = opened.opened f refl in
    let same = c.in_ok-header.ensures.found f o.head told o.header_is in
    let read = subst (λ (h : Header). documents h (documents_in (file_of f c.args.entry.now.number) h) ≡ Ok opened.kept.outlines) (sym same) o.outlines_are in
    subst (λ (es : List Entry). IfOk c.place_behind.result (λ (place : ℕ). place ≡ document_place es c.args.id)) (sym (ap outlines_of opened.source))
    (c.place_behind.ensures.place f opened.kept.outlines (c.in_ok-header.ensures.quiet.same_files ∙ told) read)

pub returns-clause-outside : goal.returns-clause-outside
returns-clause-outside g c = λ f m told opened.
    let o = opened.opened f refl in
    let same = c.in_ok-header.ensures.found f o.head told o.header_is in
    let read = subst (λ (h : Header). documents h (documents_in (file_of f c.args.entry.now.number) h) ≡ Ok opened.kept.outlines) (sym same) o.outlines_are in
    let here = subst (λ (h : Header). header_in (file_of f c.args.entry.now.number) c.args.entry.now.docs ≡ Ok h) (sym same) o.header_is in
    c.place_behind.ensures.outside f c.args.entry.now.docs opened.kept.outlines (c.in_ok-header.ensures.quiet.same_files ∙ told) here read
