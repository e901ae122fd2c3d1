use Rattle.std.proofs.Common.{List, sym, ap, ◌∙◌}
use Rattle.std.proofs.lemmas.Result.{err_from_is_err_and}
use Rattle.ri_base.specs.declared.places.Place.{Place}
use Rattle.seg_codec.specs.Whole.{all_postings, dictionary_in, documents_in, grammar, header_in}
use Rattle.seg_codec.specs.declared.dictionary.TermBlocks.{TermBlocks}
use Rattle.seg_codec.specs.declared.documents.Entry.{Entry}
use Rattle.seg_codec.specs.declared.header.Header.{Header}
use Rattle.seg_codec.specs.declared.whole.Whole.{Whole}
use Rattle.seg_codec.proofs.GrammarLemmas.{broken_blocks, broken_dictionary, broken_documents, broken_header, parts_read}
use Rattle.seg_codec.proofs.WholeLemmas.{fault_passes}
use Rattle.seg_codec.proofs.whole.whole_of.Goals as goal

pub returns-in_err-header : goal.returns-in_err-header
returns-in_err-header c =
    let bytes = c.args.bytes.now in
    let p = err_from_is_err_and c.from_residual.result c.from_residual.ensures.1 in
    rw (p.1, p.2) (fault_passes (λ (v : Header). v) (λ (v : Whole). v) c.in_err-header.field-0.0 c.args.file (header_in bytes) (grammar bytes) (λ f e. broken_header bytes f e) c.in_err-header.ensures.exact)

pub returns-in_err-documents : goal.returns-in_err-documents
returns-in_err-documents c =
    let bytes = c.args.bytes.now in
    let h = c.in_ok-header.header in
    let p = err_from_is_err_and c.from_residual-in_err-documents.result c.from_residual-in_err-documents.ensures.1 in
    rw (p.1, p.2) (fault_passes (λ (v : List Entry). v) (λ (v : Whole). v) c.in_err-documents.field-0.0 c.args.file (documents_in bytes h) (grammar bytes) (λ f e. broken_documents bytes h f c.in_ok-header.ensures.exact e) c.in_err-documents.ensures)

pub returns-in_err-terms : goal.returns-in_err-terms
returns-in_err-terms c =
    let bytes = c.args.bytes.now in
    let h = c.in_ok-header.header in
    let p = err_from_is_err_and c.from_residual-in_err-terms.result c.from_residual-in_err-terms.ensures.1 in
    rw (p.1, p.2) (fault_passes (λ (v : List TermBlocks). v) (λ (v : Whole). v) c.in_err-terms.field-0.0 c.args.file (dictionary_in bytes h) (grammar bytes)
    (λ f e. broken_dictionary bytes h c.in_ok-documents.documents f c.in_ok-header.ensures.exact c.in_ok-documents.ensures e) c.in_err-terms.ensures.exact)

pub returns-in_err-postings : goal.returns-in_err-postings
returns-in_err-postings c =
    let bytes = c.args.bytes.now in
    let h = c.in_ok-header.header in
    let es = c.in_ok-documents.documents in
    let ts = c.in_ok-terms.terms in
    let p = err_from_is_err_and c.from_residual-in_err-postings.result c.from_residual-in_err-postings.ensures.1 in
    rw (p.1, p.2) (fault_passes (λ (v : List (List Place)). v) (λ (v : Whole). v) c.in_err-postings.field-0.0 c.args.file (all_postings bytes es c.as_slice.result.now) (grammar bytes)
    (λ f e. broken_blocks bytes h es ts f c.in_ok-header.ensures.exact c.in_ok-documents.ensures c.in_ok-terms.ensures.exact (ap (all_postings bytes es) (sym c.as_slice.ensures) ∙ e)) c.in_err-postings.ensures)

pub returns : goal.returns
returns c =
    parts_read c.args.bytes.now c.in_ok-header.header c.in_ok-documents.documents c.in_ok-terms.terms c.in_ok-postings.postings c.in_ok-header.ensures.exact c.in_ok-documents.ensures c.in_ok-terms.ensures.exact (ap (all_postings c.args.bytes.now c.in_ok-documents.documents) (sym c.as_slice.ensures) ∙ c.in_ok-postings.ensures)
