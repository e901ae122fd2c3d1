use Rattle.std.proofs.Common.{◌≡◌, ℕ, List, Ok, length, ap, ◌∙◌}
use Rattle.std.proofs.lemmas.Result.{err_from_is_err_and}
use Rattle.seg_codec.specs.Headers.{header}
use Rattle.seg_codec.proofs.WholeLemmas.{placed_if_read}
use Rattle.disk_index.specs.Blocks.{file_of}
use Rattle.repository.proofs.PartLemmas.{answered, answered-outside}
use Rattle.repository.proofs.PlaceLemmas.{dictionary-behind, documents-first, headed-outside}
use Rattle.repository.proofs.docno_place.header_of.Goals as goal

pub returns-clause-first : goal.returns-clause-first
returns-clause-first g c = documents-first _ c.read_header.result (placed_if_read c.read_header.result _ _ _ c.read_header.ensures.found)

pub returns-clause-order : goal.returns-clause-order
returns-clause-order g c = dictionary-behind _ c.read_header.result (placed_if_read c.read_header.result _ _ _ c.read_header.ensures.found)

pub returns-in_err-size-clause-outside : goal.returns-in_err-size-clause-outside
returns-in_err-size-clause-outside g c = λ f h told is.
    let p = err_from_is_err_and c.from_residual.result c.from_residual.ensures.1 in
    rw (p.1, p.2) (headed-outside f _ c.args.entry.now.docs h _ is (c.in_err-size.ensures.fault f told))

pub returns-in_err-bytes-clause-outside : goal.returns-in_err-bytes-clause-outside
returns-in_err-bytes-clause-outside g c = λ f h told is.
    let p = err_from_is_err_and c.from_residual-in_err-bytes.result c.from_residual-in_err-bytes.ensures.1 in
    rw (p.1, p.2) (headed-outside f _ c.args.entry.now.docs h _ is (c.in_err-bytes.ensures.fault f (c.in_ok-size.ensures.quiet.same_files ∙ told)))

pub returns-clause-found : goal.returns-clause-found
returns-clause-found g c = λ f h told is.
    let file : List ℕ = file_of f c.args.entry.now.number in
    let size = c.in_ok-size.ensures.length f told in
    let bytes = c.deref.ensures.value ∙ c.in_ok-bytes.ensures.bytes f (c.in_ok-size.ensures.quiet.same_files ∙ told) in
    let here : header c.args.entry.now.docs c.in_ok-size.size c.deref.result.now ≡ Ok h =
    ap (λ (n : ℕ). header c.args.entry.now.docs n c.deref.result.now) size ∙ ap (λ (b : List ℕ). header c.args.entry.now.docs (length file) b) bytes ∙ is in
    answered c.read_header.result _ _ _ _ h c.read_header.ensures.exact here

pub returns-clause-outside : goal.returns-clause-outside
returns-clause-outside g c = λ f h told is.
    let file : List ℕ = file_of f c.args.entry.now.number in
    let size = c.in_ok-size.ensures.length f told in
    let bytes = c.deref.ensures.value ∙ c.in_ok-bytes.ensures.bytes f (c.in_ok-size.ensures.quiet.same_files ∙ told) in
    let here : header c.args.entry.now.docs c.in_ok-size.size c.deref.result.now ≡ Ok h =
    ap (λ (n : ℕ). header c.args.entry.now.docs n c.deref.result.now) size ∙ ap (λ (b : List ℕ). header c.args.entry.now.docs (length file) b) bytes ∙ is in
    answered-outside c.read_header.result _ _ _ _ h c.read_header.ensures.exact here
