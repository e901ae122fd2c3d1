use Rattle.std.proofs.Common.{◌∙◌}
use Rattle.std.proofs.lemmas.Result.{err_from_is_err_and}
use Rattle.disk_index.proofs.opening.read_kept.Goals as goal

pub returns-in_err-documents-clause-fault : goal.returns-in_err-documents-clause-fault
returns-in_err-documents-clause-fault g c = λ f told is.
    let p = err_from_is_err_and c.from_residual-in_err-documents.result c.from_residual-in_err-documents.ensures.1 in
    rw (p.1, p.2) (c.in_err-documents.ensures.fault f c.args.docs (c.in_ok-header.ensures.quiet.same_files ∙ told) (c.in_ok-header.ensures.found f told is))

pub returns-in_err-dictionary-clause-fault : goal.returns-in_err-dictionary-clause-fault
returns-in_err-dictionary-clause-fault g c = λ f told is.
    let first = c.in_ok-header.ensures.quiet.same_files ∙ told in
    let second = c.in_ok-documents.ensures.quiet.same_files ∙ first in
    let p = err_from_is_err_and c.from_residual-in_err-dictionary.result c.from_residual-in_err-dictionary.ensures.1 in
    rw (p.1, p.2) (c.in_err-dictionary.ensures.fault f c.args.docs c.in_ok-documents.documents second (c.in_ok-header.ensures.found f told is) (c.in_ok-documents.ensures.found f first))
