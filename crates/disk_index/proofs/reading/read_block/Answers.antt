use Rattle.std.proofs.lemmas.Result.{err_from_is_err_and}
use Rattle.disk_index.proofs.ReadingLemmas.{block-read_fault}
use Rattle.disk_index.proofs.reading.read_block.Goals as goal

pub returns-in_err-bytes-clause-fault : goal.returns-in_err-bytes-clause-fault
returns-in_err-bytes-clause-fault g c = λ f told.
    let p = err_from_is_err_and c.from_residual.result c.from_residual.ensures.1 in
    rw (p.1, p.2) (block-read_fault f c.args.key c.args.documents.now c.in_err-bytes.field-0.0 (c.in_err-bytes.ensures.fault f told))
