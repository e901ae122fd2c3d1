use Rattle.disk_index.proofs.KeptLemmas.{read-outlines}
use Rattle.disk_index.proofs.opening.documents_within.Goals as goal

pub returns-clause-kept : goal.returns-clause-kept
returns-clause-kept c = read-outlines c.args.header.now _ c.read_documents.result c.read_documents.ensures.found
