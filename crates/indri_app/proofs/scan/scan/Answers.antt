use Rattle.indri_app.proofs.scan.scan.Goals as goal

pub returns-clause-refused : goal.returns-clause-refused
returns-clause-refused g c = c.take_documents.ensures.refused _ c.new-scanner.ensures.does

pub returns-clause-finished : goal.returns-clause-finished
returns-clause-finished g c = c.take_documents.ensures.finished _ c.new-scanner.ensures.does

pub returns-clause-broken : goal.returns-clause-broken
returns-clause-broken g c = c.take_documents.ensures.broken _ c.new-scanner.ensures.does
