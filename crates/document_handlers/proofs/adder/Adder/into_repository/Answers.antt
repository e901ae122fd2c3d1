use Rattle.document_handlers.proofs.AdditionLemmas.{given-back}
use Rattle.document_handlers.proofs.adder.Adder.into_repository.Goals as goal

pub returns-clause-reads : goal.returns-clause-reads
returns-clause-reads c told limits d does = given-back told does.0 limits c.args.self.repository d does.1 does.4 does.2 does.3
