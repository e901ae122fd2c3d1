use Rattle.std.proofs.Common.{subst}
use Rattle.ri_base.specs.Collection.{document_at}
use Rattle.ri_base.specs.Documents.{IsDocument}
use Rattle.range_tables.proofs.sections.token_count.Goals as goal

pub returns-clause-formed : goal.returns-clause-formed
returns-clause-formed g c = subst (IsDocument (document_at (g.P.Postings.documents c.args.part.now) c.args.id).tokens) c.spans.ensures.exact c.spans.ensures.form
