use Rattle.std.proofs.Common.{ap}
use Rattle.indri_app.proofs.changing.merge_documents.Goals as goal

pub returns-clause-damage : goal.returns-clause-damage
returns-clause-damage g c = λ damage. let same = c.in-Err.ensures.damage damage in (same.0, ap (λ k. g.K.Sink.taken k) same.1)
