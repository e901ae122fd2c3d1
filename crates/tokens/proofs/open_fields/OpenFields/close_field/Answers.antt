use Rattle.std.proofs.Common.{rules}
use Rattle.std.specs.Prelude.{reverse}
use Rattle.tokens.proofs.OpenLemmas.{apart, items_stay}
use Rattle.tokens.proofs.open_fields.OpenFields.close_field.Goals as goal

pub returns-in-Some-clause-others : goal.returns-in-Some-clause-others
returns-in-Some-clause-others c = λ other h. items_stay (λ begins. reverse begins.items) _ _ ((((c.get_mut.follows.holds c.pop.new.self).3) (search rules)).2 other (apart _ other h))
