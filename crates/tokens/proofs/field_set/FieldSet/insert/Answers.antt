use Rattle.std.proofs.Common.{ap, ◌∙◌}
use Rattle.tokens.specs.Fields.{with_field}
use Rattle.tokens.proofs.KeyLemmas.{all_have, with_token}
use Rattle.tokens.proofs.field_set.FieldSet.insert.Goals as goal

pub invariant_of-self : goal.invariant_of-self
invariant_of-self c = (all_have c.insert.result _ _ _ c.insert.ensures.keys c.insert.ensures.err c.self.invariant.0 c.if-begin-end.true, c.insert.ensures.ordered)

pub returns-in_ok-insert : goal.returns-in_ok-insert
returns-in_ok-insert c = with_token _ _ _ c.if-begin-end.true c.in_ok-insert.ensures.keys ∙ ap (λ fields. with_field fields (record { name = c.args.name; begin = c.args.begin; end = c.args.end })) c.self.view_is
