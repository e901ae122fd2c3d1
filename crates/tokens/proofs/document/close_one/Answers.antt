use Rattle.std.proofs.Common.{ap, sym, ◌∙◌}
use Rattle.tokens.specs.Fields.{field_from, with_fields}
use Rattle.tokens.proofs.ClosingLemmas.{closed_is, keeps_without}
use Rattle.tokens.proofs.document.close_one.Goals as goal

pub returns-in_ok-insert-clause-fields : goal.returns-in_ok-insert-clause-fields
returns-in_ok-insert-clause-fields c = λ list keeps. c.in_ok-insert.ensures ∙ ap (with_fields c.args.fields.now) (sym (closed_is c.args.opened.now c.close_field.new.self c.args.name c.args.end c.close_field.result list c.close_field.ensures.here keeps ∙ ap (field_from c.args.name c.args.end) c.in-Some.is))

pub returns-in_ok-insert-clause-rest : goal.returns-in_ok-insert-clause-rest
returns-in_ok-insert-clause-rest c = λ list keeps. keeps_without c.args.opened.now c.close_field.new.self c.args.name c.close_field.result list c.close_field.ensures.here c.close_field.ensures.others keeps

pub returns-in_default-clause-fields : goal.returns-in_default-clause-fields
returns-in_default-clause-fields c = λ list keeps. ap (with_fields c.args.fields.now) (sym (closed_is c.args.opened.now c.close_field.new.self c.args.name c.args.end c.close_field.result list c.close_field.ensures.here keeps ∙ ap (field_from c.args.name c.args.end) c.in_default.is))

pub returns-in_default-clause-rest : goal.returns-in_default-clause-rest
returns-in_default-clause-rest c = λ list keeps. keeps_without c.args.opened.now c.close_field.new.self c.args.name c.close_field.result list c.close_field.ensures.here c.close_field.ensures.others keeps
