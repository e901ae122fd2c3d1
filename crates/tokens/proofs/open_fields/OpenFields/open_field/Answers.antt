use Rattle.std.proofs.Common.{◌∙◌, ap, rules}
use Rattle.std.specs.BTreeMap.{get}
use Rattle.std.specs.Cmp.Lexicographic.{slice_cmp}
use Rattle.std.specs.Ordering.{nat_cmp}
use Rattle.std.specs.Prelude.{reverse}
use Rattle.tokens.proofs.OpenLemmas.{apart, items_stay}
use Rattle.tokens.proofs.open_fields.OpenFields.open_field.Goals as goal

pub returns-in-Some-clause-others : goal.returns-in-Some-clause-others
returns-in-Some-clause-others c = λ other h. items_stay (λ begins. reverse begins.items) _ _ ((((c.get_mut.follows.holds c.push.new.self).3) (search rules)).2 other (apart _ other h))

pub returns-clause-others : goal.returns-clause-others
returns-clause-others c = λ other h. items_stay (λ begins. reverse begins.items) _ _
    (c.in_ok-insert.ensures.updates.2 other (apart _ other h) ∙ ap (λ begins. get (slice_cmp nat_cmp) begins other) c.get_mut.follows.holds-at-none)
