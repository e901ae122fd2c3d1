use Rattle.std.proofs.Common.{◌∙◌, ap, arith}
use Rattle.std.specs.Str.{is_utf8}
use Rattle.generated_events.proofs.DocnoLemmas.{question_is}
use Rattle.generated_events.proofs.generator.question.Goals as goal

pub returns-clause-form : goal.returns-clause-form
returns-clause-form c = ((omega arith, omega arith), ap is_utf8 (c.of.ensures ∙ c.in_ok-to_vec.ensures.items_if_clones_equal (λ x y e. e)) ∙ question_is)
