use Rattle.std.proofs.lemmas.Map.Views.{All-turn}
use Rattle.tokens.specs.Keys.{HasToken}
use Rattle.tokens.proofs.field_set.FieldSet.into_spans.Goals as goal

pub new-requires : goal.new-requires
new-requires c = All-turn (λ key. key) HasToken _ _ _ _ _ _ _ c.self.invariant.0 c.into_iter-begin-iterator.ensures.into_iter_gives.0 c.loop-begin.yielded_by c.in-Some.is c.next.ensures.steps
