use Rattle.std.proofs.Common.{rules, not}
use Rattle.std.proofs.lemmas.Fn.{filter_same}
use Rattle.bounded_keys.specs.Kept.{beats}
use Rattle.bounded_keys.proofs.near.drop_above.Goals as goal

pub returns : goal.returns
returns g c = filter_same _ (λ x. not (beats c.args.threshold (g.T.Leading.number x))) _ (λ x b f' k. search rules) _ _ c.retain.ensures.filtered
