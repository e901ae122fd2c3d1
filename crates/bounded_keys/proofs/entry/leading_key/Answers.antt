use Rattle.std.proofs.Common.{◌≡◌, IfOk, map, ap, subst, ◌∙◌}
use Rattle.log_chain.specs.Progress.{digits_of}
use Rattle.bounded_keys.proofs.Levels.{early_digits}
use Rattle.bounded_keys.proofs.entry.leading_key.Goals as goal

pub returns-clause-key : goal.returns-clause-key
returns-clause-key g c =
    subst (λ ds. IfOk c.key_of.result (λ key. key ≡ g.C.Combination.key_of c.args.combination.now ds))
    (ap (map digits_of) (c.as_slice.ensures ∙ c.in_ok-leaves.ensures.leaves) ∙ early_digits c.args.fractions.now) c.key_of.ensures
