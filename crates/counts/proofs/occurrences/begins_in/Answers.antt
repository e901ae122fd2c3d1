use Rattle.std.proofs.Common.{sym, ap, ◌∙◌}
use Rattle.field_extents.specs.Extents.{begin_count}
use Rattle.extent_lists.specs.Pairs.{pair}
use Rattle.extent_evaluation.proofs.CountLaws.{begin_count_none}
use Rattle.counts.proofs.occurrences.begins_in.Goals as goal

pub returns-then-tokens-eq0-clause-exact : goal.returns-then-tokens-eq0-clause-exact
returns-then-tokens-eq0-clause-exact c =
    sym (ap (λ n. begin_count c.args.xs.now (pair 0 n)) c.if-tokens-eq0.true ∙ begin_count_none c.args.xs.now c.new-begins.ensures.some)
