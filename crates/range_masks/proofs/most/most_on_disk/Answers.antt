use Rattle.std.proofs.Common.{◌∙◌}
use Rattle.range_masks.proofs.MostLemmas.{most_by_entries}
use Rattle.range_masks.proofs.most.most_on_disk.Goals as goal

pub returns-clause-exact : goal.returns-clause-exact
returns-clause-exact g c = λ docs b backed.
    most_by_entries c.args.term.now c.args.range docs c.entries.result.now c.most_of_entries.result (c.entries.ensures ∙ c.in_ok-block.ensures.exact docs b backed) c.most_of_entries.ensures
