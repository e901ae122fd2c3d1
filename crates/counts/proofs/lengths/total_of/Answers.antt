use Rattle.std.proofs.Common.{List, option_copied, Some, sum_by, sym, ap, subst, ◌∙◌}
use Rattle.disk_index.specs.Snapshots.{IsSnapshot, Marked, live}
use Rattle.counts.specs.Sums.{counted_tokens}
use Rattle.counts.proofs.OccurrenceLemmas.{all_counted}
use Rattle.counts.proofs.lengths.total_of.Goals as goal

pub covered_in_all-requires : goal.covered_in_all-requires
covered_in_all-requires c = subst IsSnapshot (sym c.parts.ensures.parts) c.parts.ensures.bounds

pub returns-in-None-clause-exact : goal.returns-in-None-clause-exact
returns-in-None-clause-exact c = λ told.
    let docs = live told c.args.snapshot.now in
    c.token_count.ensures.exact told ∙ sym (all_counted docs) ∙ sym (ap (λ o. sum_by (counted_tokens o) docs) (ap option_copied c.in-None.is))

pub returns-in-Some-clause-exact : goal.returns-in-Some-clause-exact
returns-in-Some-clause-exact c = λ told.
    let docs = live told c.args.snapshot.now in
    c.covered_in_all.ensures.exact told ∙ ap (λ (ms : List Marked). sum_by (counted_tokens (Some c.in-Some.name.now)) (live told ms)) c.parts.ensures.parts
    ∙ sym (ap (λ o. sum_by (counted_tokens o) docs) (ap option_copied c.in-Some.is))
