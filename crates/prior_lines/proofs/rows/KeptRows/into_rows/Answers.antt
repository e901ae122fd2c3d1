use Rattle.std.proofs.Common.{rules, ◌≡◌}
use Rattle.prior_lines.proofs.SortedLemmas.{sorted_is_prior, sorted_rows}
use Rattle.prior_lines.proofs.rows.KeptRows.into_rows.Goals as goal

pub of-requires : goal.of-requires
of-requires c =
    let same : c.in_ok-rows.rows.items ≡ c.sort_keys.new.self.entries = search rules in
    rw same (sorted_is_prior c.into_parts-rest.result.0 c.into_parts-rest.result.1.entries c.sort_keys.new.self.entries c.args.self c.into_parts-rest.ensures.same c.in_ok-sort_keys.ensures.reordered.0 c.into_parts-rest.ensures.form (search rules) (search rules))

pub returns-clause-rows : goal.returns-clause-rows
returns-clause-rows c =
    let same : c.in_ok-rows.rows.items ≡ c.sort_keys.new.self.entries = search rules in
    rw (c.of.ensures, same) (sorted_rows c.into_parts-rest.result.0 c.into_parts-rest.result.1.entries c.sort_keys.new.self.entries c.args.self c.into_parts-rest.ensures.same c.in_ok-sort_keys.ensures.reordered.0)
