use Rattle.std.proofs.Common.{map, sym, subst}
use Rattle.query_check.specs.Leaves.{leaf_tree}
use Rattle.range_tables.specs.Gaps.{AreAbsentTo}
use Rattle.range_tables.proofs.AbsentLemmas.{absent_to}
use Rattle.range_tables.proofs.table.next_occurrence.Goals as goal

pub returns : goal.returns
returns g c = λ sound known.
    let docs = g.P.Postings.documents c.args.part.now in
    let leaves = map leaf_tree c.args.leaves.now in
    subst (AreAbsentTo leaves docs c.args.from) (sym c.unwrap_or.ensures) (absent_to leaves docs c.args.from _ c.next_query_range.result (c.next_query_range.ensures.passed sound))
