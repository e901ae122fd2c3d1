use Rattle.std.proofs.Common.{length}
use Rattle.query_printer.proofs.queries.+push_filtered.Given as goal

abbrev pub decreases-push_filtered : goal.decreases-push_filtered
decreases-push_filtered l = length l.filters.now
