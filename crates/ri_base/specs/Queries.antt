-- The plain tree that a query stands for.
use Rattle.ri_base.specs.Query.{QueryTree, query_tree}
use Rattle.ri_base.specs.declared.query.Query.{Query}

abbrev pub whole_tree : Query → QueryTree
whole_tree q = query_tree q.filters.items q.range q.beliefs.items
