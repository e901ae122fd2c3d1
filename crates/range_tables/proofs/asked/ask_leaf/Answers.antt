use Rattle.std.proofs.Common.{append-nil, sym}
use Rattle.range_tables.proofs.asked.ask_leaf.Goals as goal

pub returns-in-Extents-clause-terms : goal.returns-in-Extents-clause-terms
returns-in-Extents-clause-terms c = rw c.in-Extents.is c.ask.ensures.terms

pub returns-in-Extents-clause-names : goal.returns-in-Extents-clause-names
returns-in-Extents-clause-names c = rw c.in-Extents.is c.ask.ensures.names

pub returns-in-Prior-clause-terms : goal.returns-in-Prior-clause-terms
returns-in-Prior-clause-terms c = rw c.in-Prior.is (sym (append-nil c.args.asked.now.terms.items))

pub returns-in-Prior-clause-names : goal.returns-in-Prior-clause-names
returns-in-Prior-clause-names c = rw c.in-Prior.is (sym (append-nil c.args.asked.now.names.items))
