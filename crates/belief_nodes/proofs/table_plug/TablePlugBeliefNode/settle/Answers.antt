use Rattle.std.proofs.Common.{rules}
use Rattle.std.specs.Str.{bytes_eq}
use Rattle.ri_base.specs.Ratio.{ratio_of}
use Rattle.belief_nodes.proofs.Plugs.{row_read}
use Rattle.belief_nodes.proofs.table_plug.TablePlugBeliefNode.settle.Goals as goal

pub returns-in-Some-clause-answer : goal.returns-in-Some-clause-answer
returns-in-Some-clause-answer c = search (rules, row_read (bytes_eq c.args.docno.now) c.args.self.now.rows.entries (ratio_of c.args.self.now.rest))

pub returns-in-None-clause-answer : goal.returns-in-None-clause-answer
returns-in-None-clause-answer c = search (rules, row_read (bytes_eq c.args.docno.now) c.args.self.now.rows.entries (ratio_of c.args.self.now.rest))
