use Rattle.std.proofs.Common.{rules}
use Rattle.belief_nodes.proofs.Plugs.{table_greatest}
use Rattle.belief_nodes.proofs.table_plug.TablePlugBeliefNode.greatest.Goals as goal

pub returns-in-Some : goal.returns-in-Some
returns-in-Some c = table_greatest c.args.self.now.rest c.in-Some.f c.greater.result c.args.self.now.rows.entries (search rules) c.greater.ensures
