use Rattle.std.proofs.Common.{sym, ◌∙◌}
use Rattle.query_printer.proofs.Decimals.{nothing_left}
use Rattle.query_printer.proofs.beliefs.push_decimals.Goals as goal

pub returns : goal.returns
returns c = sym (nothing_left c.loop-rest.out.items c.loop-rest.left c.loop-rest.rest c.loop-rest-test.false) ∙ c.loop-rest.invariant.0
