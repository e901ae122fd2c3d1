use Rattle.std.proofs.Common.{◌≤◌, ◌*◌, arith}
use Rattle.windows.proofs.LeftLemmas.{passages_from-none}
use Rattle.windows.proofs.contexts.passage.Goals as goal

pub returns-then-begin-from-clause-exact : goal.returns-then-begin-from-clause-exact
returns-then-begin-from-clause-exact c =
    let past : c.args.tokens ≤ c.args.number * c.args.every = grind (arith) in
    passages_from-none c.args.tokens c.args.width c.args.every c.args.number past
