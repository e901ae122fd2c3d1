use Rattle.std.proofs.Common.{rules}
use Rattle.command_pieces.proofs.Cut.{cut_one}
use Rattle.command_pieces.proofs.reply.Reply.write.Goals as goal

pub returns-in-Err-Failed-clause-broken : goal.returns-in-Err-Failed-clause-broken
returns-in-Err-Failed-clause-broken g c =
    let front = c.in-Err-Failed.ensures.front (search rules) in
    cut_one _ _ front.0 _ _ (search rules) front.1
