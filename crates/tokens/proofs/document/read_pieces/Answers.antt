use Rattle.std.proofs.Common.{length, rules}
use Rattle.tokens.proofs.ContentLemmas.{at_end, ended}
use Rattle.tokens.proofs.document.read_pieces.Goals as goal

pub returns-clause-fields : goal.returns-clause-fields
returns-clause-fields c = ended c.args.pieces c.loop-piece.fields c.close_all.new.fields c.len.result c.loop-piece.opened c.loop-piece.invariant.2.0 c.loop-piece.invariant.3 c.in_ok-close_all.ensures.names c.loop-piece.invariant.2.1
    (at_end c.loop-piece.fields _ (length c.loop-piece.tokens) c.len.result c.loop-piece.invariant.2.0 c.loop-piece.piece-iterator.rest.items (search rules) c.len.ensures c.loop-piece.invariant.2.2) c.in_ok-close_all.ensures.fields
