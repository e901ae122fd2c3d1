use Rattle.std.proofs.Common.{◌<◌, ℕ, get_or, arith}
use Rattle.std.proofs.lemmas.List.Elements.{All-more}
use Rattle.seg_codec.proofs.ranks.is_full.Goals as goal

pub loop-rank-preserved : goal.loop-rank-preserved
loop-rank-preserved c =
    let i = c.loop-rank.rank-index in
    let below : get_or c.args.ranks.now i 0 < c.args.terms = omega arith in
    All-more (λ (r : ℕ). r < c.args.terms) c.args.ranks.now i 0 c.loop-rank-test.true c.loop-rank.invariant below
