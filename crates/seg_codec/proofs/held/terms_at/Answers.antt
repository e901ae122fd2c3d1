use Rattle.std.proofs.Common.{◌∙◌}
use Rattle.seg_codec.proofs.HeldSteps.{terms_more}
use Rattle.seg_codec.proofs.held.terms_at.Goals as goal

pub loop-rank-preserved : goal.loop-rank-preserved
loop-rank-preserved c =
    let i = c.loop-rank.rank-index in
    terms_more c.args.terms.now c.args.ranks.now i c.index-terms-rank.result c.in_ok-clone_in.field-0 c.loop-rank.found.items _ c.loop-rank-test.true (c.requires i 0 c.loop-rank-test.true) (c.in_ok-clone_in.ensures ∙ c.index-terms-rank.is) c.in_ok-push.ensures.items c.loop-rank.invariant
