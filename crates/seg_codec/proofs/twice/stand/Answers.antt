use Rattle.std.proofs.Common.{◌<◌, ◌+◌, ◌++◌, ◌^◌, None, arith}
use Rattle.seg_codec.specs.Twice.{sizes, standing}
use Rattle.seg_codec.proofs.SizeLaws.{size_fits, size_moves, standing_moves}
use Rattle.seg_codec.proofs.twice.stand.Goals as goal

pub overflow_add-end : goal.overflow_add-end
overflow_add-end c =
    let fits : c.loop-posting.end + c.size_behind-end.result < 2 ^ 64 =
    size_fits c.loop-posting.end c.loop-posting.before c.args.postings.now c.loop-posting.posting-index _ c.size_behind-end.result (c.args.start + sizes None c.args.postings.now) (2 ^ 64) c.loop-posting-test.true c.size_behind-end.ensures c.loop-posting.invariant.end c.requires in
    omega arith

pub loop-posting-preserved : goal.loop-posting-preserved
loop-posting-preserved c =
    let ps = c.args.postings.now in
    let i = c.loop-posting.posting-index in
    record {
      stand = standing_moves c.loop-posting.end c.loop-posting.before ps i _ c.size_behind-end.result c.loop-posting.out.items _ (c.args.out.now.items ++ standing c.args.start None ps) c.loop-posting-test.true c.size_behind-end.ensures c.in_ok-push.ensures.items c.loop-posting.invariant.stand;
      end = size_moves c.loop-posting.end c.loop-posting.before ps i _ c.size_behind-end.result (c.args.start + sizes None ps) c.loop-posting-test.true c.size_behind-end.ensures c.loop-posting.invariant.end;
    }
