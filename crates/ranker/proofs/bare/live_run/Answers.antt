use Rattle.std.proofs.Common.{◌≡◌, arith}
use Rattle.deletion_list.specs.Marks.{marked_count}
use Rattle.deletion_list.proofs.MarkLemmas.{few}
use Rattle.ranker.proofs.BareLemmas.{none-marked}
use Rattle.ranker.proofs.bare.live_run.Goals as goal

pub returns-then-live_count-len-clause-live : goal.returns-then-live_count-len-clause-live
returns-then-live_count-len-clause-live c = λ i low high.
    let marks = c.args.marks.now in
    let unmarked : marked_count marks ≡ 0 = omega (arith, few marks, c.live_count.ensures, c.len.ensures, c.if-live_count-len.true) in
    none-marked marks i unmarked
