use Rattle.std.proofs.Common.{◌≡◌, ◌≤◌, length, ap, arith}
use Rattle.deletion_list.specs.Marks.{marked_count}
use Rattle.deletion_list.proofs.MarkLemmas.{few}
use Rattle.ranker.specs.Passed.{live_ids}
use Rattle.ranker.proofs.PassedLemmas.{ids-all, ids-each}
use Rattle.ranker.proofs.unseen.pass_unseen.Goals as goal

-- ---- none is marked

pub returns-then-live-size-clause-passed : goal.returns-then-live-size-clause-passed
returns-then-live-size-clause-passed c =
    let marks = c.args.marks.now in
    let to = c.pass_live.result in
    let none : marked_count marks ≡ 0 = omega (arith, few marks, c.live_count-live.ensures, c.len-size.ensures, c.if-live-size.true) in
    let inside : to.id ≤ length marks = omega (arith, c.pass_live.ensures.id, c.pass_live.ensures.docs, c.min-end.ensures, c.len-size.ensures, c.requires.id, c.requires.end) in
    let first : live_ids marks c.args.id ≡ c.args.id = ids-each marks c.args.id none (omega (arith, c.requires.id)) in
    let last : live_ids marks to.id ≡ to.id = ids-each marks to.id none inside in
    record {
      inside = inside;
      docs = omega (arith, first, last, c.pass_live.ensures.id);
      few = omega (arith, c.pass_live.ensures.docs);
    }

-- ---- these are all ids

pub returns-then-is_whole-clause-passed : goal.returns-then-is_whole-clause-passed
returns-then-is_whole-clause-passed c =
    let marks = c.args.marks.now in
    let whole = c.is_whole.ensures c.if-is_whole.true in
    let all = ids-all marks in
    let same = ap (live_ids marks) whole.1 in
    let none = ap (live_ids marks) whole.0 in
    record {
      inside = omega (arith, whole.1);
      docs = omega (arith, all, same, none, c.live_count-live.ensures, few marks);
      few = omega (arith, whole.2, c.live_count-live.ensures);
    }
