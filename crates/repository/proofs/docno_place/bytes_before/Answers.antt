use Rattle.std.proofs.Common.{ap, arith}
use Rattle.std.proofs.lemmas.List.Sums.{get_or-le-sum_by, sum_by_more, sum_by_more_le}
use Rattle.repository.specs.Places.{bytes_of}
use Rattle.repository.proofs.docno_place.bytes_before.Goals as goal

pub entry_bytes-before-requires : goal.entry_bytes-before-requires
entry_bytes-before-requires c =
    let within = get_or-le-sum_by bytes_of c.args.entries.now c.loop-entry.entry-index c.entry-item.result c.loop-entry-test.true in
    omega (arith, within, ap bytes_of c.entry-item.is, c.requires)

pub overflow_sub-before : goal.overflow_sub-before
overflow_sub-before c =
    let within = sum_by_more_le bytes_of c.args.entries.now c.loop-entry.entry-index c.entry-item.result c.loop-entry-test.true in
    omega (arith, within, c.loop-entry.invariant, ap bytes_of c.entry-item.is, c.entry_bytes-before.ensures, c.requires)

pub loop-entry-preserved : goal.loop-entry-preserved
loop-entry-preserved c =
    let within = sum_by_more_le bytes_of c.args.entries.now c.loop-entry.entry-index c.entry-item.result c.loop-entry-test.true in
    let more = sum_by_more bytes_of c.args.entries.now c.loop-entry.entry-index c.entry-item.result c.loop-entry-test.true in
    omega (arith, within, more, c.loop-entry.invariant, ap bytes_of c.entry-item.is, c.entry_bytes-before.ensures, c.requires)
