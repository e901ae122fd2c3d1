use Rattle.std.proofs.Common.{[], sym}
use Rattle.std.proofs.lemmas.Result.{err_from_is_err_and}
use Rattle.std.proofs.lemmas.List.{map-append}
use Rattle.manifest.proofs.EntryLemmas.{one_number_more}
use Rattle.ri_base.specs.Reading.{repeat}
use Rattle.manifest.specs.Entries.{segment, with_number}
use Rattle.manifest.specs.Files.{numbers_of}
use Rattle.ri_base.proofs.Loops.{goes_on, ends, is_done}
use Rattle.manifest.proofs.entries.segments_from.Goals as goal

pub returns-in_err-segment-clause-read : goal.returns-in_err-segment-clause-read
returns-in_err-segment-clause-read c =
    let p = err_from_is_err_and c.from_residual-in_err-segment.result c.from_residual-in_err-segment.ensures.1 in
    rw (p.1, p.2) (ends (segment c.args.next) (λ used e. with_number used e.number) c.in_err-segment.field-0.0 c.loop.segments.items c.args.count c.loop.counter c.loop.used.keys c.loop.rest.now (repeat (segment c.args.next) (λ used e. with_number used e.number) c.args.count [] c.args.bytes.now) c.loop-test.true c.in_err-segment.ensures c.loop.invariant.read)

pub loop-preserved : goal.loop-preserved
loop-preserved c = record {
  read = rw (c.in_ok-insert.ensures.keys, c.in_ok-push.ensures.items) (goes_on (segment c.args.next) (λ used e. with_number used e.number) c.loop.segments.items c.args.count c.loop.counter c.loop.used.keys c.loop.rest.now c.in_ok-segment.segment c.in_ok-segment.after.now (repeat (segment c.args.next) (λ used e. with_number used e.number) c.args.count [] c.args.bytes.now) c.loop-test.true c.in_ok-segment.ensures c.loop.invariant.read);
  used = rw (c.in_ok-insert.ensures.keys, c.in_ok-push.ensures.items, map-append, c.loop.invariant.used) (sym (one_number_more [] (numbers_of c.loop.segments.items) c.in_ok-segment.segment.number));
}

pub returns-clause-read : goal.returns-clause-read
returns-clause-read c = is_done (segment c.args.next) (λ used e. with_number used e.number) c.loop.segments.items c.args.count c.loop.counter c.loop.used.keys c.loop.rest.now (repeat (segment c.args.next) (λ used e. with_number used e.number) c.args.count [] c.args.bytes.now) c.loop-test.false c.loop.invariant.read
