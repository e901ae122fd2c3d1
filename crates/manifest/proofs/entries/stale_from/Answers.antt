use Rattle.std.proofs.Common.{sym}
use Rattle.std.proofs.lemmas.Result.{err_from_is_err_and}
use Rattle.manifest.proofs.EntryLemmas.{one_number_more}
use Rattle.ri_base.specs.Reading.{repeat}
use Rattle.manifest.specs.Entries.{behind, stale_number}
use Rattle.ri_base.proofs.Loops.{goes_on, ends, is_done}
use Rattle.manifest.proofs.entries.stale_from.Goals as goal

pub returns-in_err-number-clause-read : goal.returns-in_err-number-clause-read
returns-in_err-number-clause-read c =
    let p = err_from_is_err_and c.from_residual-in_err-number.result c.from_residual-in_err-number.ensures.1 in
    rw (p.1, p.2) (ends (stale_number c.args.next) behind c.in_err-number.field-0.0 c.loop.stale.items c.args.count c.loop.counter (record { low = c.loop.low; used = c.loop.used.keys }) c.loop.rest.now (repeat (stale_number c.args.next) behind c.args.count (record { low = 0; used = c.args.before.keys }) c.args.bytes.now) c.loop-test.true c.in_err-number.ensures c.loop.invariant.read)

pub loop-preserved : goal.loop-preserved
loop-preserved c = record {
  read = rw (c.from-low.ensures, c.in_ok-insert.ensures.keys, c.in_ok-push.ensures.items) (goes_on (stale_number c.args.next) behind c.loop.stale.items c.args.count c.loop.counter (record { low = c.loop.low; used = c.loop.used.keys }) c.loop.rest.now c.in_ok-number.number c.in_ok-number.after.now (repeat (stale_number c.args.next) behind c.args.count (record { low = 0; used = c.args.before.keys }) c.args.bytes.now) c.loop-test.true c.in_ok-number.ensures c.loop.invariant.read);
  used = rw (c.in_ok-insert.ensures.keys, c.in_ok-push.ensures.items, c.loop.invariant.used) (sym (one_number_more c.args.before.keys c.loop.stale.items c.in_ok-number.number));
}

pub returns-clause-read : goal.returns-clause-read
returns-clause-read c = is_done (stale_number c.args.next) behind c.loop.stale.items c.args.count c.loop.counter (record { low = c.loop.low; used = c.loop.used.keys }) c.loop.rest.now (repeat (stale_number c.args.next) behind c.args.count (record { low = 0; used = c.args.before.keys }) c.args.bytes.now) c.loop-test.false c.loop.invariant.read
