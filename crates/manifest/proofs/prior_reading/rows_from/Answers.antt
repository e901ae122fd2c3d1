use Rattle.std.proofs.Common.{[], map}
use Rattle.std.proofs.lemmas.List.{map-append}
use Rattle.std.proofs.lemmas.Result.{err_from_is_err_and}
use Rattle.ri_base.specs.Reading.{repeat}
use Rattle.manifest.specs.Priors.{row, row_of}
use Rattle.ri_base.proofs.Loops.{goes_on, ends, is_done}
use Rattle.manifest.proofs.prior_reading.rows_from.Goals as goal

pub returns-in_err-row : goal.returns-in_err-row
returns-in_err-row c =
    let p = err_from_is_err_and c.from_residual-in_err-row.result c.from_residual-in_err-row.ensures.1 in
    rw (p.1, p.2) (ends row (λ _ r. r.docno) c.in_err-row.field-0.0 (map row_of c.loop.rows.items) c.args.count c.loop.counter c.loop.before.now c.loop.rest.now (repeat row (λ _ r. r.docno) c.args.count [] c.args.bytes.now) c.loop-test.true c.in_err-row.ensures.read c.loop.invariant)

pub loop-preserved : goal.loop-preserved
loop-preserved c = rw (c.in_ok-push.ensures.items, map-append, c.in_ok-row.ensures.same) (goes_on row (λ _ r. r.docno) (map row_of c.loop.rows.items) c.args.count c.loop.counter c.loop.before.now c.loop.rest.now (row_of c.in_ok-row.row) c.in_ok-row.after.now (repeat row (λ _ r. r.docno) c.args.count [] c.args.bytes.now) c.loop-test.true c.in_ok-row.ensures.read c.loop.invariant)

pub returns : goal.returns
returns c = is_done row (λ _ r. r.docno) (map row_of c.loop.rows.items) c.args.count c.loop.counter c.loop.before.now c.loop.rest.now (repeat row (λ _ r. r.docno) c.args.count [] c.args.bytes.now) c.loop-test.false c.loop.invariant
