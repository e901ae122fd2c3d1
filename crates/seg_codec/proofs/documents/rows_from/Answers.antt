use Rattle.std.proofs.lemmas.Result.{err_from_is_err_and}
use Rattle.ri_base.specs.Reading.{repeat}
use Rattle.seg_codec.specs.Documents.{row, first_row}
use Rattle.ri_base.proofs.Loops.{goes_on, ends, is_done}
use Rattle.seg_codec.proofs.documents.rows_from.Goals as goal

pub returns-in_err-row : goal.returns-in_err-row
returns-in_err-row c =
    let p = err_from_is_err_and c.from_residual-in_err-row.result c.from_residual-in_err-row.ensures.1 in
    rw (p.1, p.2) (ends (row c.args.names c.args.tokens) (λ _ r. r) c.in_err-row.field-0.0 c.loop.rows.items c.args.count c.loop.counter c.loop.before c.loop.rest.now (repeat (row c.args.names c.args.tokens) (λ _ r. r) c.args.count first_row c.args.bytes.now) c.loop-test.true c.in_err-row.ensures c.loop.invariant)

pub loop-preserved : goal.loop-preserved
loop-preserved c =
    rw c.in_ok-push.ensures.items (goes_on (row c.args.names c.args.tokens) (λ _ r. r) c.loop.rows.items c.args.count c.loop.counter c.loop.before c.loop.rest.now c.in_ok-row.row c.in_ok-row.after.now (repeat (row c.args.names c.args.tokens) (λ _ r. r) c.args.count first_row c.args.bytes.now) c.loop-test.true c.in_ok-row.ensures c.loop.invariant)

pub returns : goal.returns
returns c = is_done (row c.args.names c.args.tokens) (λ _ r. r) c.loop.rows.items c.args.count c.loop.counter c.loop.before c.loop.rest.now (repeat (row c.args.names c.args.tokens) (λ _ r. r) c.args.count first_row c.args.bytes.now) c.loop-test.false c.loop.invariant
