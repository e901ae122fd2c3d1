use Rattle.std.proofs.Common.{ℕ}
use Rattle.std.proofs.lemmas.Result.{err_from_is_err_and}
use Rattle.ri_base.specs.Reading.{repeat}
use Rattle.seg_codec.specs.Documents.{entry}
use Rattle.ri_base.proofs.Loops.{goes_on, ends, is_done}
use Rattle.seg_codec.proofs.documents.entries_from.Goals as goal

pub returns-in_err-entry : goal.returns-in_err-entry
returns-in_err-entry c =
    let p = err_from_is_err_and c.from_residual-in_err-entry.result c.from_residual-in_err-entry.ensures.1 in
    rw (p.1, p.2) (ends (λ (_ : ℕ). entry c.args.names.now) (λ s _. s) c.in_err-entry.field-0.0 c.loop.entries.items c.args.count c.loop.counter 0 c.loop.rest.now (repeat (λ (_ : ℕ). entry c.args.names.now) (λ s _. s) c.args.count 0 c.args.bytes.now) c.loop-test.true c.in_err-entry.ensures c.loop.invariant)

pub loop-preserved : goal.loop-preserved
loop-preserved c =
    rw c.in_ok-push.ensures.items (goes_on (λ (_ : ℕ). entry c.args.names.now) (λ s _. s) c.loop.entries.items c.args.count c.loop.counter 0 c.loop.rest.now c.in_ok-entry.entry c.in_ok-entry.after.now (repeat (λ (_ : ℕ). entry c.args.names.now) (λ s _. s) c.args.count 0 c.args.bytes.now) c.loop-test.true c.in_ok-entry.ensures c.loop.invariant)

pub returns : goal.returns
returns c = is_done (λ (_ : ℕ). entry c.args.names.now) (λ s _. s) c.loop.entries.items c.args.count c.loop.counter 0 c.loop.rest.now (repeat (λ (_ : ℕ). entry c.args.names.now) (λ s _. s) c.args.count 0 c.args.bytes.now) c.loop-test.false c.loop.invariant
