use Rattle.std.proofs.Common.{◌+◌}
use Rattle.std.proofs.lemmas.Result.{err_from_is_err_and}
use Rattle.ri_base.specs.Reading.{repeat}
use Rattle.seg_codec.specs.Blocks.{block_entry}
use Rattle.ri_base.proofs.Loops.{goes_on, ends, is_done}
use Rattle.seg_codec.proofs.blocks.block_entries_from.Goals as goal

pub returns-in_err-entry : goal.returns-in_err-entry
returns-in_err-entry c =
    let p = err_from_is_err_and c.from_residual-in_err-entry.result c.from_residual-in_err-entry.ensures.1 in
    rw (p.1, p.2) (ends (block_entry c.args.docs.now c.args.range) (λ _ e. e.id + 1) c.in_err-entry.field-0.0 c.loop.entries.items c.args.count c.loop.counter c.loop.low c.loop.rest.now (repeat (block_entry c.args.docs.now c.args.range) (λ _ e. e.id + 1) c.args.count 0 c.args.bytes.now) c.loop-test.true c.in_err-entry.ensures c.loop.invariant)

pub loop-preserved : goal.loop-preserved
loop-preserved c =
    rw (c.from-low.ensures, c.in_ok-push.ensures.items) (goes_on (block_entry c.args.docs.now c.args.range) (λ _ e. e.id + 1) c.loop.entries.items c.args.count c.loop.counter c.loop.low c.loop.rest.now c.in_ok-entry.entry c.in_ok-entry.after.now (repeat (block_entry c.args.docs.now c.args.range) (λ _ e. e.id + 1) c.args.count 0 c.args.bytes.now) c.loop-test.true c.in_ok-entry.ensures c.loop.invariant)

pub returns : goal.returns
returns c = is_done (block_entry c.args.docs.now c.args.range) (λ _ e. e.id + 1) c.loop.entries.items c.args.count c.loop.counter c.loop.low c.loop.rest.now (repeat (block_entry c.args.docs.now c.args.range) (λ _ e. e.id + 1) c.args.count 0 c.args.bytes.now) c.loop-test.false c.loop.invariant
