use Rattle.std.proofs.lemmas.Result.{err_from_is_err_and}
use Rattle.ri_base.specs.Reading.{repeat}
use Rattle.seg_codec.specs.Dictionary.{block_place, behind}
use Rattle.ri_base.proofs.Loops.{goes_on, ends, is_done}
use Rattle.seg_codec.proofs.dictionary.block_places_from.Goals as goal

pub returns-in_err-block : goal.returns-in_err-block
returns-in_err-block c =
    let p = err_from_is_err_and c.from_residual-in_err-block.result c.from_residual-in_err-block.ensures.1 in
    rw (p.1, p.2) (ends (block_place c.args.docs) (λ _ b. behind b) c.in_err-block.field-0.0 c.loop.places.items c.args.count c.loop.counter (record { low = c.loop.low; at = c.loop.next }) c.loop.rest.now (repeat (block_place c.args.docs) (λ _ b. behind b) c.args.count (record { low = 0; at = c.args.at }) c.args.bytes.now) c.loop-test.true c.in_err-block.ensures c.loop.invariant)

pub loop-preserved : goal.loop-preserved
loop-preserved c =
    rw (c.from-low.ensures, c.from.ensures, c.from-in-loop.ensures, c.in_ok-push.ensures.items) (goes_on (block_place c.args.docs) (λ _ b. behind b) c.loop.places.items c.args.count c.loop.counter (record { low = c.loop.low; at = c.loop.next }) c.loop.rest.now c.in_ok-block.block c.in_ok-block.after.now (repeat (block_place c.args.docs) (λ _ b. behind b) c.args.count (record { low = 0; at = c.args.at }) c.args.bytes.now) c.loop-test.true c.in_ok-block.ensures c.loop.invariant)

pub returns : goal.returns
returns c = is_done (block_place c.args.docs) (λ _ b. behind b) c.loop.places.items c.args.count c.loop.counter (record { low = c.loop.low; at = c.loop.next }) c.loop.rest.now (repeat (block_place c.args.docs) (λ _ b. behind b) c.args.count (record { low = 0; at = c.args.at }) c.args.bytes.now) c.loop-test.false c.loop.invariant
