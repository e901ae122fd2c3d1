use Rattle.std.proofs.Common.{◌+◌}
use Rattle.std.proofs.lemmas.Result.{err_from_is_err_and}
use Rattle.ri_base.specs.Reading.{repeat}
use Rattle.ri_base.specs.Fields.{number_between}
use Rattle.ri_base.proofs.Loops.{goes_on, ends, is_done}
use Rattle.ri_base.proofs.field_rising.rising_numbers_at.Goals as goal

pub returns-in_err-number : goal.returns-in_err-number
returns-in_err-number c =
    let p = err_from_is_err_and c.from_residual-in_err-number.result c.from_residual-in_err-number.ensures.1 in
    rw (p.1, p.2) (ends (number_between c.args.top) (λ _ n. n + 1) c.in_err-number.field-0.0 c.loop.numbers.items c.args.count c.loop.counter c.loop.low c.loop.rest.now (repeat (number_between c.args.top) (λ _ n. n + 1) c.args.count 0 c.args.bytes.now) c.loop-test.true c.in_err-number.ensures c.loop.invariant)

pub loop-preserved : goal.loop-preserved
loop-preserved c = rw (c.from-low.ensures, c.in_ok-push.ensures.items) (goes_on (number_between c.args.top) (λ _ n. n + 1) c.loop.numbers.items c.args.count c.loop.counter c.loop.low c.loop.rest.now c.in_ok-number.number c.in_ok-number.after.now (repeat (number_between c.args.top) (λ _ n. n + 1) c.args.count 0 c.args.bytes.now) c.loop-test.true c.in_ok-number.ensures c.loop.invariant)

pub returns : goal.returns
returns c = is_done (number_between c.args.top) (λ _ n. n + 1) c.loop.numbers.items c.args.count c.loop.counter c.loop.low c.loop.rest.now (repeat (number_between c.args.top) (λ _ n. n + 1) c.args.count 0 c.args.bytes.now) c.loop-test.false c.loop.invariant
