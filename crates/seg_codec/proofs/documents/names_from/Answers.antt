use Rattle.std.proofs.Common.{[]}
use Rattle.std.proofs.lemmas.Result.{err_from_is_err_and}
use Rattle.ri_base.specs.Reading.{repeat}
use Rattle.ri_base.specs.Fields.{name_behind}
use Rattle.ri_base.proofs.Loops.{goes_on, ends, is_done}
use Rattle.seg_codec.proofs.documents.names_from.Goals as goal

pub returns-in_err-name : goal.returns-in_err-name
returns-in_err-name c =
    let p = err_from_is_err_and c.from_residual-in_err-name.result c.from_residual-in_err-name.ensures.1 in
    rw (p.1, p.2) (ends (name_behind) (λ _ x. x) c.in_err-name.field-0.0 c.loop.names.items c.args.count c.loop.counter c.loop.before.now c.loop.rest.now (repeat (name_behind) (λ _ x. x) c.args.count [] c.args.bytes.now) c.loop-test.true c.in_err-name.ensures.read c.loop.invariant)

pub loop-preserved : goal.loop-preserved
loop-preserved c =
    rw (c.in_ok-push.ensures.items, c.in_ok-name.ensures.same) (goes_on (name_behind) (λ _ x. x) c.loop.names.items c.args.count c.loop.counter c.loop.before.now c.loop.rest.now c.in_ok-name.name c.in_ok-name.after.now (repeat (name_behind) (λ _ x. x) c.args.count [] c.args.bytes.now) c.loop-test.true c.in_ok-name.ensures.read c.loop.invariant)

pub returns : goal.returns
returns c = is_done (name_behind) (λ _ x. x) c.loop.names.items c.args.count c.loop.counter c.loop.before.now c.loop.rest.now (repeat (name_behind) (λ _ x. x) c.args.count [] c.args.bytes.now) c.loop-test.false c.loop.invariant
