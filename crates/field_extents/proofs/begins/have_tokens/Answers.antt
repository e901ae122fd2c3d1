use Rattle.std.proofs.Common.{◌<◌, arith}
use Rattle.std.proofs.lemmas.List.{take_all}
use Rattle.std.proofs.lemmas.List.Elements.{All-more}
use Rattle.ri_base.specs.Pair.{Pair}
use Rattle.field_extents.proofs.begins.have_tokens.Goals as goal

pub loop-x-preserved : goal.loop-x-preserved
loop-x-preserved c =
    let item = c.x-item.result in
    let some : item.begin < item.end = omega arith in
    All-more (λ (x : Pair). x.begin < x.end) c.args.xs.now c.loop-x.x-index item (omega arith) c.loop-x.invariant (rw (← c.x-item.is) some)

pub returns-clause-some : goal.returns-clause-some
returns-clause-some c = rw (← take_all c.loop-x.x-index c.args.xs.now (omega arith)) c.loop-x.invariant
