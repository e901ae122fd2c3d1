use Rattle.std.proofs.Common.{◌≡◌, arith, rules}
use Rattle.ranked_output.proofs.Division.{first, next, six_places}
use Rattle.ranked_output.proofs.texts.quotient_text.Goals as goal

pub loop-init : goal.loop-init
loop-init c = first c.args.dividend c.args.divisor c.push.new.self.items (search rules)

pub loop-preserved : goal.loop-preserved
loop-preserved c =
    next c.args.dividend c.args.divisor c.loop.counter c.loop.rest c.loop.text.items c.push-in-loop.new.self.items
    c.requires.some c.loop.invariant (search rules)

pub returns : goal.returns
returns c =
    let six : c.loop.counter ≡ 6 = omega arith in
    six_places c.args.dividend c.args.divisor c.loop.rest c.loop.text.items c.requires.some (rw six at c.loop.invariant)
