use Rattle.std.proofs.Common.{None, arith}
use Rattle.ranker.proofs.BareLemmas.{IsBareTo-at}
use Rattle.ranker.proofs.PlaceLemmas.{credit-few, credit-le}
use Rattle.ranker.proofs.bare.bare_to.Goals as goal

pub overflow_add-at : goal.overflow_add-at
overflow_add-at c =
    let few = credit-few c.args.parts.now c.args.at.now c.requires.few c.requires.place in
    omega (arith, few, c.from.ensures, c.bare_at-count.type_inv)

pub overflow_add-at-2 : goal.overflow_add-at-2
overflow_add-at-2 c =
    let few = credit-few c.args.parts.now c.args.at.now c.requires.few c.requires.place in
    omega (arith, few, c.from.ensures, c.bare_at-count.type_inv)

pub returns : goal.returns
returns c =
    let few = credit-le None c.args.parts.now c.args.at.now c.requires.place in
    IsBareTo-at c.args.parts.now c.args.at.now c.bare_at-count.result c.args.live_count c.min.result c.bare_at-count.ensures.bare c.bare_at-count.ensures.ids (omega (arith, few, c.requires.count None)) (omega (arith, c.min.ensures, c.from.ensures))
