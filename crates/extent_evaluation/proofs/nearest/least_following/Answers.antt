use Rattle.std.proofs.Common.{arith}
use Rattle.extent_evaluation.proofs.NearestLemmas.{IsLeastOf-led, Leads-on}
use Rattle.extent_evaluation.proofs.nearest.least_following.Goals as goal

pub returns-clause-leads : goal.returns-clause-leads
returns-clause-leads c =
    let from = c.start-count.ensures in
    let below = c.begins_below-count.ensures in
    let found = c.shortest-count.ensures in
    Leads-on c.args.ys.now c.requires.rising c.args.n c.args.low c.start-count.result c.begins_below-count.result c.shortest-count.result from.leads from.within below.within (λ k p q. omega (arith, below.others k p q)) found.within found.some found.moved found.behind

pub returns-clause-least : goal.returns-clause-least
returns-clause-least c =
    let from = c.start-count.ensures in
    let below = c.begins_below-count.ensures in
    let found = c.shortest-count.ensures in
    let leads = Leads-on c.args.ys.now c.requires.rising c.args.n c.args.low c.start-count.result c.begins_below-count.result c.shortest-count.result from.leads from.within below.within (λ k p q. omega (arith, below.others k p q)) found.within found.some found.moved found.behind in
    rw c.led_end.ensures.value (IsLeastOf-led c.args.ys.now c.requires.rising c.args.n c.args.low c.begins_below-count.result c.shortest-count.result leads found.within (omega arith) (λ some. omega (arith, below.last some)) found.before)
