use Rattle.std.proofs.Common.{rules, ◌≡◌, ◌<◌, ◌∙◌, true, length, arith}
use Rattle.extent_walks.specs.Shapes.{is_monotone, plans_shape}
use Rattle.extent_walks.specs.Walks.{plans}
use Rattle.extent_walks.proofs.ChainLemmas.{IsReached-new, chained_of, plans_count-is}
use Rattle.extent_walks.proofs.WalkLaws.{IsKept-Chain}
use Rattle.extent_walks.proofs.walk.chain_of.Goals as goal

pub returns-then-is_monotone-clause-kept : goal.returns-then-is_monotone-clause-kept
returns-then-is_monotone-clause-kept c =
    let xs = c.args.all.items in
    let some : 0 < length xs = search rules in
    let up : is_monotone (plans_shape (plans xs)) ≡ true = rw (← c.deref.ensures.value, ← c.weakest.ensures, ← c.is_monotone.ensures) c.if-is_monotone.true in
    rw IsKept-Chain (c.requires, chained_of xs some up, IsReached-new c.args.n (plans xs) c.in_ok-reach.reach (c.in_ok-reach.ensures.count ∙ omega (arith, c.len.ensures, c.args.all.ok.0, plans_count-is xs)) c.in_ok-reach.ensures.zero)
