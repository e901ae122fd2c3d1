use Rattle.std.proofs.Common.{◌≡◌, sym, arith}
use Rattle.lru.proofs.CallerLemmas.{Contains-lookup}
use Rattle.disk_index.proofs.CacheLemmas.{after_get}
use Rattle.counts.specs.Kept.{kept_of}
use Rattle.counts.specs.declared.kept_sum.SumKey.{SumKey}
use Rattle.counts.proofs.KeptLemmas.{all-mapped, kept-found}
use Rattle.counts.proofs.leaf.kept_at.Goals as goal

pub returns-in-Some-clause-stay : goal.returns-in-Some-clause-stay
returns-in-Some-clause-stay c = all-mapped kept_of _ _ (after_get _ c.args.sums.now.entries c.args.sums.now.cap _ c.get.follows.holds-at-none)

pub returns-in-None-clause-stay : goal.returns-in-None-clause-stay
returns-in-None-clause-stay c = all-mapped kept_of _ _ (after_get _ c.args.sums.now.entries c.args.sums.now.cap _ c.get.follows.holds-at-none)

pub returns-in-Some-clause-found : goal.returns-in-Some-clause-found
returns-in-Some-clause-found c =
    let s = c.in-Some.sum.now in
    let entry = Contains-lookup _ c.args.sums.now.entries s (sym c.in-Some.ensures.value) in
    let k : SumKey = entry.0 in
    let same : k.generation ≡ c.args.key.generation = grind (arith, entry.2) in
    kept-found c.args.sums.now.entries k s c.args.key.generation _ _ c.stats_of.result entry.1 same c.stats_of.ensures.expr c.stats_of.ensures.context c.stats_of.ensures.stats
