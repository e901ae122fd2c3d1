use Rattle.std.proofs.Common.{◌≡◌, List, Contains, sym, subst, arith}
use Rattle.lru.proofs.CallerLemmas.{Contains-lookup}
use Rattle.seg_codec.specs.declared.blocks.BlockEntry.{BlockEntry}
use Rattle.disk_index.specs.declared.cache.BlockKey.{BlockKey}
use Rattle.disk_index.proofs.CacheLemmas.{after_get, key_is, ok_some}
use Rattle.disk_index.proofs.cache.kept_at.Goals as goal

pub returns-in-Some-clause-stay : goal.returns-in-Some-clause-stay
returns-in-Some-clause-stay c = after_get _ c.args.kept.now.entries c.args.kept.now.cap _ c.get.follows.holds-at-none

pub returns-in-Some-clause-found : goal.returns-in-Some-clause-found
returns-in-Some-clause-found c =
    let b = c.in-Some.block.now in
    let entry = Contains-lookup _ c.args.kept.now.entries b (sym c.in-Some.ensures.value) in
    let k : BlockKey = entry.0 in
    let key : BlockKey = c.args.key in
    let same : k ≡ key = key_is k key (grind (arith, entry.2)) (grind (arith, entry.2)) (grind (arith, entry.2)) (grind (arith, entry.2)) in
    ok_some c.shared.result b (λ (x : List BlockEntry). Contains c.args.kept.now.entries (c.args.key, x)) c.shared.ensures (subst (λ (j : BlockKey). Contains c.args.kept.now.entries (j, b)) same entry.1)

pub returns-in-None-clause-stay : goal.returns-in-None-clause-stay
returns-in-None-clause-stay c = after_get _ c.args.kept.now.entries c.args.kept.now.cap _ c.get.follows.holds-at-none
